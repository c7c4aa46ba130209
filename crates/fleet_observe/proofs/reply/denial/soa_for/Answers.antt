use Rattle.std.proofs.Common.{◌∙◌, ap, sym, refl}
use mathlib.Core.Bool.{false≢true}
use Rattle.fleet_wire.specs.Record.{RecordData}
use Rattle.fleet_observe.specs.DigestOf.{HasSoa}
use Rattle.fleet_observe.proofs.Results.{if_err}
use Rattle.fleet_observe.proofs.Soas.{none_counts, other_counts, first_member, soa_long}
use Rattle.fleet_observe.proofs.reply.denial.soa_for.Goals as goal

pub returns-in_default-clause-soa : goal.returns-in_default-clause-soa
returns-in_default-clause-soa g c = none_counts _ _ c.in_default.ensures

pub returns-then-not-is_under-clause-soa : goal.returns-then-not-is_under-clause-soa
returns-then-not-is_under-clause-soa g c = other_counts _ _ _
    (rw (← c.record.view_is) at c.in-Some.ensures) (λ u. false≢true (sym c.if-not-is_under.true
    ∙ c.is_under.ensures.1 u))

pub minimum-requires : goal.minimum-requires
minimum-requires g c =
    let is = rw (← c.record.view_is) at c.in-Some.ensures in
    rw c.as_slice.ensures (soa_long _
    (rw is.soa.rtype at (c.requires _ (first_member _ _ is)).rdata))

pub returns-in_err-try_clone-2-clause-memory : goal.returns-in_err-try_clone-2-clause-memory
returns-in_err-try_clone-2-clause-memory g c =
    let under = rw (ap (λ (r : RecordData). r.name) c.record.view_is) at (c.is_under.ensures.0
    c.if-not-is_under.false) in
    if_err (HasSoa c.args.authority.now c.args.denied.now) _
    (c.in-Some.record.now, record { first = c.in-Some.ensures; under = under })

pub returns-clause-soa : goal.returns-clause-soa
returns-clause-soa g c = record {
  carrier = _;
  counts = record {
    first = rw (← c.record.view_is) at c.in-Some.ensures;
    under = c.is_under.ensures.0 c.if-not-is_under.false;
  };
  owner = c.in_ok-try_clone.ensures;
  ttl = c.min-2.ensures ∙ rw (
    c.min.ensures,
    c.bounded_ttl-own.ensures,
    c.bounded_ttl-least.ensures,
    c.minimum.ensures,
    c.as_slice.ensures,
  ) refl;
  rdata = c.in_ok-try_clone-2.ensures;
}
