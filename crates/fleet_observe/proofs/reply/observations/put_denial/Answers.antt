use Rattle.std.proofs.Common.{ap, refl, subst, arith}
use Rattle.fleet_name.specs.Name.{labels_of}
use Rattle.fleet_observe.specs.Checks.{denied_kind, denied_type, IsNegativeFault}
use Rattle.fleet_observe.specs.Soa.{SoaData}
use Rattle.fleet_observe.proofs.Kept.{negative_kept, negative_made, negative_some}
use Rattle.fleet_observe.proofs.Results.{if_err}
use Rattle.fleet_observe.proofs.reply.observations.put_denial.Goals as goal

pub unreachable-requires : goal.unreachable-requires
unreachable-requires g c =
    let why = rw (
      c.in_ok-name.ensures,
      c.in_ok-try_clone.ensures,
      c.in_ok-try_clone-2.ensures,
    ) at c.in_default.ensures.checks in
    negative_made c.in_default.field-0 (labels_of c.args.denied.now) c.args.rtype c.args.rank
    c.args.soa.now (omega (arith, ap (λ (x : SoaData). x.ttl) c.soa.view_is)) c.requires.lawful
    c.requires.ranked c.requires.typed
    (subst (λ (x : SoaData). IsNegativeFault (labels_of c.args.denied.now) c.args.rtype c.args.rank
    x.ttl x.owner x.rdata c.in_default.field-0) c.soa.view_is why)

pub returns-in_err-push-clause-memory : goal.returns-in_err-push-clause-memory
returns-in_err-push-clause-memory g c = if_err _ _ (negative_some (denied_kind c.args.rtype)
    (labels_of c.args.denied.now) (denied_type c.args.rtype) c.args.rank c.args.stamp
    c.args.soa.now (omega (arith, ap (λ (x : SoaData). x.ttl) c.soa.view_is)))

pub returns-clause-added : goal.returns-clause-added
returns-clause-added g c =
    let kept = negative_kept (denied_kind c.args.rtype) (labels_of c.args.denied.now)
    (denied_type c.args.rtype) c.args.rank c.args.stamp c.args.soa.now
    (omega (arith, ap (λ (x : SoaData). x.ttl) c.soa.view_is)) in
    rw (
      kept,
      ← c.soa.view_is,
      c.in_ok-push.ensures.items,
      c.in-Ok.ensures.value,
      c.in_ok-name.ensures,
      c.in_ok-try_clone.ensures,
      c.in_ok-try_clone-2.ensures,
    ) refl
