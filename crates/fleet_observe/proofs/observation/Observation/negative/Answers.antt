use Rattle.std.proofs.Common.{◌∙◌, arith, refl, subst, sym}
use mathlib.Core.Bool.{false≢true}
use Rattle.fleet_observe.specs.Body.{IsDenial}
use Rattle.fleet_observe.specs.Checks.{MakesNegative, bad_body}
use Rattle.fleet_observe.specs.Soa.{SoaData}
use Rattle.fleet_observe.proofs.ObservationNegative.{negative_lawful, denied_negative}
use Rattle.fleet_observe.proofs.observation.Observation.negative.Goals as goal

pub invariant_of-result : goal.invariant_of-result
invariant_of-result g c =
    let denial : IsDenial c.args.name c.soa.inside.owner c.as_slice.result.now =
    c.is_denial.ensures.0 c.if-not-is_denial.false in
    let body : IsDenial c.args.name c.soa.inside.owner c.soa.inside.rdata =
    subst (IsDenial c.args.name c.soa.inside.owner) c.as_slice.ensures denial in
    let made : MakesNegative c.args.name c.args.rtype c.args.rank c.args.life c.soa.inside.owner
    c.soa.inside.rdata = record {
      ranked = c.is_denial_rank.ensures.0 c.if-not-is_denial_rank.false;
      lasts = c.is_life.ensures.0 c.if-not-is_life.false;
      typed = c.is_denied_type.ensures.0 c.if-not-is_denied_type.false;
      body = body;
    } in (
      rw (c.kind_of_denial.ensures, c.unwrap_or.ensures) (negative_lawful c.args.name c.args.rtype
          c.args.rank c.args.stamp c.args.life c.soa.inside.owner c.soa.inside.rdata
          c.octets.ensures.named (omega arith) made),
      (rw c.kind_of_denial.ensures (denied_negative c.args.rtype), body),
    )

pub returns-then-not-is_denial-clause-checks : goal.returns-then-not-is_denial-clause-checks
returns-then-not-is_denial-clause-checks g c =
    let inside : IsDenial c.args.name c.args.soa.owner c.args.soa.rdata
    → IsDenial c.args.name c.soa.inside.owner c.soa.inside.rdata = λ denial.
    subst (λ (x : SoaData). IsDenial c.args.name x.owner x.rdata) (sym c.soa.view_is) denial in
    bad_body (c.is_denial_rank.ensures.0 c.if-not-is_denial_rank.false)
    (c.is_life.ensures.0 c.if-not-is_life.false)
    (c.is_denied_type.ensures.0 c.if-not-is_denied_type.false)
    (λ denial. false≢true (sym c.if-not-is_denial.true ∙ c.is_denial.ensures.1 (subst
    (IsDenial c.args.name c.soa.inside.owner) (sym c.as_slice.ensures) (inside denial)))) refl
