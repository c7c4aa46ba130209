use Rattle.std.proofs.Common.{inl, inr, arith, refl, subst, ℕ, List, sym}
use Rattle.fleet_wire.specs.Shape.{IsPlain}
use Rattle.fleet_observe.specs.Members.{Has}
use Rattle.fleet_observe.proofs.Lists.{has_from, has_at}
use Rattle.fleet_observe.proofs.observation.values.are_plain.Goals as goal
use mathlib.Core.Bool.{false≢true}

pub returns-then-not-plain_rdata : goal.returns-then-not-plain_rdata
returns-then-not-plain_rdata g c =
    let here : Has c.args.rdatas.now c.rdata-item.result = has_at c.args.rdatas.now
    c.loop-rdata.rdata-index c.rdata-item.result (omega arith) c.rdata-item.is in (
      λ h. absurd (false≢true h),
      λ all. absurd
          (false≢true (c.if-not-plain_rdata.ensures.1 (let P : List ℕ
          → Type 0 = IsPlain c.args.rtype in
          subst P (sym c.as_slice.ensures) (all c.rdata-item.result here)))),
    )

pub loop-rdata-preserved : goal.loop-rdata-preserved
loop-rdata-preserved g c = λ rest. c.loop-rdata.invariant
    (λ d has. elim (has_from c.args.rdatas.now c.loop-rdata.rdata-index c.rdata-item.result d
    (omega arith) c.rdata-item.is has) [
      | inl e ↦ (let P : List ℕ → Type 0 = IsPlain c.args.rtype in
          subst P e (subst P c.as_slice.ensures (c.if-not-plain_rdata.ensures.0 refl)))
      | inr h ↦ rest d h
    ])
