use Rattle.std.proofs.Common.{ℕ, inl, inr, ap, arith}
use Rattle.fleet_observe.specs.Observation.{expires}
use Rattle.fleet_cache.proofs.LentItems.{has_from, none_behind}
use Rattle.fleet_cache.proofs.slot.soonest_of.Goals as goal

pub loop-item-preserved : goal.loop-item-preserved
loop-item-preserved g c = λ o has. elim (c.loop-item.invariant o has) [
  | inr later ↦ inr (omega (arith, later, c.min-soonest.ensures))
  | inl behind ↦ elim (has_from c.args.items.now c.loop-item.item-index c.item-item.result o
      (omega arith) c.item-item.is behind) [
        | inr more ↦ inl more
        | inl same ↦
            let ends = ap {B = ℕ} expires same in
            let shown = ap {B = ℕ} expires c.observation.ensures in
            inr (omega (arith, ends, shown, c.min-soonest.ensures, c.expires.ensures.value))
      ]
]

pub returns : goal.returns
returns g c = λ o has. elim (c.loop-item.invariant o has) [
  | inl behind ↦ absurd (none_behind c.args.items.now c.loop-item.item-index o c.loop-item-test.false
      behind)
  | inr later ↦ later
]
