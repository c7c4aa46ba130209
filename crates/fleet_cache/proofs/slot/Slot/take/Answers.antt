use Rattle.std.proofs.Common.{◌≡◌, ◌∷◌, ◌↔◌, false, sym, subst}
use Rattle.fleet_observe.specs.Observation.{Observations}
use Rattle.fleet_cache.specs.Dominates.{dominates}
use Rattle.fleet_cache.specs.Front.{IsFront}
use Rattle.fleet_cache.specs.Cached.{IsCovered}
use Rattle.fleet_cache.specs.steps.Row.{row}
use Rattle.fleet_cache.specs.steps.Soonest.{NoneSooner}
use Rattle.fleet_cache.proofs.slot.Slot.take.Goals as goal

pub invariant_of-self-then-kept : goal.invariant_of-self-then-kept
invariant_of-self-then-kept g c =
    subst (NoneSooner c.soonest_of-self-inside.result) c.items.ensures.items
    c.soonest_of-self-inside.ensures

pub invariant_of-self-else-kept : goal.invariant_of-self-else-kept
invariant_of-self-else-kept g c = subst (NoneSooner c.self.inside.soonest)
    (sym (c.in_ok-kept.ensures.same c.if-kept.false)) c.self.invariant

pub returns-then-kept-clause-taken : goal.returns-then-kept-clause-taken
returns-then-kept-clause-taken g c = subst (λ v. (s : Observations) → IsFront row dominates s v
    → IsFront row dominates (c.args.item ∷ s) c.take.new.self) c.self.view_is
    c.in_ok-kept.ensures.taken

pub returns-then-kept-clause-kept : goal.returns-then-kept-clause-kept
returns-then-kept-clause-kept g c = subst (λ v. (c.in_ok-kept.kept ≡ false)
    ↔ IsCovered v c.args.item) c.self.view_is c.in_ok-kept.ensures.kept

pub returns-else-kept-clause-taken : goal.returns-else-kept-clause-taken
returns-else-kept-clause-taken g c = subst (λ v. (s : Observations) → IsFront row dominates s v
    → IsFront row dominates (c.args.item ∷ s) c.take.new.self) c.self.view_is
    c.in_ok-kept.ensures.taken
