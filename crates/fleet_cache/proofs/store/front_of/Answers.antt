use Rattle.std.proofs.Common.{[], ◌∷◌, sym, ap, subst, length, arith}
use Rattle.fleet_front.specs.Front.{IsFront as IsFrontOf}
use Rattle.fleet_cache.specs.Dominates.{dominates}
use Rattle.fleet_cache.specs.steps.Row.{row}
use Rattle.fleet_cache.proofs.Slots.{nil_front}
use Rattle.fleet_cache.proofs.store.front_of.Goals as goal

pub returns-clause-front : goal.returns-clause-front
returns-clause-front g c = subst (λ v. IsFrontOf row dominates (v ∷ []) c.take.new.self)
    c.new.ensures
    (c.in_ok-take.ensures.taken [] (subst (IsFrontOf row dominates [])
    (sym c.new-front.ensures) (nil_front row dominates)))

pub returns-clause-size : goal.returns-clause-size
returns-clause-size g c = let none = ap length c.new-front.ensures
    in omega (arith, none, c.in_ok-take.ensures.size)
