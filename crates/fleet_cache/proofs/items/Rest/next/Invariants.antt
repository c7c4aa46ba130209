use Rattle.std.proofs.Common.{◌≡◌, ◌++◌, length}
use Rattle.fleet_cache.specs.steps.Slots.{concat}
use Rattle.fleet_cache.proofs.items.Rest.next.Given as goal

abbrev pub invariant-loop-self : goal.invariant-loop-self
invariant-loop-self g l = l.self-inside.front.now ++ concat l.self-inside.fronts ≡ l.fn.self

abbrev pub decreases-loop-self : goal.decreases-loop-self
decreases-loop-self g l = length l.self-inside.fronts
