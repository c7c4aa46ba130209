use Rattle.fleet_cache.specs.steps.Held.{IsHeld}
use Rattle.fleet_cache.specs.steps.Reclaimed.{IsReclaimed}
use Rattle.fleet_cache.proofs.reclaim.reclaim.Given as goal

abbrev pub invariant-loop-left : goal.invariant-loop-left
invariant-loop-left g l = IsReclaimed l.now l.initial.held l.held × IsHeld l.held

abbrev pub decreases-loop-left : goal.decreases-loop-left
decreases-loop-left g l = l.left
