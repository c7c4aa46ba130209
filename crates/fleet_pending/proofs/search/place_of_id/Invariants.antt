use Rattle.fleet_pending.specs.PendingData.{UsesId}
use Rattle.fleet_pending.proofs.Placed.{NoneBefore}
use Rattle.fleet_pending.proofs.search.place_of_id.Given as goal

abbrev pub invariant-loop-i : goal.invariant-loop-i
invariant-loop-i g l = NoneBefore (λ e. UsesId l.id e) l.entries l.i
