use Rattle.fleet_pending.specs.PendingData.{AsksFor}
use Rattle.fleet_pending.proofs.Placed.{NoneBefore}
use Rattle.fleet_pending.proofs.search.place_of_question.Given as goal

abbrev pub invariant-loop-i : goal.invariant-loop-i
invariant-loop-i g l = NoneBefore (λ e. AsksFor l.question e) l.entries l.i
