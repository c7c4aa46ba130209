use Rattle.fleet_pending.proofs.FreeId.{AreTakenTo}
use Rattle.fleet_pending.proofs.search.mark_taken.Given as goal

abbrev pub invariant-loop-entry : goal.invariant-loop-entry
invariant-loop-entry g l = AreTakenTo l.word l.entries l.entry-index l.taken
