use Rattle.fleet_pending.specs.FreeId.{TakenTo}
use Rattle.fleet_pending.proofs.search.first_free_id.Given as goal

abbrev pub invariant-loop-passed : goal.invariant-loop-passed
invariant-loop-passed g l = TakenTo l.word l.entries l.passed
