use Rattle.fleet_pending.proofs.FirstDue.{FirstTo}
use Rattle.fleet_pending.proofs.search.first_due_entry.Given as goal

abbrev pub invariant-loop-entry : goal.invariant-loop-entry
invariant-loop-entry g l = FirstTo l.entries l.now l.entry-index l.first
