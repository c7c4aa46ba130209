use Rattle.std.proofs.Common.{length}
use Rattle.fleet_program.proofs.NameIn.{IsReadTo}
use Rattle.fleet_program.proofs.names.name_in.Given as goal

abbrev pub invariant-loop-rest : goal.invariant-loop-rest
invariant-loop-rest g l = IsReadTo l.fn.text l.rest l.label.items l.name

abbrev pub decreases-loop-rest : goal.decreases-loop-rest
decreases-loop-rest g l = length l.rest
