use Rattle.std.proofs.Common.{length}
use Rattle.fleet_name.proofs.Whole.{Reads}
use Rattle.fleet_name.proofs.name.labels_in.Given as goal

abbrev pub invariant-loop-rest : goal.invariant-loop-rest
invariant-loop-rest l = Reads l.octets l.rest l.labels

abbrev pub decreases-loop-rest : goal.decreases-loop-rest
decreases-loop-rest l = length l.rest
