use Rattle.fleet_program.specs.Findings.{AddsSome, faults_of}
use Rattle.fleet_program.proofs.findings.find_in_items.Given as goal

abbrev pub invariant-loop-at : goal.invariant-loop-at
invariant-loop-at l = AddsSome l.fault (faults_of l.fn.findings.items) (faults_of l.findings.items)
