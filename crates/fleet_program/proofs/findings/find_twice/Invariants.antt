use Rattle.fleet_program.specs.Findings.{faults_of}
use Rattle.fleet_program.proofs.FindTwice.{IfNoneRepeats}
use Rattle.fleet_program.proofs.findings.find_twice.Given as goal

abbrev pub invariant-loop-at : goal.invariant-loop-at
invariant-loop-at l =
    IfNoneRepeats l.stated l.at (faults_of l.fn.findings.items) (faults_of l.findings.items)
