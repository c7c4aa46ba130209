use Rattle.std.proofs.Common.{◌≤◌, vec_len}
use Rattle.fleet_program.specs.declared.lines.TheConstants.{LONGEST}
use Rattle.fleet_program.proofs.lines.Lines.read.Given as goal

abbrev pub invariant-loop-self : goal.invariant-loop-self
invariant-loop-self g l = vec_len l.line ≤ LONGEST

abbrev pub decreases-loop-self : goal.decreases-loop-self
decreases-loop-self g l = l.self.calls.left
