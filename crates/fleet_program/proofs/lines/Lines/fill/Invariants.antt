use Rattle.std.proofs.Common.{◌≡◌, ◌≤◌}
use Rattle.fleet_program.proofs.lines.Lines.fill.Given as goal

abbrev pub invariant-loop-self : goal.invariant-loop-self
invariant-loop-self g l = (l.self.start ≡ 0) × (l.self.end ≡ 0)
    × (l.self.calls.left ≤ l.fn.self.calls.left)

abbrev pub decreases-loop-self : goal.decreases-loop-self
decreases-loop-self g l = l.self.calls.left
