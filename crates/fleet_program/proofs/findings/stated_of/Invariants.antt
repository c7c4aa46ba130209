use Rattle.std.proofs.Common.{◌≡◌, take}
use Rattle.fleet_program.specs.Findings.{addrs_of}
use Rattle.fleet_program.proofs.findings.stated_of.Given as goal

abbrev pub invariant-loop-at : goal.invariant-loop-at
invariant-loop-at l = addrs_of l.stated.items ≡ take l.at l.addrs
