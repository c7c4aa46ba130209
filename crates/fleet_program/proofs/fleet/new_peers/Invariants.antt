use Rattle.std.proofs.Common.{◌≡◌}
use Rattle.fleet_program.specs.Settings.{peers_of}
use Rattle.fleet_program.proofs.fleet.new_peers.Given as goal

abbrev pub invariant-loop-other : goal.invariant-loop-other
invariant-loop-other g l = l.peers.items ≡ peers_of l.site l.other
