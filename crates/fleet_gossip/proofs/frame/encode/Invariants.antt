use Rattle.std.proofs.Common.{◌≡◌, ◌++◌, drop}
use Rattle.fleet_gossip.specs.Frame.{entries, frame_octets}
use Rattle.fleet_gossip.specs.declared.frame.TheConstants.{VERSION}
use Rattle.fleet_gossip.proofs.frame.encode.Given as goal

abbrev pub invariant-loop-observation : goal.invariant-loop-observation
invariant-loop-observation g l = l.frame.items ++ entries (drop l.observation-index l.observations)
    ≡ frame_octets VERSION l.observations
