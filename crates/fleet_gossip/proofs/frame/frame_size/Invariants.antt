use Rattle.std.proofs.Common.{take}
use Rattle.fleet_gossip.specs.steps.Reading.{FitsFrame}
use Rattle.fleet_gossip.proofs.frame.frame_size.Given as goal

abbrev pub invariant-loop-observation : goal.invariant-loop-observation
invariant-loop-observation g l = FitsFrame (take l.observation-index l.observations) l.size
