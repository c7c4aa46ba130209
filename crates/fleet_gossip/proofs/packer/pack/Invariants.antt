use Rattle.std.proofs.Common.{take}
use Rattle.fleet_gossip.specs.steps.Packs.{Packs}
use Rattle.fleet_gossip.proofs.packer.pack.Given as goal

abbrev pub invariant-loop-observation : goal.invariant-loop-observation
invariant-loop-observation g l = Packs l.packer (take l.observation-index l.observations)
