use Rattle.std.proofs.Common.{◌≡◌, ◌++◌, List}
use Rattle.fleet_observe.specs.Observation.{ObservationData}
use Rattle.fleet_gossip.specs.steps.Packs.{Packs}
use Rattle.fleet_gossip.proofs.packer.sweep.Given as goal

abbrev pub invariant-loop-observation : goal.invariant-loop-observation
invariant-loop-observation g l = record {
  taken : List ObservationData;
  split : l.fn.cache.items ≡ taken ++ l.observation-iterator;
  packs : Packs l.packer taken;
}
