use Rattle.std.proofs.Common.{◌≡◌, ◌+◌, ◌++◌, List, length}
use Rattle.fleet_observe.specs.Observation.{ObservationData}
use Rattle.fleet_gossip.specs.Entry.{AreIn}
use Rattle.fleet_gossip.specs.Frame.{entries}
use Rattle.fleet_gossip.proofs.frame.to_observations.Given as goal

abbrev pub invariant-loop : goal.invariant-loop
invariant-loop g l = record {
  left : List ObservationData;
  lawful : AreIn l.entries.version l.observations.items;
  lawful_left : AreIn l.entries.version left;
  whole : l.reader ≡ entries left;
  octets : l.entries.octets.now ≡ entries (l.observations.items ++ left);
  counted : length l.observations.items ≡ l.counter;
  all : l.counter + length left ≡ l.entries.count;
}
