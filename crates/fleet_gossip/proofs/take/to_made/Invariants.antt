use Rattle.std.proofs.Common.{◌≡◌, ◌⊎◌, ◌+◌, ◌++◌, List, length}
use Rattle.fleet_observe.specs.Observation.{ObservationData}
use Rattle.fleet_gossip.specs.Entry.{AreIn}
use Rattle.fleet_gossip.specs.Frame.{entries}
use Rattle.fleet_gossip.specs.Taken.{AnyUnheld}
use Rattle.fleet_gossip.specs.steps.Taking.{AreMade}
use Rattle.fleet_gossip.proofs.take.to_made.Given as goal

abbrev pub invariant-loop-place : goal.invariant-loop-place
invariant-loop-place g l = record {
  done : List ObservationData;
  left : List ObservationData;
  lawful : AreIn l.entries.version (done ++ left);
  lawful_left : AreIn l.entries.version left;
  whole : l.reader ≡ entries left;
  octets : l.entries.octets.now ≡ entries (done ++ left);
  counted : length done ≡ l.place;
  all : l.place + length left ≡ l.entries.count;
  found : AreMade l.cache 0 done l.made.items;
  unheld : (l.unseen.left ≡ 0) ⊎ AnyUnheld l.cache done;
}
