use Rattle.std.proofs.Common.{◌≡◌, ◌++◌, ℕ, List, length}
use Rattle.std.specs.List.{flat_map}
use Rattle.fleet_name.specs.Name.{label_octets, wire, IsName}
use Rattle.fleet_gossip.proofs.name.name_size.Given as goal

abbrev pub invariant-loop-label : goal.invariant-loop-label
invariant-loop-label l = record {
  before : List (List ℕ);
  whole : l.octets ≡ flat_map label_octets before ++ l.reader;
  named : IsName before;
  counted : l.size ≡ length (wire before);
}

abbrev pub decreases-loop-label : goal.decreases-loop-label
decreases-loop-label l = length l.reader
