use Rattle.std.proofs.Common.{◌≡◌, ℕ, ◌-◌, ◌++◌, List, length, drop}
use Rattle.std.specs.List.{flat_map}
use Rattle.fleet_name.specs.Name.{IsName, label_octets}
use Rattle.fleet_wire.specs.NameAt.{NameAt}
use Rattle.fleet_wire.proofs.plain.after_name.Given as goal

abbrev pub invariant-loop-rest : goal.invariant-loop-rest
invariant-loop-rest l = record {
  before : List (List ℕ);
  whole : l.octets ≡ flat_map label_octets before ++ drop l.at l.octets;
  size : l.at ≡ length (flat_map label_octets before);
  named : IsName before;
  only : (n : List (List ℕ)) (e : ℕ) → NameAt l.octets 0 0 n e
      → (t : List (List ℕ)) × (n ≡ before ++ t) × NameAt l.octets 0 l.at t e;
}

abbrev pub decreases-loop-rest : goal.decreases-loop-rest
decreases-loop-rest l = length l.octets - l.at
