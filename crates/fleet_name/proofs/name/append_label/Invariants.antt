use Rattle.std.proofs.Common.{◌≡◌, ◌+◌, ◌-◌, ◌≤◌, ◌++◌, ◌∷◌, length, take, vec_len}
use Rattle.std.specs.Vec.{vec_capacity}
use Rattle.fleet_name.specs.Name.{lower}
use Rattle.fleet_name.proofs.name.append_label.Given as goal

abbrev pub invariant-loop-octet : goal.invariant-loop-octet
invariant-loop-octet g l = record {
  items : l.octets.items
      ≡ take (length l.fn.octets.items - 1) l.fn.octets.items
      ++ (length l.label ∷ lower (take l.octet-index l.label));
  room : vec_len l.octets + (length l.label - l.octet-index) + 1 ≤ vec_capacity l.octets;
}
