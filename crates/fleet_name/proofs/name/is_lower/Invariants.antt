use Rattle.std.proofs.Common.{◌≡◌, drop}
use Rattle.fleet_name.specs.Name.{lower}
use Rattle.fleet_name.proofs.name.is_lower.Given as goal

abbrev pub invariant-loop-octet : goal.invariant-loop-octet
invariant-loop-octet l = record {
  yes : lower (drop l.octet-index l.octets) ≡ drop l.octet-index l.octets
      → lower l.octets ≡ l.octets;
  no : lower l.octets ≡ l.octets
      → lower (drop l.octet-index l.octets) ≡ drop l.octet-index l.octets;
}
