use Rattle.std.proofs.Common.{◌≡◌, ◌++◌, take, drop}
use Rattle.fleet_name.specs.Name.{lower}
use Rattle.fleet_name.proofs.name.lower_octets.Given as goal

abbrev pub invariant-loop-octet : goal.invariant-loop-octet
invariant-loop-octet l =
    l.octets ≡ lower (take l.octet-index l.fn.octets) ++ drop l.octet-index l.fn.octets
