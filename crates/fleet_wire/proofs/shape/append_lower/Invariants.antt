use Rattle.std.proofs.Common.{◌≡◌, ◌++◌, take}
use Rattle.fleet_name.specs.Name.{lower}
use Rattle.fleet_wire.proofs.shape.append_lower.Given as goal

abbrev pub invariant-loop-octet : goal.invariant-loop-octet
invariant-loop-octet l = l.out.items ≡ l.fn.out.items ++ lower (take l.octet-index l.octets)
