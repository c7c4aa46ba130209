use Rattle.std.proofs.Common.{refl}
use Rattle.fleet_wire.specs.NameAt.{points}
use Rattle.fleet_wire.proofs.piece.piece_at.Goals as goal

-- what the pointer leads to, read through it
pub returns-in_ok-octets-in-Ok-Pointer-clause-found : goal.returns-in_ok-octets-in-Ok-Pointer-clause-found
returns-in_ok-octets-in-Ok-Pointer-clause-found c =
    let there = rw (c.in-Ok-Pointer.field-0-is, c.in-Ok-Pointer.target-is) at c.in-Ok-Pointer.ensures in
    points c.in-Ok-Pointer.target _ there.0 there.1 c.in_ok-octets-in-Ok-Pointer.ensures.found refl
