use Rattle.fleet_wire.proofs.Parts.{name_or_fault}
use Rattle.fleet_wire.proofs.piece.name_at.Goals as goal

pub unreachable-requires : goal.unreachable-requires
unreachable-requires g c =
    let h = c.requires.found in
    name_or_fault _ _ h.0 h.1 _ h.2 c.in_default-spelling_at.ensures.fault
