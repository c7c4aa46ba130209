use Rattle.std.proofs.Common.{ℕ, ◌+◌, ◌≤◌, ◌++◌, List, length, drop}
use Rattle.fleet_wire.specs.declared.shape.TheConstants.{LONGEST_RDATA}
use Rattle.fleet_wire.specs.Shape.{room_of, PartsAt, PartsFail}
use Rattle.fleet_wire.specs.declared.fault.ReadFault.{ReadFault}
use Rattle.fleet_wire.proofs.shape.parts_at.Given as goal

-- what is read or fails from here on is read or fails from the beginning
abbrev pub invariant-loop-part : goal.invariant-loop-part
invariant-loop-part l = record {
  within : l.at ≤ length l.message;
  room : length l.octets.items + room_of (drop l.part-index l.parts) ≤ LONGEST_RDATA;
  found : (o : List ℕ) (e : ℕ) → PartsAt l.message (drop l.part-index l.parts) l.at o e
      → PartsAt l.message l.parts l.offset (l.octets.items ++ o) e;
  fails : (f : ReadFault) → PartsFail l.message (drop l.part-index l.parts) l.at f
      → PartsFail l.message l.parts l.offset f;
}
