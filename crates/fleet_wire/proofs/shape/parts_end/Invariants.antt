use Rattle.std.proofs.Common.{ℕ, ◌≤◌, ◌++◌, List, length, drop}
use Rattle.fleet_wire.specs.Shape.{PartsAt, PartsFail}
use Rattle.fleet_wire.specs.declared.fault.ReadFault.{ReadFault}
use Rattle.fleet_wire.proofs.shape.parts_end.Given as goal

-- what is read or fails from here on is read or fails from the beginning
abbrev pub invariant-loop-part : goal.invariant-loop-part
invariant-loop-part l = record {
  before : List ℕ;
  within : l.at ≤ length l.message;
  found : (o : List ℕ) (e : ℕ) → PartsAt l.message (drop l.part-index l.parts) l.at o e
      → PartsAt l.message l.parts l.offset (before ++ o) e;
  fails : (f : ReadFault) → PartsFail l.message (drop l.part-index l.parts) l.at f
      → PartsFail l.message l.parts l.offset f;
}
