use Rattle.std.proofs.Common.{◌≡◌, ℕ, ◌+◌, ◌-◌, ◌++◌, List, length, drop}
use Rattle.std.specs.List.{flat_map}
use Rattle.fleet_name.specs.Name.{IsName, label_octets, lower_all}
use Rattle.fleet_wire.specs.NameAt.{NameAt}
use Rattle.fleet_wire.specs.Fault.{Fails}
use Rattle.fleet_wire.specs.declared.fault.ReadFault.{ReadFault}
use Rattle.fleet_wire.proofs.piece.run_at.Given as goal

-- the labels so far lie in a row, and what is read or fails from here on is read or fails from the
-- start
abbrev pub invariant-loop-label : goal.invariant-loop-label
invariant-loop-label l = record {
  before : List (List ℕ);
  whole : drop l.start l.message ≡ flat_map label_octets before ++ drop l.at l.message;
  size : l.at ≡ l.start + length (flat_map label_octets before);
  counted : l.labels ≡ length before;
  named : IsName (lower_all before);
  reads : (n : List (List ℕ)) (e : ℕ) → NameAt l.message l.start l.at n e
      → NameAt l.message l.start l.start (before ++ n) e;
  fails : (f : ReadFault)
      → Fails l.message l.at l.start (length (flat_map label_octets before) + 1) f
      → Fails l.message l.start l.start 1 f;
}

abbrev pub decreases-loop-label : goal.decreases-loop-label
decreases-loop-label l = length l.message - l.at
