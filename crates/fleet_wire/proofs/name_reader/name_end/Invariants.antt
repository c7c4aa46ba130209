use Rattle.std.proofs.Common.{◌≡◌, ℕ, ◌+◌, ◌-◌, ◌*◌, ◌≤◌, ◌++◌, List, length}
use Rattle.std.specs.Option.{unwrap_or}
use Rattle.std.specs.List.{flat_map}
use Rattle.fleet_name.specs.Name.{IsName, label_octets, lower_all}
use Rattle.fleet_wire.specs.NameAt.{NameAt}
use Rattle.fleet_wire.specs.Fault.{Fails}
use Rattle.fleet_wire.specs.declared.fault.ReadFault.{ReadFault}
use Rattle.fleet_wire.proofs.name_reader.name_end.Given as goal

-- what is read or fails from here on is read or fails from the beginning
abbrev pub invariant-loop-label : goal.invariant-loop-label
invariant-loop-label l = record {
  before : List (List ℕ);
  counted : l.used ≡ length (flat_map label_octets before) + 1;
  named : IsName (lower_all before);
  room : l.used ≤ 255;
  reads : (n : List (List ℕ)) (e : ℕ) → NameAt l.message l.start l.at n e
      → NameAt l.message l.offset l.offset (before ++ n) (unwrap_or l.past e);
  fails : (f : ReadFault)
      → Fails l.message l.at l.start (length (flat_map label_octets before) + 1) f
      → Fails l.message l.offset l.offset 1 f;
}

abbrev pub decreases-loop-label : goal.decreases-loop-label
decreases-loop-label l = l.start * (length l.message + 1) + (length l.message - l.at)
