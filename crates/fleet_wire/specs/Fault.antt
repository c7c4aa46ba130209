-- Why no name is at a place of a message: the first fault on the way (RFC 1035 2.3.4, 3.1, 4.1.4).
-- Serves `read_query` and `read_reply`.
use Rattle.std.specs.Prelude.{◌≡◌, ℕ, ◌+◌, ◌<◌, ◌≤◌, length, slice_index}
use Rattle.fleet_name.specs.Types.{Label, OctetList}
use Rattle.fleet_wire.specs.Types.{Place}
use Rattle.fleet_name.specs.declared.bounds.TheConstants.{LONGEST_LABEL, LONGEST_NAME}
use Rattle.fleet_wire.specs.NameAt.{LabelAt, PointerAt}
use Rattle.fleet_wire.specs.declared.fault.ReadFault.{ReadFault}
use Rattle.fleet_wire.specs.declared.fault.ReadFault.TheVariants.{Truncated, BadLabel, BadPointer, LongName}

-- a label's length octet is at p
abbrev pub LengthAt : OctetList → Place → Type 0
LengthAt m p = (p < length m) × (0 < slice_index m p) × (slice_index m p ≤ LONGEST_LABEL)

-- The fault that the octets at p show, in a run begun at s; k is the length in full of the labels
-- read so far, with the final zero octet. No octet is there; a pointer has no second one; the top bits
-- are 01 or 10; a pointer's target is not before the run; the name would be too long; a label is cut
-- off.
pub data FaultAt (m : OctetList) (p s : Place) (k : ℕ) (f : ReadFault) : Type 0 where
  no_octet : length m ≤ p → f ≡ Truncated → FaultAt m p s k f
  half_pointer : length m ≡ p + 1 → 192 ≤ slice_index m p → f ≡ Truncated → FaultAt m p s k f
  bad_bits : p < length m → 64 ≤ slice_index m p → slice_index m p < 192 → f ≡ BadLabel
      → FaultAt m p s k f
  not_back : (q : Place) → PointerAt m p q → s ≤ q → f ≡ BadPointer → FaultAt m p s k f
  long_name : LengthAt m p → LONGEST_NAME < k + slice_index m p + 1 → f ≡ LongName
      → FaultAt m p s k f
  cut_label : LengthAt m p → k + slice_index m p + 1 ≤ LONGEST_NAME
      → length m < p + 1 + slice_index m p → f ≡ Truncated → FaultAt m p s k f

-- the first fault on the way from p: here, after the label at p, or where the pointer at p leads
pub data Fails (m : OctetList) : Place → Place → ℕ → ReadFault → Type 0 where
  here : {p s : Place} {k : ℕ} {f : ReadFault} → FaultAt m p s k f → Fails m p s k f
  later : {p s : Place} {k : ℕ} {f : ReadFault} (label : Label) → LabelAt m p label
      → k + length label + 1 ≤ LONGEST_NAME
      → Fails m (p + 1 + length label) s (k + length label + 1) f → Fails m p s k f
  beyond : {p s : Place} {k : ℕ} {f : ReadFault} (q : Place) → PointerAt m p q → q < s → Fails m q q k f
      → Fails m p s k f

-- no name is at p of the message, and f is the first fault on the way
abbrev pub NameFails : OctetList → Place → ReadFault → Type 0
NameFails m p f = Fails m p p 1 f
