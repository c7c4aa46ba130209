-- The fault that octets show at a place, and the one of a header.
-- Serves what `FirstFaults`, `Readings`, `Records` serve, and fleet_site, fleet_world.
use Rattle.std.proofs.Common.{◌≡◌, ℕ, ◌+◌, ◌-◌, ◌*◌, ◌<◌, ◌≤◌, List, length, refl, sym, ◌∙◌, arith, Option, Some, None, if◌then◌else◌, nat_le}
use Rattle.std.proofs.lemmas.Bool.{le-leb, lt-leb}
use Rattle.std.specs.Prelude.{slice_index}
use Rattle.fleet_name.specs.declared.bounds.TheConstants.{LONGEST_NAME}
use Rattle.fleet_wire.specs.declared.bounds.TheConstants.{LONGEST_MESSAGE}
use Rattle.fleet_wire.specs.NameAt.{LabelAt, EndAt, PointerAt}
use Rattle.fleet_wire.specs.Fault.{FaultAt, no_octet, half_pointer, bad_bits, not_back, long_name, cut_label}
use Rattle.fleet_wire.specs.Message.{HasOneQuestion, HeaderFails, no_header, long_message, not_one}
use Rattle.fleet_wire.specs.declared.fault.ReadFault.{ReadFault}
use Rattle.fleet_wire.specs.declared.fault.ReadFault.TheVariants.{TooShort, TooLong, Truncated, BadLabel, BadPointer, LongName, QuestionCount, OutOfMemory}

some_same : (f g : ReadFault) (x : Option ReadFault) → x ≡ Some f → x ≡ Some g → f ≡ g
some_same f g x one two = cc

some_or_none : (f : ReadFault) (x : Option ReadFault) → x ≡ Some f → x ≡ None → ⊥
some_or_none f x one two = cc

-- the fault at p, if there is one, by tests of the octets
fault_at : List ℕ → ℕ → ℕ → ℕ → Option ReadFault
fault_at m p s k =
    if nat_le (length m) p then Some Truncated else
    if nat_le 192 (slice_index m p) then
    (if nat_le (length m) (p + 1) then Some Truncated else
    if nat_le s ((slice_index m p - 192) * 256 + slice_index m (p + 1)) then Some BadPointer else
    None) else
    if nat_le 64 (slice_index m p) then Some BadLabel else
    if nat_le (slice_index m p) 0 then None else
    if nat_le 256 (k + slice_index m p + 1) then Some LongName else
    if nat_le (length m) (p + slice_index m p) then Some Truncated else None

module _ (m : List ℕ) (p s k : ℕ) where
  c : ℕ
  c = slice_index m p

  fault_is : (f : ReadFault) → FaultAt m p s k f → fault_at m p s k ≡ Some f
  unfolding fault_at c
  fault_is f (no_octet out is) = rw (is, le-leb (length m) p out) refl
  fault_is f (half_pointer end mark is) =
      rw (
        is,
        lt-leb (length m) p (omega (arith, end)),
        le-leb 192 c mark,
        le-leb (length m) (p + 1) (omega (arith, end)),
      ) refl
  fault_is f (bad_bits at low high is) =
      rw (is, lt-leb (length m) p at, lt-leb 192 c high, le-leb 64 c low) refl
  fault_is f (not_back q at back is) =
      rw (
        is,
        lt-leb (length m) p (omega (arith, at.within)),
        le-leb 192 c at.marked,
        lt-leb (length m) (p + 1) at.within,
        le-leb s ((c - 192) * 256 + slice_index m (p + 1)) (omega (arith, at.target, back)),
      ) refl
  fault_is f (long_name count over is) =
      rw (
        is,
        lt-leb (length m) p count.0,
        lt-leb 192 c (omega (arith, count.2)),
        lt-leb 64 c (omega (arith, count.2)),
        lt-leb c 0 count.1,
        le-leb 256 (k + c + 1) (omega (arith, over)),
      ) refl
  fault_is f (cut_label count fits cut is) =
      rw (
        is,
        lt-leb (length m) p count.0,
        lt-leb 192 c (omega (arith, count.2)),
        lt-leb 64 c (omega (arith, count.2)),
        lt-leb c 0 count.1,
        lt-leb 256 (k + c + 1) (omega (arith, fits)),
        le-leb (length m) (p + c) (omega (arith, cut)),
      )
      refl

  pub one_here : (f g : ReadFault) → FaultAt m p s k f → FaultAt m p s k g → f ≡ g
  one_here f g h h' = some_same f g (fault_at m p s k) (fault_is f h) (fault_is g h')

  pub fault_or_end : (f : ReadFault) → FaultAt m p s k f → EndAt m p → ⊥
  unfolding fault_at c
  fault_or_end f h at =
      let none : fault_at m p s k ≡ None =
      rw (
        lt-leb (length m) p at.begins,
        lt-leb 192 c (omega (arith, at.zero_octet)),
        lt-leb 64 c (omega (arith, at.zero_octet)),
        le-leb c 0 (omega (arith, at.zero_octet)),
      ) refl in
      some_or_none f (fault_at m p s k) (fault_is f h) none

  pub fault_or_label : (f : ReadFault) (label : List ℕ) → FaultAt m p s k f → LabelAt m p label
      → k + length label + 1 ≤ LONGEST_NAME → ⊥
  unfolding fault_at c
  fault_or_label f label h at room =
      let none : fault_at m p s k ≡ None =
      rw (
        lt-leb (length m) p at.begins,
        lt-leb 192 c (omega (arith, at)),
        lt-leb 64 c (omega (arith, at)),
        lt-leb c 0 (omega (arith, at)),
        lt-leb 256 (k + c + 1) (omega (arith, at, room)),
        lt-leb (length m) (p + c) (omega (arith, at)),
      ) refl in
      some_or_none f (fault_at m p s k) (fault_is f h) none

  pub fault_or_pointer : (f : ReadFault) (q : ℕ) → FaultAt m p s k f → PointerAt m p q → q < s → ⊥
  unfolding fault_at c
  fault_or_pointer f q h at back =
      let none : fault_at m p s k ≡ None =
      rw (
        lt-leb (length m) p (omega (arith, at.within)),
        le-leb 192 c at.marked,
        lt-leb (length m) (p + 1) at.within,
        lt-leb s ((c - 192) * 256 + slice_index m (p + 1)) (omega (arith, at.target, back)),
      ) refl in
      some_or_none f (fault_at m p s k) (fault_is f h) none

  pub no_memory_here : (f : ReadFault) → FaultAt m p s k f → f ≡ OutOfMemory → ⊥
  no_memory_here f (no_octet out is) e = cc
  no_memory_here f (half_pointer end mark is) e = cc
  no_memory_here f (bad_bits at low high is) e = cc
  no_memory_here f (not_back q at back is) e = cc
  no_memory_here f (long_name count over is) e = cc
  no_memory_here f (cut_label count fits cut is) e = cc

-- the fault of a header that has one, by tests of the message's length
header_fault : List ℕ → ReadFault
header_fault m =
    if nat_le (length m) 11 then TooShort else
    if nat_le (length m) LONGEST_MESSAGE then QuestionCount else TooLong

header_fault_is : (m : List ℕ) (f : ReadFault) → HeaderFails m f → header_fault m ≡ f
unfolding header_fault
header_fault_is m f (no_header short is) = rw (is, le-leb (length m) 11 (omega (arith, short))) refl
header_fault_is m f (long_message long is) =
    rw (is, lt-leb (length m) 11 (omega (arith, long)), lt-leb (length m) LONGEST_MESSAGE long) refl
header_fault_is m f (not_one long short other is) =
    rw (is, lt-leb (length m) 11 (omega (arith, long)), le-leb (length m) LONGEST_MESSAGE short)
    refl

pub one_header_fault : (m : List ℕ) (f g : ReadFault) → HeaderFails m f → HeaderFails m g → f ≡ g
one_header_fault m f g h h' = sym (header_fault_is m f h) ∙ header_fault_is m g h'

pub header_or_fault : (m : List ℕ) (f : ReadFault) → HasOneQuestion m → HeaderFails m f → ⊥
header_or_fault m f is (no_header short e) = omega (arith, short, is.long)
header_or_fault m f is (long_message long e) = omega (arith, long, is.short)
header_or_fault m f is (not_one long short other e) = other is.one

pub header_no_memory : (m : List ℕ) (f : ReadFault) → HeaderFails m f → f ≡ OutOfMemory → ⊥
header_no_memory m f (no_header short is) e = cc
header_no_memory m f (long_message long is) e = cc
header_no_memory m f (not_one long short other is) e = cc
