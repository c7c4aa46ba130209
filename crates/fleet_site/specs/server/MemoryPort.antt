-- A clock over a list, a port over memory, and a log in memory.
-- Serves `MemoryPort`, `ListClock`, `MemoryLog`.
use Rattle.std.specs.Prelude.{◌≡◌, ◌⊎◌, ℕ, zero, suc, ◌-◌, min, Bool, true, false, List, [], ◌∷◌, map, get_or, length, drop, Option, Some, None, Result, Ok, Err, IsOk, IsErr}
use Rattle.fleet_name.specs.Types.{OctetList}
use Rattle.fleet_wire.specs.Types.{Seconds}
use Rattle.fleet_pending.specs.declared.addr.Addr.{Addr}
use Rattle.fleet_site.specs.server.PortRecord.{PortCall, Received, NoDatagram, Fault, PacketSent, PacketLost, Fills}
use Rattle.fleet_site.specs.declared.port.PortFault.{PortFault}
use Rattle.fleet_site.specs.declared.memory_port.Note.{Note}
use Rattle.fleet_site.specs.declared.memory_port.Note.TheVariants as note
use Rattle.fleet_site.specs.declared.memory_port.MemoryPort.{MemoryPort}

-- the moment at a place of a list, and the last one from there on; 0 where the list is empty
abbrev pub moment_of : List Seconds → ℕ → Seconds
moment_of moments i = get_or moments (min i (length moments - 1)) 0

-- a note as a call of a port
abbrev pub call_of : {A : Type 0} → Note A → PortCall
call_of (note.Received asked from octets) = Received asked from octets
call_of (note.NoDatagram asked) = NoDatagram asked
call_of (note.Fault asked) = Fault asked
call_of (note.Sent to octets) = PacketSent (record { to = to; octets = octets })
call_of (note.Lost to octets) = PacketLost (record { to = to; octets = octets })

-- the record that notes make, while notes are kept
abbrev pub record_of_notes : {A : Type 0} → Bool → List (Note A) → Option (List PortCall)
record_of_notes true notes = Some (map call_of notes)
record_of_notes false notes = None

-- the record of a port over memory
abbrev pub record_of : {A : Type 0} → MemoryPort A → Option (List PortCall)
record_of p = record_of_notes p.is_noting p.notes.items

-- the arrival whose turn it is comes, cut to the room; nothing comes where none is left
abbrev pub Arrives : ℕ → List (Option (Addr × OctetList)) → Option (Addr × ℕ) → OctetList → Type 0
Arrives asked [] got buffer = got ≡ None
Arrives asked (None ∷ behind) got buffer = got ≡ None
Arrives asked (Some a ∷ behind) got buffer = Fills asked a got buffer

-- a receive uses up the arrival whose turn it is, and one that failed uses up none
abbrev pub Gives : ℕ → List (Option (Addr × OctetList))
    → Result (Option (Addr × ℕ)) PortFault → OctetList → List (Option (Addr × OctetList)) → Type 0
Gives asked before (Ok got) buffer left = Arrives asked before got buffer × (left ≡ drop 1 before)
Gives asked before (Err e) buffer left = left ≡ before

-- the number of the call that is to fail, counted from the next one, once one more call was made
abbrev pub one_call_fewer : Option ℕ → Option ℕ
one_call_fewer None = None
one_call_fewer (Some zero) = None
one_call_fewer (Some (suc zero)) = None
one_call_fewer (Some (suc (suc n))) = Some (suc n)

-- a call fails where it is the one that is to fail, and where it could not be noted. From then on there
-- is no record; after every other call there still is one, as before
pub record IsCall {A T : Type 0} (old new : MemoryPort A) (r : Result T PortFault) : Type 0 where
  pub counts : new.fails_in ≡ one_call_fewer old.fails_in
  pub chosen : old.fails_in ≡ Some 1 → IsErr r
  pub other : IsErr r → (old.fails_in ≡ Some 1) ⊎ ((old.is_noting ≡ true) × (new.is_noting ≡ false))
  pub noting : IsOk r → new.is_noting ≡ old.is_noting

-- What follows, private contracts alone cite.

-- nothing changed but the notes. Where the note was not kept, there was a record, and there is none
-- from then on
pub record NotesAlone {A : Type 0} (old new : MemoryPort A) (noted : Bool) : Type 0 where
  pub arrivals : new.arrivals.items ≡ old.arrivals.items
  pub fails_in : new.fails_in ≡ old.fails_in
  pub failed : new.failed ≡ old.failed
  pub noting : noted ≡ true → new.is_noting ≡ old.is_noting
  pub silent : noted ≡ false → (old.is_noting ≡ true) × (new.is_noting ≡ false)
