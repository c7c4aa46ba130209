-- A socket in memory.
-- Serves `MemorySocket`.
use Rattle.std.specs.Prelude.{Bool, true, false, List, map, Option, Some, None}
use Rattle.fleet_site.specs.socket.SocketRecord.{SocketCall, Came, NoneCame, Failed, Sent, Unsent, ClockRead, Paused, Switched, SocketState, nanos_of}
use Rattle.fleet_site.specs.declared.memory_socket.SocketNote.{SocketNote}
use Rattle.fleet_site.specs.declared.memory_socket.SocketNote.TheVariants as note
use Rattle.fleet_site.specs.declared.memory_socket.MemorySocket.{MemorySocket}

-- a note as a call of a socket
abbrev pub entry_of : {A : Type 0} → SocketNote A → SocketCall
entry_of (note.Came waits asked from octets) = Came waits asked from octets
entry_of (note.NoneCame waits asked) = NoneCame waits asked
entry_of (note.Failed waits asked) = Failed waits asked
entry_of (note.Sent to octets) = Sent (record { to = to; octets = octets })
entry_of (note.Unsent to octets) = Unsent (record { to = to; octets = octets })
entry_of (note.ClockRead time) = ClockRead (nanos_of time)
entry_of note.Paused = Paused
entry_of (note.Switched waits done) = Switched waits done

-- the record that notes make, while notes are kept
abbrev pub record_of_notes : {A : Type 0} → Bool → List (SocketNote A) → Option (List SocketCall)
record_of_notes true notes = Some (map entry_of notes)
record_of_notes false notes = None

-- the record of a socket in memory
abbrev pub record_of : {A : Type 0} → MemorySocket A → Option (List SocketCall)
record_of socket = record_of_notes socket.is_noting socket.notes.items

-- what may be known of a socket in memory: its record, and whether its receives wait
abbrev pub state_of : {A : Type 0} → MemorySocket A → SocketState
state_of socket = record { noted = record_of socket; waits = socket.waits }
