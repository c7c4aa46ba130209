-- Datagrams that wait in a port, each with the address that it came from or goes to.
-- Serves `BurstPort`.
use Rattle.std.specs.Prelude.{◌≡◌, ◌≢◌, ◌⊎◌, ℕ, Bool, true, false, ◌&&◌, eqb, ltb, cond, List, [], ◌∷◌, ◌++◌, length, Option, Some, None}
use Rattle.std.specs.List.{list_any}
use Rattle.fleet_name.specs.Types.{OctetList}
use Rattle.fleet_pending.specs.declared.addr.Addr.{Addr}
use Rattle.fleet_wire.specs.declared.bounds.TheConstants.{LONGEST_MESSAGE}
use Rattle.fleet_site.specs.server.PortRecord.{one_more, Fills}
use Rattle.fleet_site.specs.socket.SocketRecord.{SocketCall, Came, NoneCame, Failed, Sent, Unsent, ClockRead, Paused, Switched}
use Rattle.fleet_site.specs.declared.queue.TheConstants.{MOST_WAITING}
use Rattle.fleet_site.specs.declared.queued.Drops.{Drops}

-- a datagram: the address that it came from or goes to, and its octets
abbrev pub Datagram : Type 0
Datagram = Addr × OctetList

-- whether two addresses are the same, host and port
abbrev pub is_same_addr : Addr → Addr → Bool
is_same_addr a b = eqb a.host b.host && eqb a.port b.port

-- whether the address is a peer's
abbrev pub is_peer : List Addr → Addr → Bool
is_peer peers a = list_any (λ p. is_same_addr p a) peers

-- whether octets are more than a message has (RFC 1035 2.3.4)
abbrev pub is_long : OctetList → Bool
is_long octets = ltb LONGEST_MESSAGE (length octets)

-- whether a datagram waits as a frame: it is longer than a message, and comes from a peer. All else is
-- handed on as messages are
abbrev pub is_frame : List Addr → Datagram → Bool
is_frame peers d = is_long d.1 && is_peer peers d.0

-- of datagrams those that wait as messages, in their order
abbrev pub messages_of : List Addr → List Datagram → List Datagram
messages_of peers [] = []
messages_of peers (d ∷ ds) =
    cond (is_frame peers d) (messages_of peers ds) (d ∷ messages_of peers ds)

-- of datagrams those that wait as frames, in their order
abbrev pub frames_of : List Addr → List Datagram → List Datagram
frames_of peers [] = []
frames_of peers (d ∷ ds) = cond (is_frame peers d) (d ∷ frames_of peers ds) (frames_of peers ds)

-- the datagrams that came in these calls of a socket, in their order
abbrev pub arrivals_of : List SocketCall → List Datagram
arrivals_of [] = []
arrivals_of (Came w asked from octets ∷ calls) = (from, octets) ∷ arrivals_of calls
arrivals_of (NoneCame w asked ∷ calls) = arrivals_of calls
arrivals_of (Failed w asked ∷ calls) = arrivals_of calls
arrivals_of (Sent s ∷ calls) = arrivals_of calls
arrivals_of (Unsent s ∷ calls) = arrivals_of calls
arrivals_of (ClockRead t ∷ calls) = arrivals_of calls
arrivals_of (Paused ∷ calls) = arrivals_of calls
arrivals_of (Switched w done ∷ calls) = arrivals_of calls

-- the datagrams that were given to the system in these calls of a socket, in their order, whether it
-- sent or refused them
abbrev pub departures_of : List SocketCall → List Datagram
departures_of [] = []
departures_of (Came w asked from octets ∷ calls) = departures_of calls
departures_of (NoneCame w asked ∷ calls) = departures_of calls
departures_of (Failed w asked ∷ calls) = departures_of calls
departures_of (Sent s ∷ calls) = (s.to, s.octets) ∷ departures_of calls
departures_of (Unsent s ∷ calls) = (s.to, s.octets) ∷ departures_of calls
departures_of (ClockRead t ∷ calls) = departures_of calls
departures_of (Paused ∷ calls) = departures_of calls
departures_of (Switched w done ∷ calls) = departures_of calls

-- a datagram comes after those that wait; where MOST_WAITING wait, it is turned away and nothing
-- changes
abbrev pub Pushes : List Datagram → Datagram → Bool → List Datagram → Type 0
Pushes old d true new = new ≡ old ++ d ∷ []
Pushes old d false new = (length old ≡ MOST_WAITING) × (new ≡ old)

-- a frame comes after the frames, and what is none after the messages
abbrev pub Joins : Bool → List Datagram → List Datagram → Datagram → List Datagram
    → List Datagram → Type 0
Joins true messages frames d new_messages new_frames =
    (new_frames ≡ frames ++ d ∷ []) × (new_messages ≡ messages)
Joins false messages frames d new_messages new_frames =
    (new_messages ≡ messages ++ d ∷ []) × (new_frames ≡ frames)

-- nothing was dropped
abbrev pub no_drops : Drops
no_drops = record { messages = 0; frames = 0 }

-- one more was dropped, a frame or what is none
abbrev pub one_dropped : Bool → Drops → Drops
one_dropped true n = record n { frames = one_more n.frames }
one_dropped false n = record n { messages = one_more n.messages }

-- what came in and waits, by kind, and how many others were dropped
pub record Arrived : Type 0 where
  pub messages : List Datagram
  pub frames : List Datagram
  pub dropped : Drops

-- a datagram that came waits after those of its kind
abbrev pub with_one : List Addr → Datagram → Arrived → Arrived
with_one peers d a = record {
  messages = a.messages ++ messages_of peers (d ∷ []);
  frames = a.frames ++ frames_of peers (d ∷ []);
  dropped = a.dropped;
}

-- a datagram that came is dropped, and counted by its kind
abbrev pub without_one : List Addr → Datagram → Arrived → Arrived
without_one peers d a = record {
  messages = a.messages;
  frames = a.frames;
  dropped = one_dropped (is_frame peers d) a.dropped;
}

-- others of its kind wait, frames or what is none
abbrev pub OthersWait : Bool → List Datagram → List Datagram → Type 0
OthersWait true messages frames = frames ≢ []
OthersWait false messages frames = messages ≢ []

-- these datagrams came, one after the other: each waits after those of its kind, or is dropped and
-- counted, which it is only where others of its kind wait
abbrev pub Takes : List Addr → List Datagram → Arrived → Arrived → Type 0
Takes peers [] old new = new ≡ old
Takes peers (d ∷ ds) old new =
    Takes peers ds (with_one peers d old) new
    ⊎ (OthersWait (is_frame peers d) old.messages old.frames × Takes peers ds (without_one peers d old) new)

-- the datagrams without some of them, each of which was counted by its kind
abbrev pub Sifts : List Addr → List Datagram → List Datagram → Drops → Drops → Type 0
Sifts peers [] kept n m = (kept ≡ []) × (m ≡ n)
Sifts peers (d ∷ ds) kept n m =
    ((rest : List Datagram) × (kept ≡ d ∷ rest) × Sifts peers ds rest n m)
    ⊎ Sifts peers ds kept (one_dropped (is_frame peers d) n) m

-- a datagram that may be there, as a list
abbrev pub at_most_one : Option Datagram → List Datagram
at_most_one None = []
at_most_one (Some d) = d ∷ []

-- of what waits the first message was taken out, and where there is none the first frame
abbrev pub TookOut : List Datagram → List Datagram → Option Datagram → List Datagram
    → List Datagram → Type 0
TookOut (d ∷ messages) frames taken new_messages new_frames =
    (taken ≡ Some d) × (new_messages ≡ messages) × (new_frames ≡ frames)
TookOut [] (d ∷ frames) taken new_messages new_frames =
    (taken ≡ Some d) × (new_messages ≡ []) × (new_frames ≡ frames)
TookOut [] [] taken new_messages new_frames =
    (taken ≡ None) × (new_messages ≡ []) × (new_frames ≡ [])

-- what is handed on: the datagram, cut to the buffer, or none
abbrev pub HandsOn : ℕ → Option Datagram → Option (Addr × ℕ) → OctetList → Type 0
HandsOn asked None got buffer = got ≡ None
HandsOn asked (Some d) got buffer = Fills asked d got buffer
