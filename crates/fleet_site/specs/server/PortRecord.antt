-- The record of a port: what it was asked, and how each call ended.
-- Serves `Port`.
use Rattle.std.specs.Prelude.{◌≡◌, ℕ, ◌+◌, min, List, [], ◌∷◌, ◌++◌, Option, Some, None, Result, Ok, Err, length, take}
use Rattle.fleet_name.specs.Types.{OctetList}
use Rattle.fleet_pending.specs.declared.addr.Addr.{Addr}
use Rattle.fleet_site.specs.declared.bounds.TheConstants.{MOST_COUNTED}
use Rattle.fleet_site.specs.PacketData.{PacketData}
use Rattle.fleet_site.specs.declared.port.PortFault.{PortFault}

-- a call of a port, and how it ended: a datagram was received, or none, or the receive failed, each
-- with how many octets were asked for; a packet was sent, or it was lost
pub data PortCall : Type 0 where
  Received : (asked : ℕ) → (from : Addr) → (octets : OctetList) → PortCall
  NoDatagram : (asked : ℕ) → PortCall
  Fault : (asked : ℕ) → PortCall
  PacketSent : PacketData → PortCall
  PacketLost : PacketData → PortCall

-- where a port still has its record, it had it before, and these calls are the last ones
abbrev pub NotesAll : Option (List PortCall) → List PortCall → Option (List PortCall) → Type 0
NotesAll old calls None = Unit {0}
NotesAll old calls (Some now) =
    (before : List PortCall) × (old ≡ Some before) × (now ≡ before ++ calls)

-- what a receive was, into a buffer of this length, which holds these octets afterwards
abbrev pub receive_of : ℕ → Result (Option (Addr × ℕ)) PortFault → OctetList → PortCall
receive_of asked (Ok None) buffer = NoDatagram asked
receive_of asked (Ok (Some p)) buffer = Received asked p.0 (take p.1 buffer)
receive_of asked (Err e) buffer = Fault asked

-- the datagram is handed on, cut to a length, at the front of the buffer
abbrev pub Fills : ℕ → (Addr × OctetList) → Option (Addr × ℕ) → OctetList → Type 0
Fills asked d got buffer =
    (got ≡ Some (d.0, min (length d.1) asked))
    × (take (min (length d.1) asked) buffer ≡ take asked d.1)

-- the call is a receive that asked for this number of octets
abbrev pub HasRoomFor : ℕ → PortCall → Type 0
HasRoomFor n (Received asked from octets) = asked ≡ n
HasRoomFor n (NoDatagram asked) = asked ≡ n
HasRoomFor n (Fault asked) = asked ≡ n
HasRoomFor n (PacketSent s) = ⊥
HasRoomFor n (PacketLost s) = ⊥

-- what a send was: the packet was sent, or it was lost
abbrev pub send_of : Result (Unit {0}) PortFault → PacketData → PortCall
send_of (Ok u) s = PacketSent s
send_of (Err e) s = PacketLost s

-- a count and one more; it stays at MOST_COUNTED
abbrev pub one_more : ℕ → ℕ
one_more n = min (n + 1) MOST_COUNTED

-- how many calls of a port failed, once one with this result was made
abbrev pub failures_after : {T : Type 0} → Result T PortFault → ℕ → ℕ
failures_after (Ok x) n = n
failures_after (Err e) n = one_more n

-- how many calls of a port failed once it made these calls, from n on
abbrev pub failures_of : List PortCall → ℕ → ℕ
failures_of [] n = n
failures_of (Received asked from octets ∷ calls) n = failures_of calls n
failures_of (NoDatagram asked ∷ calls) n = failures_of calls n
failures_of (Fault asked ∷ calls) n = failures_of calls (one_more n)
failures_of (PacketSent s ∷ calls) n = failures_of calls n
failures_of (PacketLost s ∷ calls) n = failures_of calls (one_more n)

-- what may be known of a port: its record, while it keeps one, and how many of its calls failed
pub record PortState : Type 0 where
  pub noted : Option (List PortCall)
  pub failed : ℕ

-- between these two states a port made these calls
pub record Made (old new : PortState) (calls : List PortCall) : Type 0 where
  pub noted : NotesAll old.noted calls new.noted
  pub failed : new.failed ≡ failures_of calls old.failed
