-- The record of a socket: what a port asked of the system, and how each call ended.
-- Serves `Socket`.
use Rattle.std.specs.Prelude.{◌≡◌, ℕ, Bool, true, false, List, [], ◌∷◌, ◌++◌, Option, Some, None, Result, Ok, Err, take}
use Rattle.std.specs.Duration.{as_nanos}
use Rattle.std.specs.declared.time.Duration.{Duration}
use Rattle.fleet_name.specs.Types.{OctetList}
use Rattle.fleet_pending.specs.declared.addr.Addr.{Addr}
use Rattle.fleet_site.specs.PacketData.{PacketData}
use Rattle.fleet_site.specs.declared.port.PortFault.{PortFault}

-- a call of a socket, and how it ended: a datagram came, or none, or the receive failed, each with
-- whether it waited for one and how many octets were asked for; a datagram was sent, or the system
-- refused it; the clock was read, in nanoseconds, where it could be; a pause passed; receives were to
-- wait from then on, or not to, and the system did so or refused
pub data SocketCall : Type 0 where
  Came : (waits : Bool) → (asked : ℕ) → (from : Addr) → (octets : OctetList) → SocketCall
  NoneCame : (waits : Bool) → (asked : ℕ) → SocketCall
  Failed : (waits : Bool) → (asked : ℕ) → SocketCall
  Sent : PacketData → SocketCall
  Unsent : PacketData → SocketCall
  ClockRead : Option ℕ → SocketCall
  Paused : SocketCall
  Switched : (waits : Bool) → (done : Bool) → SocketCall

-- what a receive was, into a buffer of this length, which holds these octets afterwards
abbrev pub arrival_of : Bool → ℕ → Result (Option (Addr × ℕ)) PortFault → OctetList → SocketCall
arrival_of waits asked (Ok None) buffer = NoneCame waits asked
arrival_of waits asked (Ok (Some p)) buffer = Came waits asked p.0 (take p.1 buffer)
arrival_of waits asked (Err e) buffer = Failed waits asked

-- what a send was: the datagram was sent, or refused
abbrev pub departure_of : Result (Unit {0}) PortFault → PacketData → SocketCall
departure_of (Ok u) s = Sent s
departure_of (Err e) s = Unsent s

-- what a reading of the clock gave, in nanoseconds
abbrev pub nanos_of : Option Duration → Option ℕ
nanos_of None = None
nanos_of (Some d) = Some (as_nanos d)

-- whether receives wait after these calls
abbrev pub mode_after : Bool → List SocketCall → Bool
mode_after waits [] = waits
mode_after waits (Came w asked from octets ∷ calls) = mode_after waits calls
mode_after waits (NoneCame w asked ∷ calls) = mode_after waits calls
mode_after waits (Failed w asked ∷ calls) = mode_after waits calls
mode_after waits (Sent s ∷ calls) = mode_after waits calls
mode_after waits (Unsent s ∷ calls) = mode_after waits calls
mode_after waits (ClockRead t ∷ calls) = mode_after waits calls
mode_after waits (Paused ∷ calls) = mode_after waits calls
mode_after waits (Switched w true ∷ calls) = mode_after w calls
mode_after waits (Switched w false ∷ calls) = mode_after waits calls

-- what may be known of a socket: its record, while it keeps one, and whether its receives wait
pub record SocketState : Type 0 where
  pub noted : Option (List SocketCall)
  pub waits : Bool

-- where there still is a record, there was one before, and these are its last entries
abbrev pub HasNoted : {C : Type 0} → Option (List C) → List C → Option (List C) → Type 0
HasNoted old calls None = Unit {0}
HasNoted old calls (Some now) = (before : List _) × (old ≡ Some before) × (now ≡ before ++ calls)

-- between these two states of a socket these calls were made of it, in this order
pub record Called (old new : SocketState) (calls : List SocketCall) : Type 0 where
  pub noted : HasNoted old.noted calls new.noted
  pub waits : new.waits ≡ mode_after old.waits calls
