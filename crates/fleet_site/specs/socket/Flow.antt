-- Whole records: from the datagrams that a socket received to the datagrams that it was given to send.
-- Serves `BurstPort`.
use Rattle.std.specs.Prelude.{◌≡◌, ◌⊎◌, ℕ, true, List, [], ◌∷◌, ◌++◌, take, Option, Some, None, Result}
use Rattle.fleet_name.specs.Types.{OctetList}
use Rattle.fleet_pending.specs.declared.addr.Addr.{Addr}
use Rattle.fleet_site.specs.PacketData.{PacketData}
use Rattle.fleet_site.specs.declared.port.PortFault.{PortFault}
use Rattle.fleet_site.specs.server.PortRecord.{PortCall, Received, NoDatagram, Fault, PacketSent, PacketLost, receive_of, send_of}
use Rattle.fleet_site.specs.socket.SocketRecord.{SocketCall, Called, departure_of}
use Rattle.fleet_site.specs.socket.Waiting.{Datagram, Sifts, no_drops, is_long, messages_of, frames_of, arrivals_of}
use Rattle.fleet_site.specs.socket.Window.{whole_window}
use Rattle.fleet_site.specs.socket.Pace.{fresh}
use Rattle.fleet_site.specs.socket.Bursts.{BurstData, IsIdle, Worked, Receives, turn_begun, SendsOrKeeps}

-- the record of a port hands on these datagrams, in this order, each cut to what was asked for
abbrev pub HandsOnAll : List Datagram → List PortCall → Type 0
HandsOnAll ds [] = ds ≡ []
HandsOnAll ds (Received asked from octets ∷ noted) =
    (d : Datagram) × (rest : List Datagram) × (ds ≡ d ∷ rest)
    × ((from ≡ d.0) × (octets ≡ take asked d.1)) × HandsOnAll rest noted
HandsOnAll ds (NoDatagram asked ∷ noted) = HandsOnAll ds noted
HandsOnAll ds (Fault asked ∷ noted) = HandsOnAll ds noted
HandsOnAll ds (PacketSent s ∷ noted) = HandsOnAll ds noted
HandsOnAll ds (PacketLost s ∷ noted) = HandsOnAll ds noted

-- one call of a port, with the calls of its socket in it; `None` stands for one that a port does not
-- note, the sending of all that waits
abbrev pub PortStep : Type 0
PortStep = Option PortCall × List SocketCall

-- the record of the port that these steps make
abbrev pub port_calls : List PortStep → List PortCall
port_calls [] = []
port_calls ((None, calls) ∷ steps) = port_calls steps
port_calls ((Some call, calls) ∷ steps) = call ∷ port_calls steps

-- the record of the socket that these steps make
abbrev pub socket_calls : List PortStep → List SocketCall
socket_calls [] = []
socket_calls ((call, calls) ∷ steps) = calls ++ socket_calls steps

-- a receive of a port made these calls of its socket, and was noted so
pub record Receiving (asked : ℕ) (call : PortCall) (calls : List SocketCall) (old new : BurstData)
    : Type 0 where
  pub result : Result (Option (Addr × ℕ)) PortFault
  pub buffer : OctetList
  pub receives : Receives asked (turn_begun old) result buffer new
  pub noted : call ≡ receive_of asked result buffer
  pub made : calls ≡ receives.calls

-- a send of a port made these calls of its socket, one at most, and was noted so; what made none is
-- longer than a message
pub record Sending (s : PacketData) (call : PortCall) (calls : List SocketCall)
    (old new : BurstData) : Type 0 where
  pub result : Result (Unit {0}) PortFault
  pub sends : SendsOrKeeps s old result new
  pub noted : call ≡ send_of result s
  pub made : (calls ≡ departure_of result s ∷ []) ⊎ ((calls ≡ []) × (is_long s.octets ≡ true))
  pub called : Called old.socket new.socket calls

-- all that waited was sent, and nothing came
pub record Finishing (calls : List SocketCall) (old new : BurstData) : Type 0 where
  pub worked : Worked old new calls
  pub leaving : new.leaving ≡ []
  pub messages : new.messages ≡ old.messages
  pub frames : new.frames ≡ old.frames
  pub dropped : new.dropped ≡ old.dropped

-- the step does what it has to do: a receive, a send, or the sending of all that waits
abbrev pub StepsTo : PortStep → BurstData → BurstData → Type 0
StepsTo (None, calls) old new = Finishing calls old new
StepsTo (Some (Received asked from octets), calls) old new =
    Receiving asked (Received asked from octets) calls old new
StepsTo (Some (NoDatagram asked), calls) old new = Receiving asked (NoDatagram asked) calls old new
StepsTo (Some (Fault asked), calls) old new = Receiving asked (Fault asked) calls old new
StepsTo (Some (PacketSent s), calls) old new = Sending s (PacketSent s) calls old new
StepsTo (Some (PacketLost s), calls) old new = Sending s (PacketLost s) calls old new

-- these steps lead from one port to another, one after the other
abbrev pub GoesOn : List PortStep → BurstData → BurstData → Type 0
GoesOn [] old new = new ≡ old
GoesOn (step ∷ steps) old new = (mid : BurstData) × StepsTo step old mid × GoesOn steps mid new

-- a port of which nothing was asked yet, nor of its socket
pub record IsFresh (p : BurstData) : Type 0 where
  pub noted : p.socket.noted ≡ Some []
  pub idle : IsIdle p
  pub window : p.window ≡ whole_window
  pub burst : p.burst ≡ fresh
  pub dropped : p.dropped ≡ no_drops
  pub unpaced : p.unpaced ≡ 0

-- what came in, by both records: of what the socket received some were dropped, and counted by kind. The
-- messages among all others are those that the port handed on and those that wait, in this order, and
-- so are the frames
pub record FlowsIn (calls : List SocketCall) (noted : List PortCall) (p : BurstData) : Type 0 where
  pub kept : List Datagram
  pub handed : List Datagram
  pub sifts : Sifts p.peers (arrivals_of calls) kept no_drops p.dropped
  pub hands_on : HandsOnAll handed noted
  pub messages : messages_of p.peers kept ≡ messages_of p.peers handed ++ p.messages
  pub frames : frames_of p.peers kept ≡ frames_of p.peers handed ++ p.frames

-- both records are those of one list of steps, each of which does what a receive, a send or the
-- sending of all that waits has to do, and which lead from a fresh port to this one
pub record FlowsOn (calls : List SocketCall) (noted : List PortCall) (p : BurstData) : Type 0 where
  pub first : BurstData
  pub begins : IsFresh first
  pub steps : List PortStep
  pub by_socket : calls ≡ socket_calls steps
  pub by_port : noted ≡ port_calls steps
  pub goes : GoesOn steps first p

-- what a port over a socket did from its beginning on
pub record Flows (calls : List SocketCall) (noted : List PortCall) (p : BurstData) : Type 0 where
  pub comes : FlowsIn calls noted p
  pub goes : FlowsOn calls noted p

-- what a port over a socket did from its beginning on, where both records were kept
abbrev pub FlowsIfNoted : Option (List SocketCall) → Option (List PortCall) → BurstData → Type 0
FlowsIfNoted None noted p = Unit {0}
FlowsIfNoted (Some calls) None p = Unit {0}
FlowsIfNoted (Some calls) (Some noted) p = Flows calls noted p
