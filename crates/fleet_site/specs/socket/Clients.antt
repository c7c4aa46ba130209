-- What the clients of a server over a socket get, and may count on.
-- Serves laws `own_replies`, `questions_answered`.
use Rattle.std.specs.Prelude.{◌≡◌, ℕ, List, [], ◌∷◌, ◌++◌, take, length}
use Rattle.std.specs.List.{AllByRecursion}
use Rattle.fleet_name.specs.Types.{OctetList}
use Rattle.fleet_name.specs.Places.{Has}
use Rattle.fleet_wire.specs.Types.{Seconds}
use Rattle.fleet_pending.specs.declared.addr.Addr.{Addr}
use Rattle.fleet_site.specs.SiteData.{SiteData}
use Rattle.fleet_site.specs.question.Decision.{IsAsking}
use Rattle.fleet_site.specs.server.PortRecord.{PortCall, Received, PacketSent, PacketLost}
use Rattle.fleet_site.specs.server.Turn.{ROOM, ServerState, Turn, start_of}
use Rattle.fleet_site.specs.server.Served.{RunInput}
use Rattle.fleet_site.specs.server.Replies.{IsClient, RepliesOnce, OwesNothing}
use Rattle.fleet_site.specs.server.Answered.{IsDoneWhole}
use Rattle.fleet_site.specs.server.Clients.{TurnsLead, ServerTries, RepliesInAnyCase}
use Rattle.fleet_site.specs.socket.SocketRecord.{SocketCall, Came, NoneCame, Failed, Sent, Unsent, ClockRead, Paused, Switched}
use Rattle.fleet_site.specs.socket.Waiting.{arrivals_of, departures_of}
use Rattle.fleet_site.specs.socket.Bursts.{BurstData}
use Rattle.fleet_site.specs.socket.Flow.{PortStep, port_calls, socket_calls}
use Rattle.fleet_site.specs.socket.Serving.{WholeRun}

-- the record of a socket as a port would have it: what came, cut to what a turn asks for, and what was
-- sent, or refused by the system
abbrev pub as_port_calls : List SocketCall → List PortCall
as_port_calls [] = []
as_port_calls (Came w asked from octets ∷ calls) =
    Received ROOM from (take ROOM octets) ∷ as_port_calls calls
as_port_calls (NoneCame w asked ∷ calls) = as_port_calls calls
as_port_calls (Failed w asked ∷ calls) = as_port_calls calls
as_port_calls (Sent s ∷ calls) = PacketSent s ∷ as_port_calls calls
as_port_calls (Unsent s ∷ calls) = PacketLost s ∷ as_port_calls calls
as_port_calls (ClockRead t ∷ calls) = as_port_calls calls
as_port_calls (Paused ∷ calls) = as_port_calls calls
as_port_calls (Switched w done ∷ calls) = as_port_calls calls

-- over a socket too, each packet that it was given for a client replies to a datagram that it received
-- before from that client, and no two of them to the same one
abbrev pub RepliesOnceOverSockets : Type 0
RepliesOnceOverSockets =
    (calls : List SocketCall) (p : BurstData) (site : SiteData) (i : RunInput) → OwesNothing site
    → WholeRun calls p site i → RepliesOnce site.config (as_port_calls calls)

-- after the port call that handed the question on, the last of these, the socket was given a reply to
-- it
pub record IsAnsweredOver (steps : List PortStep) (handed : List PortCall) (from : Addr)
    (asked : OctetList) : Type 0 where
  pub before : List PortStep
  pub behind : List PortStep
  pub all : steps ≡ before ++ behind
  pub until : port_calls before ≡ handed
  pub octets : OctetList
  pub came : Has (arrivals_of (socket_calls before)) (from, octets)
  pub cut : asked ≡ take ROOM octets
  pub reply : OctetList
  pub given : Has (departures_of (socket_calls behind)) (from, reply)
  pub replies : RepliesInAnyCase asked reply

-- each question of a client that the port hands on is replied to over the socket, where the tries lie
-- in the run
abbrev pub QuestionsAnsweredOverSockets : Type 0
QuestionsAnsweredOverSockets =
    (calls : List SocketCall) (p : BurstData) (site : SiteData) (i : RunInput)
    (run : WholeRun calls p site i)
    (a b z : ServerState) (t : Seconds) (word : ℕ) (every : Seconds) (turn : Turn t word every a b)
    (room : ℕ) (from : Addr) (octets : OctetList)
    → OwesNothing site → TurnsLead (start_of site) a → turn.arrival ≡ Received room from octets
    → IsClient site.config from → IsAsking octets → AllByRecursion IsDoneWhole turn.given
    → ServerTries (length site.config.upstreams) b z → TurnsLead z run.end
    → IsAnsweredOver run.flows.goes.steps (a.calls ++ turn.arrival ∷ []) from octets
