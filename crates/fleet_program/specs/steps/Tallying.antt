-- What one call of the port of a site adds to the counts.
-- Serves `Tally`.
use Rattle.std.specs.Prelude.{◌≡◌, ℕ, Bool, true, false, ◌&&◌, ◌||◌, not, eqb, cond, List, fold, Option, Some, None}
use Rattle.fleet_name.specs.Types.{OctetList}
use Rattle.fleet_pending.specs.declared.addr.Addr.{Addr}
use Rattle.fleet_wire.specs.declared.rcode.TheConstants.{FORMAT_ERROR, SERVER_FAILURE, NOT_IMPLEMENTED, REFUSED}
use Rattle.fleet_site.specs.PacketData.{PacketData}
use Rattle.fleet_site.specs.server.PortRecord.{PortCall, Received, NoDatagram, Fault, PacketSent, PacketLost}
use Rattle.fleet_site.specs.socket.Waiting.{Datagram}
use Rattle.fleet_program.specs.Counting.{role_of, is_first, id_of, code_of, entries_of, with_more, no_counts, PortTurn, new_turn, turn_with, has_swept}
use Rattle.fleet_program.specs.declared.tally.Counts.{Counts}
use Rattle.fleet_program.specs.declared.tally.Role.{Role}
use Rattle.fleet_program.specs.declared.tally.Role.TheVariants.{Upstream, Peer, Client}
use Rattle.fleet_program.specs.declared.tally.Tally.{Tally}
use Rattle.fleet_program.specs.declared.tally.Turn.{Turn}
use Rattle.fleet_program.specs.declared.tally.Turn.TheVariants.{Question, Reply, Sweep, Other}

-- a count with one more
abbrev pub one_more : ℕ → ℕ
one_more n = with_more n 1

-- what was counted of the calls of a port so far, and what the turn is that goes on
pub record Counted : Type 0 where
  pub counts : Counts
  pub turn : Turn

-- what was counted before the first call
abbrev pub none_counted : Counted
none_counted = record { counts = no_counts; turn = Other }

-- a datagram that came from an address with this role begins a turn
abbrev pub count_datagram : Role → Addr → OctetList → Counts → Counted
count_datagram Upstream from octets c =
    record { counts = record c { replies = one_more c.replies }; turn = Reply (code_of octets) }
count_datagram Peer from octets c =
    record { counts = record c { frames_in = one_more c.frames_in }; turn = Other }
count_datagram Client from octets c =
    record {
      counts = record c { questions = one_more c.questions };
      turn = Question from.host from.port (id_of octets);
    }

-- an answer at once, by its code (RFC 1035 4.1.1)
abbrev pub count_at_once : ℕ → Counts → Counts
count_at_once code c =
    cond (eqb code FORMAT_ERROR) (record c { format_errors = one_more c.format_errors })
    (cond (eqb code SERVER_FAILURE) (record c { server_failures = one_more c.server_failures })
    (cond (eqb code NOT_IMPLEMENTED) (record c { not_implemented = one_more c.not_implemented })
    (cond (eqb code REFUSED) (record c { refusals = one_more c.refusals })
    (record c { hits = one_more c.hits }))))

-- whether a packet is an answer at once: one to the client whose question the turn received. A server
-- failure is one only under the identifier of that question
abbrev pub is_answered_by : Turn → PacketData → Bool
is_answered_by (Question host port id) s = eqb host s.to.host && eqb port s.to.port
    && (not (eqb (code_of s.octets) SERVER_FAILURE) || eqb id (id_of s.octets))
is_answered_by (Reply code) s = false
is_answered_by Sweep s = false
is_answered_by Other s = false

-- whether an answer with this code relays what the turn received: a reply of an upstream. A server
-- failure is one only where the reply says the same
abbrev pub is_relayed : Turn → ℕ → Bool
is_relayed (Question host port id) code = false
is_relayed (Reply given) code = not (eqb code SERVER_FAILURE) || eqb given SERVER_FAILURE
is_relayed Sweep code = false
is_relayed Other code = false

-- an answer to a client that is none at once
abbrev pub count_later : Bool → Counts → Counts
count_later true c = record c { relayed = one_more c.relayed }
count_later false c = record c { failed = one_more c.failed }

-- a query, to the first upstream or to another one
abbrev pub count_query : Bool → Counts → Counts
count_query true c = record c { queries = one_more c.queries }
count_query false c = record c { queries = one_more c.queries; again = one_more c.again }

-- the entries of a frame to the first peer, which begins a sweep or goes on with one, but in a turn that
-- received a datagram from an upstream
abbrev pub count_entries : Turn → ℕ → Counts → Counted
count_entries (Question host port id) n c =
    record { counts = record c { items = with_more 0 n }; turn = Sweep }
count_entries (Reply code) n c = record { counts = c; turn = Reply code }
count_entries Sweep n c =
    record { counts = record c { items = with_more c.items n }; turn = Sweep }
count_entries Other n c = record { counts = record c { items = with_more 0 n }; turn = Sweep }

-- a frame with so many entries, to the first peer or to another one
abbrev pub count_frame : Bool → ℕ → Turn → Counts → Counted
count_frame true n turn c = count_entries turn n (record c { frames_out = one_more c.frames_out })
count_frame false n turn c =
    record { counts = record c { frames_out = one_more c.frames_out }; turn = turn }

-- a packet to an address with this role, which is no answer at once
abbrev pub count_other : Role → List Addr → List Addr → PacketData → Turn → Counts → Counted
count_other Upstream upstreams peers s turn c =
    record { counts = count_query (is_first upstreams s.to) c; turn = turn }
count_other Peer upstreams peers s turn c =
    count_frame (is_first peers s.to) (entries_of s.octets) turn c
count_other Client upstreams peers s turn c =
    record { counts = count_later (is_relayed turn (code_of s.octets)) c; turn = turn }

-- a packet that was sent
abbrev pub count_packet : List Addr → List Addr → PacketData → Turn → Counts → Counted
count_packet upstreams peers s turn c = cond (is_answered_by turn s)
    (record { counts = count_at_once (code_of s.octets) c; turn = turn })
    (count_other (role_of upstreams peers s.to) upstreams peers s turn c)

-- a call of the port of a site with these upstreams and peers
abbrev pub count_call : List Addr → List Addr → PortCall → Counted → Counted
count_call upstreams peers (Received asked from octets) t =
    count_datagram (role_of upstreams peers from) from octets t.counts
count_call upstreams peers (NoDatagram asked) t =
    record { counts = record t.counts { none = one_more t.counts.none }; turn = Other }
count_call upstreams peers (Fault asked) t =
    record { counts = record t.counts { faults = one_more t.counts.faults }; turn = Other }
count_call upstreams peers (PacketSent s) t = count_packet upstreams peers s t.turn t.counts
count_call upstreams peers (PacketLost s) t =
    record { counts = record t.counts { lost = one_more t.counts.lost }; turn = t.turn }

-- what a tally keeps of a datagram that came from an address with this role
abbrev pub turn_by : Role → Datagram → Turn
turn_by Upstream d = Reply (code_of d.1)
turn_by Peer d = Other
turn_by Client d = Question d.0.host d.0.port (id_of d.1)

-- what a tally keeps of what a turn received
abbrev pub turn_on : List Addr → List Addr → Option Datagram → Turn
turn_on upstreams peers None = Other
turn_on upstreams peers (Some d) = turn_by (role_of upstreams peers d.0) d

-- what a tally keeps of a turn: that it swept, or what it received
abbrev pub kept_of : List Addr → List Addr → PortTurn → Turn
kept_of upstreams peers t =
    cond (has_swept upstreams peers t) Sweep (turn_on upstreams peers t.received)

-- where a port noted its calls, this is what a tally keeps of the turn that goes on after them
abbrev pub IsTurnOf : List Addr → List Addr → Option (List PortCall) → Turn → Type 0
IsTurnOf upstreams peers None turn = Unit {0}
IsTurnOf upstreams peers (Some calls) turn =
    turn ≡ kept_of upstreams peers (fold turn_with (new_turn None) calls)

-- what a tally counted
abbrev pub counted_in : {A : Type 0} → Tally A → Counted
counted_in t = record { counts = t.counts; turn = t.turn }

-- a tally counts so much, and is else as it was
abbrev pub Becomes : {A : Type 0} → Tally A → Counted → Tally A → Type 0
Becomes old t new = new ≡ record old { counts = t.counts; turn = t.turn }

-- a tally counts this call of its port
abbrev pub Tallies : {A : Type 0} → Tally A → PortCall → Tally A → Type 0
Tallies old call new =
    Becomes old (count_call old.upstreams.items old.peers.items call (counted_in old)) new
