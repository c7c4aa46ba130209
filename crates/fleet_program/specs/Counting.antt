-- What goes through the port of a site, counted.
-- Serves `Tally`, `Watch`.
use Rattle.std.specs.Prelude.{◌≡◌, ℕ, ◌+◌, ◌*◌, ◌%◌, ◌^◌, Bool, true, false, ◌&&◌, ◌||◌, not, eqb, ltb, cond, List, [], ◌∷◌, ◌++◌, reverse, Option, Some, None, length, slice_index, count_by, sum_by, find, flat_map}
use Rattle.std.specs.List.{list_any}
use Rattle.fleet_name.specs.Types.{OctetList}
use Rattle.fleet_pending.specs.declared.addr.Addr.{Addr}
use Rattle.fleet_wire.specs.declared.rcode.TheConstants.{FORMAT_ERROR, SERVER_FAILURE, NOT_IMPLEMENTED, REFUSED}
use Rattle.fleet_site.specs.PacketData.{PacketData}
use Rattle.fleet_site.specs.server.PortRecord.{PortCall, Received, NoDatagram, Fault, PacketSent, PacketLost}
use Rattle.fleet_site.specs.socket.Waiting.{Datagram, is_same_addr, is_peer}
use Rattle.fleet_program.specs.declared.tally.Counts.{Counts}
use Rattle.fleet_program.specs.declared.tally.Role.{Role}
use Rattle.fleet_program.specs.declared.tally.Role.TheVariants.{Upstream, Peer, Client}

-- what an address is to a site with these upstreams and peers
abbrev pub role_of : List Addr → List Addr → Addr → Role
role_of upstreams peers addr =
    cond (is_peer upstreams addr) Upstream (cond (is_peer peers addr) Peer Client)

-- whether two roles are the same
abbrev pub is_same_role : Role → Role → Bool
is_same_role Upstream Upstream = true
is_same_role Peer Peer = true
is_same_role Client Client = true
is_same_role a b = false

-- whether an address has this role
abbrev pub has_role : List Addr → List Addr → Role → Addr → Bool
has_role upstreams peers role addr = is_same_role role (role_of upstreams peers addr)

-- whether an address is the first of a list
abbrev pub is_first : List Addr → Addr → Bool
is_first [] addr = false
is_first (first ∷ rest) addr = is_same_addr first addr

-- the identifier of a message (RFC 1035 4.1.1): its first two octets; 0 where there are fewer
abbrev pub id_of : OctetList → ℕ
id_of octets =
    cond (ltb (length octets) 2) 0 (slice_index octets 0 * 256 + slice_index octets 1)

-- the code of a message (RFC 1035 4.1.1): the low four bits of its fourth octet; 0 where there is none
abbrev pub code_of : OctetList → ℕ
code_of octets = slice_index octets 3 % 16

-- how many entries a frame has, by its head: the number in its fourth and fifth octet, 0 for each that
-- is not there
abbrev pub entries_of : OctetList → ℕ
entries_of octets = slice_index octets 3 * 256 + slice_index octets 4

-- a count with so many more; each is modulo 2 ^ 64
abbrev pub with_more : ℕ → ℕ → ℕ
with_more n k = (n + k) % 2 ^ 64

-- counts of nothing
abbrev pub no_counts : Counts
no_counts = record {
  none = 0;
  faults = 0;
  questions = 0;
  replies = 0;
  frames_in = 0;
  hits = 0;
  format_errors = 0;
  server_failures = 0;
  not_implemented = 0;
  refusals = 0;
  relayed = 0;
  failed = 0;
  queries = 0;
  again = 0;
  frames_out = 0;
  lost = 0;
  items = 0;
}

-- how many datagrams were received: questions, replies and frames
abbrev pub received_in : Counts → ℕ
received_in c = with_more (with_more c.questions c.replies) c.frames_in

-- how many receives there were: each gave a datagram or none, or failed
abbrev pub turns_in : Counts → ℕ
turns_in c = with_more (with_more (received_in c) c.none) c.faults

-- how many answers there were at once
abbrev pub at_once_in : Counts → ℕ
at_once_in c =
    with_more (with_more (with_more (with_more c.hits c.format_errors) c.server_failures) c.not_implemented) c.refusals

-- how many packets were sent: answers, queries and frames
abbrev pub sent_in : Counts → ℕ
sent_in c = with_more (with_more (with_more (with_more (at_once_in c) c.relayed) c.failed) c.queries) c.frames_out

-- a turn of a port: the datagram that its receive gave, if it gave one, and the packets that were sent
-- since, in their order
pub record PortTurn : Type 0 where
  pub received : Option Datagram
  pub sent : List PacketData

-- a turn that has sent nothing yet
abbrev pub new_turn : Option Datagram → PortTurn
new_turn received = record { received = received; sent = [] }

-- a turn once it sent this packet
abbrev pub with_sent : PortTurn → PacketData → PortTurn
with_sent t s = record t { sent = t.sent ++ s ∷ [] }

-- the turn that goes on after a call: each receive begins one, also where it gives nothing
abbrev pub turn_with : PortTurn → PortCall → PortTurn
turn_with t (Received asked from octets) = new_turn (Some (from, octets))
turn_with t (NoDatagram asked) = new_turn None
turn_with t (Fault asked) = new_turn None
turn_with t (PacketSent s) = with_sent t s
turn_with t (PacketLost s) = t

-- the turns of these calls, in their order, where this turn goes on before them
abbrev pub turns_from : PortTurn → List PortCall → List PortTurn
turns_from t [] = t ∷ []
turns_from t (PacketSent s ∷ calls) = turns_from (with_sent t s) calls
turns_from t (PacketLost s ∷ calls) = turns_from t calls
turns_from t (receive ∷ calls) = t ∷ turns_from (turn_with t receive) calls

-- the turns of a record, in their order. The first received nothing: it sent what was sent before the
-- first receive
abbrev pub turns_of : List PortCall → List PortTurn
turns_of calls = turns_from (new_turn None) calls

-- these packets, which a turn sends next, each with the turn as it was before
abbrev pub sends_from : PortTurn → List PacketData → List (PortTurn × PacketData)
sends_from t [] = []
sends_from t (s ∷ packets) = (t, s) ∷ sends_from (with_sent t s) packets

-- the packets that a turn sent, each with the turn as it was before
abbrev pub sends_in : PortTurn → List (PortTurn × PacketData)
sends_in t = sends_from (new_turn t.received) t.sent

-- the packets that were sent in these calls, each with its turn as it was before
abbrev pub sends_of : List PortCall → List (PortTurn × PacketData)
sends_of calls = flat_map sends_in (turns_of calls)

-- how many of a list pass a test, modulo 2 ^ 64
abbrev pub count : {A : Type 0} → (A → Bool) → List A → ℕ
count test xs = count_by test xs % 2 ^ 64

-- how many packets were sent that pass a test, which sees their turn as it was before
abbrev pub count_sends : (PortTurn → PacketData → Bool) → List PortCall → ℕ
count_sends test calls = count (λ p. test p.0 p.1) (sends_of calls)

-- whether a call received a datagram from an address with this role
abbrev pub is_from : List Addr → List Addr → Role → PortCall → Bool
is_from upstreams peers role (Received asked from octets) = has_role upstreams peers role from
is_from upstreams peers role call = false

-- whether a call is a receive that gave no datagram
abbrev pub is_empty : PortCall → Bool
is_empty (NoDatagram asked) = true
is_empty call = false

-- whether a call is a receive that failed
abbrev pub is_fault : PortCall → Bool
is_fault (Fault asked) = true
is_fault call = false

-- whether a call is a send that failed
abbrev pub is_lost : PortCall → Bool
is_lost (PacketLost s) = true
is_lost call = false

-- whether a packet is a frame to the first peer
abbrev pub is_first_frame : List Addr → List Addr → PacketData → Bool
is_first_frame upstreams peers s = has_role upstreams peers Peer s.to && is_first peers s.to

-- whether what a turn received is a datagram from an upstream
abbrev pub has_reply : List Addr → List Addr → Option Datagram → Bool
has_reply upstreams peers None = false
has_reply upstreams peers (Some d) = has_role upstreams peers Upstream d.0

-- whether a turn swept: it received nothing from an upstream, and sent a frame to the first peer
abbrev pub has_swept : List Addr → List Addr → PortTurn → Bool
has_swept upstreams peers t = not (has_reply upstreams peers t.received)
    && list_any (is_first_frame upstreams peers) t.sent

-- whether a packet answers the question that a turn received: it goes to the client that asked. A server
-- failure does only under the identifier of the question, since an older one may fail then too. One that
-- the client asked under the same identifier is not told apart
abbrev pub answers : List Addr → List Addr → Option Datagram → PacketData → Bool
answers upstreams peers None s = false
answers upstreams peers (Some d) s = has_role upstreams peers Client d.0 && is_same_addr d.0 s.to
    && (not (eqb (code_of s.octets) SERVER_FAILURE) || eqb (id_of d.1) (id_of s.octets))

-- whether a packet is an answer at once: it answers what its turn received, before the turn sweeps
abbrev pub is_at_once : List Addr → List Addr → PortTurn → PacketData → Bool
is_at_once upstreams peers t s =
    answers upstreams peers t.received s && not (has_swept upstreams peers t)

-- whether a packet is an answer at once with this code (RFC 1035 4.1.1)
abbrev pub is_at_once_with : List Addr → List Addr → ℕ → PortTurn → PacketData → Bool
is_at_once_with upstreams peers code t s =
    is_at_once upstreams peers t s && eqb (code_of s.octets) code

-- whether a code is one of the failures that are counted by themselves (RFC 1035 4.1.1)
abbrev pub is_failure : ℕ → Bool
is_failure code = eqb code FORMAT_ERROR || eqb code SERVER_FAILURE || eqb code NOT_IMPLEMENTED
    || eqb code REFUSED

-- whether a packet is an answer at once with records, a denial or TC: with none of the codes of failures
-- that are counted by themselves
abbrev pub is_hit : List Addr → List Addr → PortTurn → PacketData → Bool
is_hit upstreams peers t s = is_at_once upstreams peers t s && not (is_failure (code_of s.octets))

-- whether a packet is an answer to a client, and none at once
abbrev pub is_later : List Addr → List Addr → PortTurn → PacketData → Bool
is_later upstreams peers t s =
    has_role upstreams peers Client s.to && not (is_at_once upstreams peers t s)

-- whether an answer relays what its turn received: a reply of an upstream. A server failure does only
-- where the reply has that code, too, whichever question it replies to
abbrev pub relays : List Addr → List Addr → Option Datagram → PacketData → Bool
relays upstreams peers None s = false
relays upstreams peers (Some d) s = has_role upstreams peers Upstream d.0
    && (not (eqb (code_of s.octets) SERVER_FAILURE) || eqb (code_of d.1) SERVER_FAILURE)

-- how many entries the frames to the first peer have, together
abbrev pub entries_in : List Addr → List Addr → List PacketData → ℕ
entries_in upstreams peers packets =
    sum_by (λ s. cond (is_first_frame upstreams peers s) (entries_of s.octets) 0) packets

-- the entries of the frames that a turn sent to the first peer; 0 where there is no turn
abbrev pub items_of : List Addr → List Addr → Option PortTurn → ℕ
items_of upstreams peers None = 0
items_of upstreams peers (Some t) = entries_in upstreams peers t.sent

-- the entries of the last of these turns that swept, modulo 2 ^ 64; 0 where none did
abbrev pub last_items : List Addr → List Addr → List PortTurn → ℕ
last_items upstreams peers turns =
    items_of upstreams peers (find (has_swept upstreams peers) (reverse turns)) % 2 ^ 64

-- the counts of the calls of a port, of a site with these upstreams and peers
abbrev pub counts_of : List Addr → List Addr → List PortCall → Counts
counts_of upstreams peers calls = record {
  none = count is_empty calls;
  faults = count is_fault calls;
  questions = count (is_from upstreams peers Client) calls;
  replies = count (is_from upstreams peers Upstream) calls;
  frames_in = count (is_from upstreams peers Peer) calls;
  hits = count_sends (is_hit upstreams peers) calls;
  format_errors = count_sends (is_at_once_with upstreams peers FORMAT_ERROR) calls;
  server_failures = count_sends (is_at_once_with upstreams peers SERVER_FAILURE) calls;
  not_implemented = count_sends (is_at_once_with upstreams peers NOT_IMPLEMENTED) calls;
  refusals = count_sends (is_at_once_with upstreams peers REFUSED) calls;
  relayed = count_sends
      (λ t s. is_later upstreams peers t s && relays upstreams peers t.received s) calls;
  failed = count_sends
      (λ t s. is_later upstreams peers t s && not (relays upstreams peers t.received s)) calls;
  queries = count_sends (λ t s. has_role upstreams peers Upstream s.to) calls;
  again = count_sends
      (λ t s. has_role upstreams peers Upstream s.to && not (is_first upstreams s.to)) calls;
  frames_out = count_sends (λ t s. has_role upstreams peers Peer s.to) calls;
  lost = count is_lost calls;
  items = last_items upstreams peers (turns_of calls);
}

-- where a port noted its calls, these are the counts of them
abbrev pub IsCountOf : List Addr → List Addr → Option (List PortCall) → Counts → Type 0
IsCountOf upstreams peers None counts = Unit {0}
IsCountOf upstreams peers (Some calls) counts = counts ≡ counts_of upstreams peers calls
