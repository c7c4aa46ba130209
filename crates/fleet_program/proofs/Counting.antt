-- What was counted of the calls of a port, call by call.
-- Serves `Watch::note_receive`, `Watch::note_send`.
use Rattle.std.specs.List.{list_any}
use Rattle.std.proofs.Common.{◌≡◌, ℕ, ◌+◌, ◌%◌, ◌^◌, Bool, true, false, ◌&&◌, ◌||◌, not, eqb, cond, List, [], ◌∷◌, ◌++◌, reverse, fold, find, flat_map, count_by, Option, Some, None, refl, sym, ap, ◌∙◌, subst, append_assoc, append-nil, add-zero, true≢false, rules}
use Rattle.std.proofs.lemmas.List.{reverse-append}
use Rattle.std.proofs.lemmas.List.Folds.{list_any-append}
use Rattle.std.proofs.lemmas.List.Sums.{sum_by-cons, sum_by_push, fold-append}
use Rattle.std.proofs.lemmas.Grind.{flat_map-append}
use Rattle.std.proofs.Math.Nat.{mod-add-mod}
use Rattle.std.proofs.Math.Logic.{∥∥₁_map₂}
use Rattle.fleet_name.specs.Types.{OctetList}
use Rattle.fleet_pending.specs.declared.addr.Addr.{Addr}
use Rattle.fleet_wire.specs.declared.rcode.TheConstants.{FORMAT_ERROR, SERVER_FAILURE, NOT_IMPLEMENTED, REFUSED}
use Rattle.fleet_site.specs.PacketData.{PacketData}
use Rattle.fleet_site.specs.server.PortRecord.{PortCall, Received, NoDatagram, Fault, PacketSent, PacketLost, NotesAll}
use Rattle.fleet_site.specs.socket.Waiting.{Datagram, is_same_addr}
use Rattle.fleet_program.specs.declared.tally.Counts.{Counts}
use Rattle.fleet_program.specs.declared.tally.Role.{Role}
use Rattle.fleet_program.specs.declared.tally.Role.TheVariants.{Upstream, Peer, Client}
use Rattle.fleet_program.specs.declared.tally.Tally.{Tally}
use Rattle.fleet_program.specs.declared.tally.Turn.{Turn}
use Rattle.fleet_program.specs.declared.tally.Turn.TheVariants.{Question, Reply, Sweep, Other}
use Rattle.fleet_program.specs.Counting.{role_of, is_same_role, has_role, is_first, id_of, code_of, entries_of, with_more, PortTurn, new_turn, with_sent, turn_with, turns_from, turns_of, sends_from, sends_in, sends_of, count, count_sends, is_from, is_empty, is_fault, is_lost, is_first_frame, has_reply, has_swept, is_at_once, is_at_once_with, is_failure, is_hit, is_later, relays, entries_in, items_of, last_items, counts_of, IsCountOf}
use Rattle.fleet_program.specs.steps.Tallying.{one_more, Counted, count_datagram, count_at_once, is_answered_by, is_relayed, count_later, count_query, count_frame, count_other, count_packet, count_call, turn_by, turn_on, kept_of, IsTurnOf, counted_in, Tallies}

-- the turns of calls and of one more: those that ended, and then what the last one becomes
turns_last : (t : PortTurn) (calls : List PortCall) (call : PortCall) → (ended : List PortTurn)
    × (turns_from t calls ≡ ended ++ fold turn_with t calls ∷ [])
    × (turns_from t (calls ++ call ∷ []) ≡ ended ++ turns_from (fold turn_with t calls) (call ∷ []))
turns_last t [] call = ([], refl, refl)
turns_last t (Received asked from octets ∷ calls) call =
    let (ended, was, is) = turns_last (new_turn (Some (from, octets))) calls call in
    (t ∷ ended, ap (λ x. t ∷ x) was, ap (λ x. t ∷ x) is)
turns_last t (NoDatagram asked ∷ calls) call =
    let (ended, was, is) = turns_last (new_turn None) calls call in
    (t ∷ ended, ap (λ x. t ∷ x) was, ap (λ x. t ∷ x) is)
turns_last t (Fault asked ∷ calls) call =
    let (ended, was, is) = turns_last (new_turn None) calls call in
    (t ∷ ended, ap (λ x. t ∷ x) was, ap (λ x. t ∷ x) is)
turns_last t (PacketSent s ∷ calls) call = turns_last (with_sent t s) calls call
turns_last t (PacketLost s ∷ calls) call = turns_last t calls call

-- one more packet is the last of the sends of a turn
sends_push : (t : PortTurn) (packets : List PacketData) (s : PacketData)
    → sends_from t (packets ++ s ∷ [])
    ≡ sends_from t packets ++ (record { received = t.received; sent = t.sent ++ packets }, s) ∷ []
sends_push t [] s =
    ap (λ (x : List PacketData). (record { received = t.received; sent = x }, s) ∷ [])
    (sym (append-nil t.sent))
sends_push t (p ∷ packets) s =
    ap (λ x. (t, p) ∷ x) (sends_push (with_sent t p) packets s
    ∙ ap (λ (x : List PacketData). sends_from (with_sent t p) packets
    ++ (record { received = t.received; sent = x }, s) ∷ [])
    (append_assoc t.sent (p ∷ []) packets))

-- a packet that a turn sends is the last of the sends
sends_last : (ended : List PortTurn) (t : PortTurn) (s : PacketData)
    → flat_map sends_in (ended ++ with_sent t s ∷ [])
    ≡ flat_map sends_in (ended ++ t ∷ []) ++ (t, s) ∷ []
sends_last ended t s =
    flat_map-append sends_in ended (with_sent t s ∷ [])
    ∙ (ap (λ x. flat_map sends_in ended ++ x)
    (append-nil (sends_in (with_sent t s)) ∙ sends_push (new_turn t.received) t.sent s)
    ∙ (sym (append_assoc (flat_map sends_in ended) (sends_in t) ((t, s) ∷ []))
    ∙ ap (λ x. x ++ (t, s) ∷ [])
    (ap (λ x. flat_map sends_in ended ++ x) (sym (append-nil (sends_in t)))
    ∙ sym (flat_map-append sends_in ended (t ∷ [])))))

-- a turn that begins sends nothing yet
sends_begun : (ended : List PortTurn) (t : PortTurn) (x : Option Datagram)
    → flat_map sends_in (ended ++ t ∷ new_turn x ∷ []) ≡ flat_map sends_in (ended ++ t ∷ [])
sends_begun ended t x =
    flat_map-append sends_in ended (t ∷ new_turn x ∷ [])
    ∙ sym (flat_map-append sends_in ended (t ∷ []))

-- a count with one or none more
count_cond : (b : Bool) (n : ℕ) → (n + cond b 1 0) % 2 ^ 64 ≡ cond b (one_more (n % 2 ^ 64)) (n % 2 ^ 64)
count_cond true n = sym (mod-add-mod n (2 ^ 64) 1)
count_cond false n = ap (λ x. x % 2 ^ 64) (add-zero n)

-- one more at the end is counted where it passes
count_push : {A : Type 0} (test : A → Bool) (xs : List A) (x : A)
    → count test (xs ++ x ∷ []) ≡ cond (test x) (one_more (count test xs)) (count test xs)
count_push test xs x =
    ap (λ n. n % 2 ^ 64) (sum_by_push (λ y. cond (test y) 1 0) xs x)
    ∙ count_cond (test x) (count_by test xs)

-- the last that passes, with one more at the end
find_push : {A : Type 0} (test : A → Bool) (xs : List A) (x : A)
    → find test (reverse (xs ++ x ∷ [])) ≡ cond (test x) (Some x) (find test (reverse xs))
find_push test xs x = ap (λ ys. find test ys) (reverse-append xs (x ∷ []))

-- the items of one more turn, or of those before it
items_cond : (us ps : List Addr) (b : Bool) (t : PortTurn) (last : Option PortTurn)
    → items_of us ps (cond b (Some t) last) ≡ cond b (entries_in us ps t.sent) (items_of us ps last)
items_cond us ps true t last = refl
items_cond us ps false t last = refl

-- the items with one more turn
items_push : (us ps : List Addr) (turns : List PortTurn) (t : PortTurn)
    → last_items us ps (turns ++ t ∷ []) ≡ cond (has_swept us ps t) (entries_in us ps t.sent)
    (items_of us ps (find (has_swept us ps) (reverse turns))) % 2 ^ 64
items_push us ps turns t =
    ap (λ x. items_of us ps x % 2 ^ 64) (find_push (has_swept us ps) turns t)
    ∙ ap (λ n. n % 2 ^ 64)
    (items_cond us ps (has_swept us ps t) t (find (has_swept us ps) (reverse turns)))

and-false : (b : Bool) → (b && false) ≡ false
and-false true = refl
and-false false = refl

and-true : (b : Bool) → (b && true) ≡ b
and-true true = refl
and-true false = refl

or-false : (b : Bool) → (b || false) ≡ b
or-false true = refl
or-false false = refl

-- a turn that begins has not swept
items_begun : (us ps : List Addr) (ended : List PortTurn) (t : PortTurn) (x : Option Datagram)
    → last_items us ps (ended ++ t ∷ new_turn x ∷ []) ≡ last_items us ps (ended ++ t ∷ [])
items_begun us ps ended t x =
    ap (λ turns. last_items us ps turns) (sym (append_assoc ended (t ∷ []) (new_turn x ∷ [])))
    ∙ (items_push us ps (ended ++ t ∷ []) (new_turn x)
    ∙ ap (λ b. cond b 0 (items_of us ps (find (has_swept us ps) (reverse (ended ++ t ∷ [])))) % 2 ^ 64)
    (and-false (not (has_reply us ps x))))

-- where the sends and the items stay, the counts change by the calls alone
counts_still : (us ps : List Addr) (old new : List PortCall) → sends_of new ≡ sends_of old
    → last_items us ps (turns_of new) ≡ last_items us ps (turns_of old)
    → counts_of us ps new ≡ record (counts_of us ps old) {
      none = count is_empty new;
      faults = count is_fault new;
      questions = count (is_from us ps Client) new;
      replies = count (is_from us ps Upstream) new;
      frames_in = count (is_from us ps Peer) new;
      lost = count is_lost new;
    }
counts_still us ps old new e f = λ i. record {
  none = count is_empty new;
  faults = count is_fault new;
  questions = count (is_from us ps Client) new;
  replies = count (is_from us ps Upstream) new;
  frames_in = count (is_from us ps Peer) new;
  hits = count (λ p. is_hit us ps p.0 p.1) (e i);
  format_errors = count (λ p. is_at_once_with us ps FORMAT_ERROR p.0 p.1) (e i);
  server_failures = count (λ p. is_at_once_with us ps SERVER_FAILURE p.0 p.1) (e i);
  not_implemented = count (λ p. is_at_once_with us ps NOT_IMPLEMENTED p.0 p.1) (e i);
  refusals = count (λ p. is_at_once_with us ps REFUSED p.0 p.1) (e i);
  relayed = count (λ p. is_later us ps p.0 p.1 && relays us ps p.0.received p.1) (e i);
  failed = count (λ p. is_later us ps p.0 p.1 && not (relays us ps p.0.received p.1)) (e i);
  queries = count (λ p. has_role us ps Upstream p.1.to) (e i);
  again = count (λ p. has_role us ps Upstream p.1.to && not (is_first us p.1.to)) (e i);
  frames_out = count (λ p. has_role us ps Peer p.1.to) (e i);
  lost = count is_lost new;
  items = f i;
}

-- what one more call adds that is no packet sent
counts_called : (us ps : List Addr) (calls : List PortCall) (call : PortCall)
    → sends_of (calls ++ call ∷ []) ≡ sends_of calls
    → last_items us ps (turns_of (calls ++ call ∷ [])) ≡ last_items us ps (turns_of calls)
    → counts_of us ps (calls ++ call ∷ []) ≡ record (counts_of us ps calls) {
      none = cond (is_empty call) (one_more (count is_empty calls)) (count is_empty calls);
      faults = cond (is_fault call) (one_more (count is_fault calls)) (count is_fault calls);
      questions = cond (is_from us ps Client call)
          (one_more (count (is_from us ps Client) calls)) (count (is_from us ps Client) calls);
      replies = cond (is_from us ps Upstream call)
          (one_more (count (is_from us ps Upstream) calls)) (count (is_from us ps Upstream) calls);
      frames_in = cond (is_from us ps Peer call)
          (one_more (count (is_from us ps Peer) calls)) (count (is_from us ps Peer) calls);
      lost = cond (is_lost call) (one_more (count is_lost calls)) (count is_lost calls);
    }
counts_called us ps calls call e f =
    counts_still us ps calls (calls ++ call ∷ []) e f ∙ (λ i. record (counts_of us ps calls) {
      none = count_push is_empty calls call i;
      faults = count_push is_fault calls call i;
      questions = count_push (is_from us ps Client) calls call i;
      replies = count_push (is_from us ps Upstream) calls call i;
      frames_in = count_push (is_from us ps Peer) calls call i;
      lost = count_push is_lost calls call i;
    })

-- a call that begins a turn changes no sends
sends_still : (calls : List PortCall) (call : PortCall) (x : Option Datagram)
    → ((t : PortTurn) → turns_from t (call ∷ []) ≡ t ∷ new_turn x ∷ [])
    → sends_of (calls ++ call ∷ []) ≡ sends_of calls
sends_still calls call x begins = let (ended, was, is) = turns_last (new_turn None) calls call in
    let last : PortTurn = fold turn_with (new_turn None) calls in
    ap (λ turns. flat_map sends_in turns) (is ∙ ap (λ turns. ended ++ turns) (begins last))
    ∙ (sends_begun ended last x ∙ ap (λ turns. flat_map sends_in turns) (sym was))

-- .. nor the items
items_still : (us ps : List Addr) (calls : List PortCall) (call : PortCall) (x : Option Datagram)
    → ((t : PortTurn) → turns_from t (call ∷ []) ≡ t ∷ new_turn x ∷ [])
    → last_items us ps (turns_of (calls ++ call ∷ [])) ≡ last_items us ps (turns_of calls)
items_still us ps calls call x begins = let (ended, was, is) = turns_last (new_turn None) calls call in
    let last : PortTurn = fold turn_with (new_turn None) calls in
    ap (λ turns. last_items us ps turns) (is ∙ ap (λ turns. ended ++ turns) (begins last))
    ∙ (items_begun us ps ended last x ∙ ap (λ turns. last_items us ps turns) (sym was))

-- a packet that was lost changes no turn
turns_lost : (calls : List PortCall) (s : PacketData)
    → turns_of (calls ++ PacketLost s ∷ []) ≡ turns_of calls
turns_lost calls s = let (ended, was, is) = turns_last (new_turn None) calls (PacketLost s) in
    is ∙ sym was

-- a datagram, by the role of the address that it came from
datagram_counts : (role : Role) (from : Addr) (octets : OctetList) (c : Counts) → record c {
  questions = cond (is_same_role Client role) (one_more c.questions) c.questions;
  replies = cond (is_same_role Upstream role) (one_more c.replies) c.replies;
  frames_in = cond (is_same_role Peer role) (one_more c.frames_in) c.frames_in;
} ≡ (count_datagram role from octets c).counts
datagram_counts Upstream from octets c = refl
datagram_counts Peer from octets c = refl
datagram_counts Client from octets c = refl

-- what a packet that was sent adds: whether it is an answer at once, the role of the address that it
-- goes to, whether that is the first upstream, whether it relays a reply, its code, and the items
abbrev counts_by : Bool → Role → Bool → Bool → ℕ → ℕ → Counts → Counts
counts_by at_once role first relaying code items c = record c {
  hits = cond (at_once && not (is_failure code)) (one_more c.hits) c.hits;
  format_errors = cond (at_once && eqb code FORMAT_ERROR) (one_more c.format_errors) c.format_errors;
  server_failures = cond (at_once && eqb code SERVER_FAILURE)
      (one_more c.server_failures) c.server_failures;
  not_implemented = cond (at_once && eqb code NOT_IMPLEMENTED)
      (one_more c.not_implemented) c.not_implemented;
  refusals = cond (at_once && eqb code REFUSED) (one_more c.refusals) c.refusals;
  relayed = cond (is_same_role Client role && not at_once && relaying) (one_more c.relayed) c.relayed;
  failed = cond (is_same_role Client role && not at_once && not relaying) (one_more c.failed) c.failed;
  queries = cond (is_same_role Upstream role) (one_more c.queries) c.queries;
  again = cond (is_same_role Upstream role && not first) (one_more c.again) c.again;
  frames_out = cond (is_same_role Peer role) (one_more c.frames_out) c.frames_out;
  items = items;
}

-- the turn that goes on after these calls
abbrev turn_after : List PortCall → PortTurn
turn_after calls = fold turn_with (new_turn None) calls

-- a packet that was sent is the last of the sends of a record
sends_sent : (calls : List PortCall) (s : PacketData)
    → sends_of (calls ++ PacketSent s ∷ []) ≡ sends_of calls ++ (turn_after calls, s) ∷ []
sends_sent calls s = let (ended, was, is) = turns_last (new_turn None) calls (PacketSent s) in
    ap (λ turns. flat_map sends_in turns) is
    ∙ (sends_last ended (turn_after calls) s
    ∙ ap (λ turns. flat_map sends_in turns ++ (turn_after calls, s) ∷ []) (sym was))

-- one more packet that was sent is counted where it passes
sent_push : (test : PortTurn → PacketData → Bool) (calls : List PortCall) (s : PacketData)
    → count_sends test (calls ++ PacketSent s ∷ []) ≡ cond (test (turn_after calls) s)
    (one_more (count_sends test calls)) (count_sends test calls)
sent_push test calls s =
    ap (λ x. count (λ p. test p.0 p.1) x) (sends_sent calls s)
    ∙ count_push (λ p. test p.0 p.1) (sends_of calls) (turn_after calls, s)

-- what a packet that was sent adds to the counts of a record
sent_counts : (us ps : List Addr) (calls : List PortCall) (s : PacketData)
    → counts_of us ps (calls ++ PacketSent s ∷ [])
    ≡ counts_by (is_at_once us ps (turn_after calls) s) (role_of us ps s.to) (is_first us s.to)
    (relays us ps (turn_after calls).received s) (code_of s.octets)
    (last_items us ps (turns_of (calls ++ PacketSent s ∷ []))) (counts_of us ps calls)
sent_counts us ps calls s = λ i. record {
  none = count_push is_empty calls (PacketSent s) i;
  faults = count_push is_fault calls (PacketSent s) i;
  questions = count_push (is_from us ps Client) calls (PacketSent s) i;
  replies = count_push (is_from us ps Upstream) calls (PacketSent s) i;
  frames_in = count_push (is_from us ps Peer) calls (PacketSent s) i;
  hits = sent_push (is_hit us ps) calls s i;
  format_errors = sent_push (is_at_once_with us ps FORMAT_ERROR) calls s i;
  server_failures = sent_push (is_at_once_with us ps SERVER_FAILURE) calls s i;
  not_implemented = sent_push (is_at_once_with us ps NOT_IMPLEMENTED) calls s i;
  refusals = sent_push (is_at_once_with us ps REFUSED) calls s i;
  relayed = sent_push (λ t s. is_later us ps t s && relays us ps t.received s) calls s i;
  failed = sent_push (λ t s. is_later us ps t s && not (relays us ps t.received s)) calls s i;
  queries = sent_push (λ t s. has_role us ps Upstream s.to) calls s i;
  again = sent_push (λ t s. has_role us ps Upstream s.to && not (is_first us s.to)) calls s i;
  frames_out = sent_push (λ t s. has_role us ps Peer s.to) calls s i;
  lost = count_push is_lost calls (PacketSent s) i;
  items = last_items us ps (turns_of (calls ++ PacketSent s ∷ []));
}

-- what is counted of a packet, by what `count_packet` looks at
abbrev packet_by : Bool → Role → Bool → Bool → ℕ → ℕ → Turn → Counts → Counted
packet_by true role first_up first_peer code n turn c =
    record { counts = count_at_once code c; turn = turn }
packet_by false Upstream first_up first_peer code n turn c =
    record { counts = count_query first_up c; turn = turn }
packet_by false Peer first_up first_peer code n turn c = count_frame first_peer n turn c
packet_by false Client first_up first_peer code n turn c =
    record { counts = count_later (is_relayed turn code) c; turn = turn }

packet_cases : (us ps : List Addr) (s : PacketData) (turn : Turn) (c : Counts)
    (at_once : Bool) (role : Role)
    → cond at_once (record { counts = count_at_once (code_of s.octets) c; turn = turn })
    (count_other role us ps s turn c)
    ≡ packet_by at_once role (is_first us s.to) (is_first ps s.to) (code_of s.octets)
    (entries_of s.octets) turn c
packet_cases us ps s turn c true role = refl
packet_cases us ps s turn c false Upstream = refl
packet_cases us ps s turn c false Peer = refl
packet_cases us ps s turn c false Client = refl

eqb_same : (m n : ℕ) → eqb m n ≡ true → m ≡ n
eqb_same m n e = search rules

false_true : {A : Type 0} → false ≡ true → A
false_true {A} e = absurd (true≢false (sym e))

-- an answer at once is counted by its code alone
abbrev CountsAtOnce : Counts → ℕ → Type 0
CountsAtOnce c code = record c {
  hits = cond (not (is_failure code)) (one_more c.hits) c.hits;
  format_errors = cond (eqb code FORMAT_ERROR) (one_more c.format_errors) c.format_errors;
  server_failures = cond (eqb code SERVER_FAILURE) (one_more c.server_failures) c.server_failures;
  not_implemented = cond (eqb code NOT_IMPLEMENTED) (one_more c.not_implemented) c.not_implemented;
  refusals = cond (eqb code REFUSED) (one_more c.refusals) c.refusals;
} ≡ count_at_once code c

at_once_counts : (c : Counts) (code : ℕ) → CountsAtOnce c code
at_once_counts c code = first (eqb code FORMAT_ERROR) refl
  where
    fourth : (b : Bool) → eqb code REFUSED ≡ b → eqb code NOT_IMPLEMENTED ≡ false
        → eqb code SERVER_FAILURE ≡ false → eqb code FORMAT_ERROR ≡ false → CountsAtOnce c code
    fourth true e d h g = subst (λ n. CountsAtOnce c n) (sym (eqb_same code REFUSED e)) refl
    fourth false e d h g = rw (e, d, h, g) refl

    third : (b : Bool) → eqb code NOT_IMPLEMENTED ≡ b
        → eqb code SERVER_FAILURE ≡ false → eqb code FORMAT_ERROR ≡ false → CountsAtOnce c code
    third true e h g = subst (λ n. CountsAtOnce c n) (sym (eqb_same code NOT_IMPLEMENTED e)) refl
    third false e h g = fourth (eqb code REFUSED) refl e h g

    second : (b : Bool) → eqb code SERVER_FAILURE ≡ b → eqb code FORMAT_ERROR ≡ false
        → CountsAtOnce c code
    second true e g = subst (λ n. CountsAtOnce c n) (sym (eqb_same code SERVER_FAILURE e)) refl
    second false e g = third (eqb code NOT_IMPLEMENTED) refl e g

    first : (b : Bool) → eqb code FORMAT_ERROR ≡ b → CountsAtOnce c code
    first true e = subst (λ n. CountsAtOnce c n) (sym (eqb_same code FORMAT_ERROR e)) refl
    first false e = second (eqb code SERVER_FAILURE) refl e

-- a query, and an answer that is none at once
query_counts : (first : Bool) (c : Counts) → record c {
  queries = one_more c.queries;
  again = cond (not first) (one_more c.again) c.again;
} ≡ count_query first c
query_counts true c = refl
query_counts false c = refl

later_counts : (relaying : Bool) (c : Counts) → record c {
  relayed = cond relaying (one_more c.relayed) c.relayed;
  failed = cond (not relaying) (one_more c.failed) c.failed;
} ≡ count_later relaying c
later_counts true c = refl
later_counts false c = refl

-- the items that a frame to the first peer leads to, and what is kept of its turn then
abbrev swept_items : Turn → ℕ → ℕ → ℕ
swept_items (Question host port id) n items = with_more 0 n
swept_items (Reply code) n items = items
swept_items Sweep n items = with_more items n
swept_items Other n items = with_more 0 n

abbrev swept_turn : Turn → Turn
swept_turn (Question host port id) = Sweep
swept_turn (Reply code) = Reply code
swept_turn Sweep = Sweep
swept_turn Other = Sweep

frame_counts : (first : Bool) (n : ℕ) (turn : Turn) (c : Counts) → count_frame first n turn c ≡ record {
  counts = record c {
    frames_out = one_more c.frames_out;
    items = cond first (swept_items turn n c.items) c.items;
  };
  turn = cond first (swept_turn turn) turn;
}
frame_counts false n turn c = refl
frame_counts true n (Question host port id) c = refl
frame_counts true n (Reply code) c = refl
frame_counts true n Sweep c = refl
frame_counts true n Other c = refl

-- the counts and the turn that a packet leads to
packet_counts : (at_once : Bool) (role : Role) → (at_once ≡ true → role ≡ Client)
    → (first_up first_peer : Bool) (code n : ℕ) (turn : Turn) (c : Counts)
    → packet_by at_once role first_up first_peer code n turn c ≡ record {
      counts = counts_by at_once role first_up (is_relayed turn code) code
          (cond (is_same_role Peer role && first_peer) (swept_items turn n c.items) c.items) c;
      turn = cond (is_same_role Peer role && first_peer) (swept_turn turn) turn;
    }
packet_counts true Upstream only up peer code n turn c = cc (only refl)
packet_counts true Peer only up peer code n turn c = cc (only refl)
packet_counts true Client only up peer code n turn c =
    ap (λ (x : Counts). record { counts = x; turn = turn }) (sym (at_once_counts c code))
packet_counts false Upstream only up peer code n turn c =
    ap (λ (x : Counts). record { counts = x; turn = turn }) (sym (query_counts up c))
packet_counts false Peer only up peer code n turn c = frame_counts peer n turn c
packet_counts false Client only up peer code n turn c =
    ap (λ (x : Counts). record { counts = x; turn = turn }) (sym (later_counts (is_relayed turn code) c))

-- what is kept of what a turn received: no sweep, and a reply where it received one
abbrev IsBegun : Turn → Bool → Type 0
IsBegun (Question host port id) reply = reply ≡ false
IsBegun (Reply code) reply = reply ≡ true
IsBegun Sweep reply = ⊥
IsBegun Other reply = reply ≡ false

begun_by : (role : Role) (d : Datagram) → IsBegun (turn_by role d) (is_same_role Upstream role)
begun_by Upstream d = refl
begun_by Peer d = refl
begun_by Client d = refl

begun : (us ps : List Addr) (x : Option Datagram) → IsBegun (turn_on us ps x) (has_reply us ps x)
begun us ps None = refl
begun us ps (Some d) = begun_by (role_of us ps d.0) d

-- the items once a packet is sent, which may be a frame to the first peer
items_first : (turn : Turn) (reply sweeps : Bool) → IsBegun turn reply → (n f rest items : ℕ)
    → items ≡ cond (not reply && sweeps) f rest % 2 ^ 64 → (sweeps ≡ false → f ≡ 0)
    → cond (not reply && true) (f + n) rest % 2 ^ 64
    ≡ swept_items (cond (not reply && sweeps) Sweep turn) n items
items_first turn false true begun n f rest items e none =
    sym (mod-add-mod f (2 ^ 64) n) ∙ ap (λ x. (x + n) % 2 ^ 64) (sym e)
items_first (Question host port id) false false begun n f rest items e none =
    ap (λ x. (x + n) % 2 ^ 64) (none refl)
items_first (Reply code) false false begun n f rest items e none = false_true begun
items_first Sweep false false begun n f rest items e none = absurd begun
items_first Other false false begun n f rest items e none =
    ap (λ x. (x + n) % 2 ^ 64) (none refl)
items_first (Question host port id) true sweeps begun n f rest items e none = false_true (sym begun)
items_first (Reply code) true sweeps begun n f rest items e none = sym e
items_first Sweep true sweeps begun n f rest items e none = absurd begun
items_first Other true sweeps begun n f rest items e none = false_true (sym begun)

or-true : (b : Bool) → (b || true) ≡ true
or-true true = refl
or-true false = refl

items_sent : (turn : Turn) (reply sweeps : Bool) → IsBegun turn reply
    → (first : Bool) (n f rest items : ℕ)
    → items ≡ cond (not reply && sweeps) f rest % 2 ^ 64 → (sweeps ≡ false → f ≡ 0)
    → cond (not reply && (sweeps || first)) (f + cond first n 0) rest % 2 ^ 64
    ≡ cond first (swept_items (cond (not reply && sweeps) Sweep turn) n items) items
items_sent turn reply sweeps begun true n f rest items e none =
    ap (λ b. cond (not reply && b) (f + n) rest % 2 ^ 64) (or-true sweeps)
    ∙ items_first turn reply sweeps begun n f rest items e none
items_sent turn reply sweeps begun false n f rest items e none =
    ap (λ b. cond (not reply && b) (f + 0) rest % 2 ^ 64) (or-false sweeps)
    ∙ (ap (λ x. cond (not reply && sweeps) x rest % 2 ^ 64) (add-zero f) ∙ sym e)

-- what is kept of the turn once a packet is sent, which may be a frame to the first peer
turn_first : (turn : Turn) (reply sweeps : Bool) → IsBegun turn reply
    → cond (not reply && true) Sweep turn ≡ swept_turn (cond (not reply && sweeps) Sweep turn)
turn_first turn false true begun = refl
turn_first (Question host port id) false false begun = refl
turn_first (Reply code) false false begun = false_true begun
turn_first Sweep false false begun = refl
turn_first Other false false begun = refl
turn_first (Question host port id) true sweeps begun = false_true (sym begun)
turn_first (Reply code) true sweeps begun = refl
turn_first Sweep true sweeps begun = refl
turn_first Other true sweeps begun = false_true (sym begun)

turn_sent : (turn : Turn) (reply sweeps : Bool) → IsBegun turn reply → (first : Bool)
    → cond (not reply && (sweeps || first)) Sweep turn
    ≡ cond first (swept_turn (cond (not reply && sweeps) Sweep turn))
    (cond (not reply && sweeps) Sweep turn)
turn_sent turn reply sweeps begun true =
    ap (λ b. cond (not reply && b) Sweep turn) (or-true sweeps) ∙ turn_first turn reply sweeps begun
turn_sent turn reply sweeps begun false =
    ap (λ b. cond (not reply && b) Sweep turn) (or-false sweeps)

-- a turn with one more packet
any_push : (us ps : List Addr) (packets : List PacketData) (s : PacketData)
    → list_any (is_first_frame us ps) (packets ++ s ∷ [])
    ≡ (list_any (is_first_frame us ps) packets || is_first_frame us ps s)
any_push us ps packets s = list_any-append (is_first_frame us ps) packets (s ∷ [])
    ∙ ap (λ b. list_any (is_first_frame us ps) packets || b) (or-false (is_first_frame us ps s))

-- without a frame to the first peer there are no entries
no_entries : (us ps : List Addr) (packets : List PacketData)
    → list_any (is_first_frame us ps) packets ≡ false → entries_in us ps packets ≡ 0
no_entries us ps [] e = refl
no_entries us ps (s ∷ packets) e =
    sum_by-cons (λ s. cond (is_first_frame us ps s) (entries_of s.octets) 0) s packets
    ∙ go (is_first_frame us ps s) (no_entries us ps packets) e
  where
    go : (b : Bool) → (list_any (is_first_frame us ps) packets ≡ false → entries_in us ps packets ≡ 0)
        → (b || list_any (is_first_frame us ps) packets) ≡ false
        → cond b (entries_of s.octets) 0 + entries_in us ps packets ≡ 0
    go true none e = false_true (sym e)
    go false none e = ap (λ x. 0 + x) (none e)

-- what is kept of a turn shows whether a packet is an answer at once
answered_by : (role : Role) (d : Datagram) (s : PacketData) (sweeps : Bool)
    → is_answered_by (cond (not (is_same_role Upstream role) && sweeps) Sweep (turn_by role d)) s
    ≡ (is_same_role Client role && is_same_addr d.0 s.to
    && (not (eqb (code_of s.octets) SERVER_FAILURE) || eqb (id_of d.1) (id_of s.octets))
    && not (not (is_same_role Upstream role) && sweeps))
answered_by Upstream d s sweeps = refl
answered_by Peer d s true = refl
answered_by Peer d s false = refl
answered_by Client d s true = sym (and-false _)
answered_by Client d s false = sym (and-true _)

answered : (us ps : List Addr) (x : Option Datagram) (sent : List PacketData) (s : PacketData)
    → is_answered_by (kept_of us ps (record { received = x; sent = sent })) s
    ≡ is_at_once us ps (record { received = x; sent = sent }) s
answered us ps None sent s = go (list_any (is_first_frame us ps) sent)
  where
    go : (sweeps : Bool) → is_answered_by (cond sweeps Sweep Other) s ≡ false
    go true = refl
    go false = refl
answered us ps (Some d) sent s =
    answered_by (role_of us ps d.0) d s (list_any (is_first_frame us ps) sent)

-- .. and whether it relays a reply
relayed_by : (role : Role) (d : Datagram) (s : PacketData) (sweeps : Bool)
    → is_relayed (cond (not (is_same_role Upstream role) && sweeps) Sweep (turn_by role d))
    (code_of s.octets)
    ≡ (is_same_role Upstream role
    && (not (eqb (code_of s.octets) SERVER_FAILURE) || eqb (code_of d.1) SERVER_FAILURE))
relayed_by Upstream d s sweeps = refl
relayed_by Peer d s true = refl
relayed_by Peer d s false = refl
relayed_by Client d s true = refl
relayed_by Client d s false = refl

relayed_same : (us ps : List Addr) (x : Option Datagram) (sent : List PacketData) (s : PacketData)
    → is_relayed (kept_of us ps (record { received = x; sent = sent })) (code_of s.octets)
    ≡ relays us ps x s
relayed_same us ps None sent s = go (list_any (is_first_frame us ps) sent)
  where
    go : (sweeps : Bool) → is_relayed (cond sweeps Sweep Other) (code_of s.octets) ≡ false
    go true = refl
    go false = refl
relayed_same us ps (Some d) sent s =
    relayed_by (role_of us ps d.0) d s (list_any (is_first_frame us ps) sent)

and_left : (a b : Bool) → (a && b) ≡ true → a ≡ true
and_left true b e = refl
and_left false b e = e

and_right : (a b : Bool) → (a && b) ≡ true → b ≡ true
and_right true b e = e
and_right false b e = false_true e

same_addr : (a b : Addr) → is_same_addr a b ≡ true → a ≡ b
same_addr a b e =
    let host = eqb_same a.host b.host (and_left (eqb a.host b.host) (eqb a.port b.port) e) in
    let port = eqb_same a.port b.port (and_right (eqb a.host b.host) (eqb a.port b.port) e) in
    λ i. record { host = host i; port = port i }

is_client : (role : Role) → is_same_role Client role ≡ true → role ≡ Client
is_client Upstream e = false_true e
is_client Peer e = false_true e
is_client Client e = refl

-- an answer at once goes to a client
at_once_client : (us ps : List Addr) (x : Option Datagram) (sent : List PacketData) (s : PacketData)
    → is_at_once us ps (record { received = x; sent = sent }) s ≡ true → role_of us ps s.to ≡ Client
at_once_client us ps None sent s e = false_true e
at_once_client us ps (Some d) sent s e =
    let both = and_left _ _ (and_left _ _ e) in
    subst (λ a. role_of us ps a ≡ Client) (same_addr d.0 s.to (and_right _ _ both))
    (is_client (role_of us ps d.0) (and_left _ _ both))

-- the items of a record with one more packet that was sent
items_after : (us ps : List Addr) (calls : List PortCall) (s : PacketData)
    → last_items us ps (turns_of (calls ++ PacketSent s ∷ []))
    ≡ cond (is_first_frame us ps s) (swept_items (kept_of us ps (turn_after calls))
    (entries_of s.octets) (last_items us ps (turns_of calls))) (last_items us ps (turns_of calls))
items_after us ps calls s = let (ended, was, is) = turns_last (new_turn None) calls (PacketSent s) in
    let t : PortTurn = turn_after calls in
    let rest : ℕ = items_of us ps (find (has_swept us ps) (reverse ended)) in
    ap (λ turns. last_items us ps turns) is
    ∙ (items_push us ps ended (with_sent t s)
    ∙ (ap (λ b. cond (not (has_reply us ps t.received) && b)
    (entries_in us ps (t.sent ++ s ∷ [])) rest % 2 ^ 64)
    (any_push us ps t.sent s)
    ∙ (ap (λ n. cond (not (has_reply us ps t.received)
    && (list_any (is_first_frame us ps) t.sent || is_first_frame us ps s)) n rest % 2 ^ 64)
    (sum_by_push (λ s. cond (is_first_frame us ps s) (entries_of s.octets) 0) t.sent s)
    ∙ items_sent (turn_on us ps t.received) (has_reply us ps t.received)
    (list_any (is_first_frame us ps) t.sent) (begun us ps t.received) (is_first_frame us ps s)
    (entries_of s.octets) (entries_in us ps t.sent) rest (last_items us ps (turns_of calls))
    (ap (λ turns. last_items us ps turns) was ∙ items_push us ps ended t)
    (no_entries us ps t.sent))))

-- what is kept of a turn with one more packet that was sent
kept_after : (us ps : List Addr) (t : PortTurn) (s : PacketData)
    → kept_of us ps (with_sent t s)
    ≡ cond (is_first_frame us ps s) (swept_turn (kept_of us ps t)) (kept_of us ps t)
kept_after us ps t s =
    ap (λ b. cond (not (has_reply us ps t.received) && b) Sweep (turn_on us ps t.received))
    (any_push us ps t.sent s)
    ∙ turn_sent (turn_on us ps t.received) (has_reply us ps t.received)
    (list_any (is_first_frame us ps) t.sent) (begun us ps t.received) (is_first_frame us ps s)

-- what is counted of a record
abbrev counted_of : List Addr → List Addr → List PortCall → Counted
counted_of us ps calls =
    record { counts = counts_of us ps calls; turn = kept_of us ps (turn_after calls) }

-- a packet that was sent is counted as the record with it is
packet_step : (us ps : List Addr) (calls : List PortCall) (s : PacketData)
    → count_packet us ps s (kept_of us ps (turn_after calls)) (counts_of us ps calls)
    ≡ record {
      counts = counts_of us ps (calls ++ PacketSent s ∷ []);
      turn = kept_of us ps (with_sent (turn_after calls) s);
    }
packet_step us ps calls s =
    let t : PortTurn = turn_after calls in
    let c : Counts = counts_of us ps calls in
    let kept : Turn = kept_of us ps t in
    let role : Role = role_of us ps s.to in
    let up : Bool = is_first us s.to in
    let peer : Bool = is_first ps s.to in
    let code : ℕ = code_of s.octets in
    let n : ℕ = entries_of s.octets in
    let at_once : Bool = is_at_once us ps t s in
    packet_cases us ps s kept c (is_answered_by kept s) role
    ∙ (ap (λ b. packet_by b role up peer code n kept c) (answered us ps t.received t.sent s)
    ∙ (packet_counts at_once role (at_once_client us ps t.received t.sent s) up peer code n kept c
    ∙ ((λ i. record {
      counts = counts_by at_once role up (relayed_same us ps t.received t.sent s i) code
          (sym (items_after us ps calls s) i) c;
      turn = sym (kept_after us ps t s) i;
    })
    ∙ ap (λ (x : Counts). record { counts = x; turn = kept_of us ps (with_sent t s) })
    (sym (sent_counts us ps calls s)))))

-- what is kept of a turn that begins
kept_begun : (us ps : List Addr) (x : Option Datagram) → kept_of us ps (new_turn x) ≡ turn_on us ps x
kept_begun us ps x = ap (λ b. cond b Sweep (turn_on us ps x)) (and-false (not (has_reply us ps x)))

datagram_turn : (role : Role) (from : Addr) (octets : OctetList) (c : Counts)
    → turn_by role (from, octets) ≡ (count_datagram role from octets c).turn
datagram_turn Upstream from octets c = refl
datagram_turn Peer from octets c = refl
datagram_turn Client from octets c = refl

-- each call is counted as the record with it is
call_step : (us ps : List Addr) (calls : List PortCall) (call : PortCall)
    → count_call us ps call (counted_of us ps calls) ≡ record {
      counts = counts_of us ps (calls ++ call ∷ []);
      turn = kept_of us ps (turn_with (turn_after calls) call);
    }
call_step us ps calls (Received asked from octets) =
    let role : Role = role_of us ps from in
    let c : Counts = counts_of us ps calls in
    λ i. record {
      counts = sym (counts_called us ps calls (Received asked from octets)
          (sends_still calls (Received asked from octets) (Some (from, octets)) (λ t. refl))
          (items_still us ps calls (Received asked from octets) (Some (from, octets)) (λ t. refl))
          ∙ datagram_counts role from octets c) i;
      turn = sym (kept_begun us ps (Some (from, octets)) ∙ datagram_turn role from octets c) i;
    }
call_step us ps calls (NoDatagram asked) = λ i. record {
  counts = sym (counts_called us ps calls (NoDatagram asked)
      (sends_still calls (NoDatagram asked) None (λ t. refl))
      (items_still us ps calls (NoDatagram asked) None (λ t. refl))) i;
  turn = Other;
}
call_step us ps calls (Fault asked) = λ i. record {
  counts = sym (counts_called us ps calls (Fault asked)
      (sends_still calls (Fault asked) None (λ t. refl))
      (items_still us ps calls (Fault asked) None (λ t. refl))) i;
  turn = Other;
}
call_step us ps calls (PacketSent s) = packet_step us ps calls s
call_step us ps calls (PacketLost s) = λ i. record {
  counts = sym (counts_called us ps calls (PacketLost s)
      (ap (λ turns. flat_map sends_in turns) (turns_lost calls s))
      (ap (λ turns. last_items us ps turns) (turns_lost calls s))) i;
  turn = kept_of us ps (turn_after calls);
}

some_same : {A : Type 0} (x y : A) → Some x ≡ Some y → x ≡ y
some_same x y e = cc

-- what is counted of a call, once that of the calls before it is known
counts_on : (us ps : List Addr) (old new : Option (List PortCall)) (call : PortCall) (t u : Counted)
    → IsCountOf us ps old t.counts → IsTurnOf us ps old t.turn → NotesAll old (call ∷ []) new
    → u ≡ count_call us ps call t → IsCountOf us ps new u.counts × IsTurnOf us ps new u.turn
counts_on us ps old None call t u counts turn notes e = (tt, tt)
counts_on us ps old (Some now) call t u counts turn (before, was, is) e =
    let counts_before : t.counts ≡ counts_of us ps before =
    subst (λ (x : Option (List PortCall)). IsCountOf us ps x t.counts) was counts in
    let turn_before : t.turn ≡ kept_of us ps (turn_after before) =
    subst (λ (x : Option (List PortCall)). IsTurnOf us ps x t.turn) was turn in
    let same : t ≡ counted_of us ps before =
    λ i. record { counts = counts_before i; turn = turn_before i } in
    let step =
    e ∙ (ap (λ (x : Counted). count_call us ps call x) same ∙ call_step us ps before call) in (
      ap (λ (x : Counted). x.counts) step ∙ ap (λ (x : List PortCall). counts_of us ps x) (sym is),
      ap (λ (x : Counted). x.turn) step
          ∙ ap (λ (x : PortTurn). kept_of us ps x)
          (sym (fold-append turn_with (new_turn None) before (call ∷ [])))
          ∙ ap (λ (x : List PortCall). kept_of us ps (turn_after x)) (sym is),
    )

-- a tally that counts a call, which a log notes, counts what the log has noted then
pub tallied : {A : Type 0} (old new : Tally A) (before after : Option (List PortCall)) (call : PortCall)
    → Tallies old call new → NotesAll before (call ∷ []) after
    → ∥ IsCountOf old.upstreams.items old.peers.items before old.counts ∥₁
    → ∥ IsTurnOf old.upstreams.items old.peers.items before old.turn ∥₁
    → ∥ IsCountOf new.upstreams.items new.peers.items after new.counts
    × IsTurnOf new.upstreams.items new.peers.items after new.turn ∥₁
tallied {A} old new before after call counts notes h k =
    subst (λ (t : Tally A). ∥ IsCountOf t.upstreams.items t.peers.items after t.counts
    × IsTurnOf t.upstreams.items t.peers.items after t.turn ∥₁) (sym counts)
    (∥∥₁_map₂ h k (λ c t. counts_on old.upstreams.items old.peers.items before after call
    (counted_in old) _ c t notes refl))
