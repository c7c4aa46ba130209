-- What a socket carries of the record of a port.
-- Serves the laws `own_replies`, `questions_answered`.
use Rattle.std.proofs.Common.{◌≡◌, ◌⊎◌, inl, inr, ℕ, zero, suc, ◌+◌, ◌<◌, Bool, true, false, cond, List, [], ◌∷◌, ◌++◌, append_assoc, append-nil, length, take, Option, Some, None, Result, Ok, Err, refl, sym, ap, ◌∙◌, subst, arith, le-ltb}
use Rattle.std.proofs.lemmas.Option.{same_Some}
use Rattle.rand_core.specs.Stream.{Stream}
use Rattle.fleet_name.specs.Places.{At, Has}
use Rattle.fleet_name.proofs.Lemmas.{has_left, has_right, has_either}
use Rattle.fleet_wire.specs.declared.bounds.TheConstants.{LONGEST_MESSAGE}
use Rattle.fleet_pending.specs.declared.addr.Addr.{Addr}
use Rattle.fleet_site.specs.ConfigData.{ConfigData}
use Rattle.fleet_site.specs.PacketData.{PacketData}
use Rattle.fleet_site.specs.SiteData.{SiteData}
use Rattle.fleet_site.specs.declared.port.PortFault.{PortFault}
use Rattle.fleet_site.specs.server.PortRecord.{PortCall, Received, NoDatagram, Fault, PacketSent, PacketLost, HasRoomFor, receive_of}
use Rattle.fleet_site.specs.server.Sending.{IsSend, AreSent, packets_of}
use Rattle.fleet_site.specs.server.Turn.{Action, calls_of, AllSent, ROOM, ServerState, Turn, Turns, word_of, start_of}
use Rattle.fleet_site.specs.server.Replies.{IsClient, SentAt, RepliesTo, RepliesOnce}
use Rattle.fleet_site.specs.server.Clients.{TurnsLead, no_turn, one_turn, RepliesInAnyCase}
use Rattle.fleet_site.specs.socket.SocketRecord.{SocketCall, departure_of}
use Rattle.fleet_site.specs.socket.Waiting.{Datagram, Arrived, with_one, without_one, Takes, is_long, is_frame, arrivals_of, departures_of, TookOut}
use Rattle.fleet_site.specs.socket.Bursts.{BurstData, arrived_of, turn_begun, Worked, HandsNextOn, SendsOrKeeps}
use Rattle.fleet_site.specs.socket.Flow.{PortStep, port_calls, socket_calls, Receiving, Sending, StepsTo, GoesOn, FlowsOn, Flows}
use Rattle.fleet_site.specs.socket.Clients.{IsAnsweredOver}
use Rattle.fleet_site.proofs.Answering.{at_end}
use Rattle.fleet_site.proofs.Arriving.{at_parts, before_end}
use Rattle.fleet_site.proofs.Flowing.{port_calls-append, socket_calls-append}
use Rattle.fleet_site.proofs.Ledger.{first_sent}
use Rattle.fleet_site.proofs.SocketCalls.{arrivals_of-append, departures_of-append}
use Rattle.fleet_site.proofs.Working.{none_or}
use Rattle.fleet_site.proofs.SocketLedger.{AsksRoom, handed_is, longer_kept}

-- A reply after its question.

-- it waits to be handed on
abbrev IsWaiting : Arrived → Datagram → Type 0
IsWaiting a d = Has a.messages d ⊎ Has a.frames d

-- all that waits there came in these calls
abbrev AllCame : BurstData → List SocketCall → Type 0
AllCame p calls = (d : Datagram) → IsWaiting (arrived_of p) d → Has (arrivals_of calls) d

joined_came : (kind : Bool) (ms fs : List Datagram) (d x : Datagram)
    → Has (ms ++ cond kind [] (d ∷ [])) x ⊎ Has (fs ++ cond kind (d ∷ []) []) x
    → (Has ms x ⊎ Has fs x) ⊎ (d ≡ x)
joined_came true ms fs d x (inl h) =
    elim (has_either ms [] x h) [ inl l ↦ inl (inl l) | inr r ↦ absurd r ]
joined_came true ms fs d x (inr h) = elim (has_either fs (d ∷ []) x h) [
  | inl l ↦ inl (inr l)
  | inr r ↦ elim r [ inl e ↦ inr e | inr n ↦ absurd n ]
]
joined_came false ms fs d x (inl h) = elim (has_either ms (d ∷ []) x h) [
  | inl l ↦ inl (inl l)
  | inr r ↦ elim r [ inl e ↦ inr e | inr n ↦ absurd n ]
]
joined_came false ms fs d x (inr h) =
    elim (has_either fs [] x h) [ inl l ↦ inl (inr l) | inr r ↦ absurd r ]

taken_came : (peers : List Addr) (ds : List Datagram) (a b : Arrived) (x : Datagram) → Takes peers ds a b
    → IsWaiting b x → IsWaiting a x ⊎ Has ds x
taken_came peers [] a b x t h = inl (subst (λ (y : Arrived). IsWaiting y x) t h)
taken_came peers (d ∷ ds) a b x (inl t) h = elim (taken_came peers ds (with_one peers d a) b x t h) [
  | inl w ↦ elim (joined_came (is_frame peers d) a.messages a.frames d x w) [
    | inl o ↦ inl o
    | inr e ↦ inr (inl e)
  ]
  | inr m ↦ inr (inr m)
]
taken_came peers (d ∷ ds) a b x (inr t) h = elim (taken_came peers ds (without_one peers d a) b x t.1 h) [
  | inl w ↦ inl w
  | inr m ↦ inr (inr m)
]

worked_came : (p q : BurstData) (calls seen : List SocketCall) → Worked p q calls → AllCame p seen
    → AllCame q (seen ++ calls)
worked_came p q calls seen w all x h =
    subst (λ (ys : List Datagram). Has ys x) (sym (arrivals_of-append seen calls))
    (elim (taken_came p.peers (arrivals_of calls) (arrived_of p) (arrived_of q) x w.takes h) [
      | inl o ↦ has_left (arrivals_of seen) (arrivals_of calls) x (all x o)
      | inr m ↦ has_right (arrivals_of seen) (arrivals_of calls) x m
    ])

-- what was taken out waited, and so did what still waits
took_there : (ms fs : List Datagram) (d : Datagram) (ns gs : List Datagram) → TookOut ms fs (Some d) ns gs
    → Has ms d ⊎ Has fs d
took_there (x ∷ ms) fs d ns gs t = inl (inl (sym (same_Some d x t.0)))
took_there [] (x ∷ fs) d ns gs t = inr (inl (sym (same_Some d x t.0)))
took_there [] [] d ns gs t = absurd (none_or d (sym t.0))

took_others : (ms fs : List Datagram) (taken : Option Datagram) (ns gs : List Datagram) (x : Datagram)
    → TookOut ms fs taken ns gs → Has ns x ⊎ Has gs x → Has ms x ⊎ Has fs x
took_others (d ∷ ms) fs taken ns gs x t (inl h) = inl (inr (subst (λ (ys : List Datagram). Has ys x) t.1 h))
took_others (d ∷ ms) fs taken ns gs x t (inr h) = inr (subst (λ (ys : List Datagram). Has ys x) t.2 h)
took_others [] (d ∷ fs) taken ns gs x t (inl h) = absurd (subst (λ (ys : List Datagram). Has ys x) t.1 h)
took_others [] (d ∷ fs) taken ns gs x t (inr h) = inr (inr (subst (λ (ys : List Datagram). Has ys x) t.2 h))
took_others [] [] taken ns gs x t (inl h) = absurd (subst (λ (ys : List Datagram). Has ys x) t.1 h)
took_others [] [] taken ns gs x t (inr h) = absurd (subst (λ (ys : List Datagram). Has ys x) t.2 h)

still_waits : (asked : ℕ) (p : BurstData) (r : Result (Option (Addr × ℕ)) PortFault) (buffer : List ℕ)
    (q : BurstData) (x : Datagram) → HandsNextOn asked p r buffer q → IsWaiting (arrived_of q) x
    → IsWaiting (arrived_of p) x
still_waits asked p (Ok got) buffer q x h w = took_others p.messages p.frames h.0 q.messages q.frames x h.1 w
still_waits asked p (Err e) buffer q x h w = subst (λ (y : BurstData). IsWaiting (arrived_of y) x) h w

receive_came : (asked : ℕ) (call : PortCall) (calls seen : List SocketCall) (p q : BurstData)
    → Receiving asked call calls p q → AllCame p seen → AllCame q (seen ++ calls)
receive_came asked call calls seen p q r all x h =
    subst (λ (ys : List SocketCall). Has (arrivals_of (seen ++ ys)) x) (sym r.made)
    (worked_came (turn_begun p) r.receives.mid r.receives.calls seen r.receives.worked all x
    (still_waits asked r.receives.mid r.result r.buffer q x r.receives.hands_on h))

-- what a send leaves waiting
sent_waits : (s : PacketData) (p : BurstData) (r : Result (Unit {0}) PortFault) (q : BurstData) (long : Bool)
    → is_long s.octets ≡ long → SendsOrKeeps s p r q → arrived_of q ≡ arrived_of p
sent_waits s p r q true e w = (longer_kept s p r q (w.longer e)).0
sent_waits s p r q false e w = ap arrived_of (w.message e).1

send_came : (s : PacketData) (call : PortCall) (calls seen : List SocketCall) (p q : BurstData)
    → Sending s call calls p q → AllCame p seen → AllCame q (seen ++ calls)
send_came s call calls seen p q d all x h =
    subst (λ (ys : List Datagram). Has ys x) (sym (arrivals_of-append seen calls))
    (has_left (arrivals_of seen) (arrivals_of calls) x
    (all x (subst (λ (y : Arrived). IsWaiting y x)
    (sent_waits s p d.result q (is_long s.octets) refl d.sends) h)))

step_came : (n : Option PortCall) (calls seen : List SocketCall) (p q : BurstData) → StepsTo (n, calls) p q
    → AllCame p seen → AllCame q (seen ++ calls)
step_came None calls seen p q h all = worked_came p q calls seen h.worked all
step_came (Some (Received asked from octets)) calls seen p q h all =
    receive_came asked (Received asked from octets) calls seen p q h all
step_came (Some (NoDatagram asked)) calls seen p q h all =
    receive_came asked (NoDatagram asked) calls seen p q h all
step_came (Some (Fault asked)) calls seen p q h all =
    receive_came asked (Fault asked) calls seen p q h all
step_came (Some (PacketSent s)) calls seen p q h all = send_came s (PacketSent s) calls seen p q h all
step_came (Some (PacketLost s)) calls seen p q h all = send_came s (PacketLost s) calls seen p q h all

-- what a receive handed on
handed_on : (asked : ℕ) (from : Addr) (octets : List ℕ) (p q : BurstData)
    (r : Result (Option (Addr × ℕ)) PortFault) (buffer : List ℕ)
    → Received asked from octets ≡ receive_of asked r buffer → HandsNextOn asked p r buffer q
    → (d : Datagram) × IsWaiting (arrived_of p) d × (from ≡ d.0) × (octets ≡ take asked d.1)
handed_on asked from octets p q (Err e) buffer is h =
    absurd (let bad : Received asked from octets ≡ Fault asked = is in cc)
handed_on asked from octets p q (Ok None) buffer is h =
    absurd (let bad : Received asked from octets ≡ NoDatagram asked = is in cc)
handed_on asked from octets p q (Ok (Some g)) buffer is (None, took, hands, same) =
    absurd (none_or g (sym hands))
handed_on asked from octets p q (Ok (Some g)) buffer is (Some d, took, fills, same) =
    let e : Received asked from octets ≡ Received asked d.0 (take asked d.1) =
    is ∙ handed_is asked g d buffer fills in
    (d, took_there p.messages p.frames d q.messages q.frames took, cc, cc)

came_before : (asked : ℕ) (from : Addr) (octets : List ℕ) (calls seen : List SocketCall) (p q : BurstData)
    → Receiving asked (Received asked from octets) calls p q → AllCame p seen
    → (whole : List ℕ) × Has (arrivals_of (seen ++ calls)) (from, whole) × (octets ≡ take asked whole)
came_before asked from octets calls seen p q r all =
    let h = handed_on asked from octets r.receives.mid q r.result r.buffer r.noted r.receives.hands_on in (
      h.0.1,
      subst (λ (x : Addr). Has (arrivals_of (seen ++ calls)) (x, h.0.1)) (sym h.2)
          (subst (λ (ys : List SocketCall). Has (arrivals_of (seen ++ ys)) h.0) (sym r.made)
          (worked_came (turn_begun p) r.receives.mid r.receives.calls seen r.receives.worked all h.0 h.1)),
      h.3,
    )

given_by : (r : Result (Unit {0}) PortFault) (s : PacketData)
    → departures_of (departure_of r s ∷ []) ≡ (s.to, s.octets) ∷ []
given_by (Ok u) s = refl
given_by (Err e) s = refl

given_first : (calls rest : List SocketCall) (d : Datagram) → Has (departures_of calls) d
    → Has (departures_of (calls ++ rest)) d
given_first calls rest d h =
    subst (λ (ds : List Datagram). Has ds d) (sym (departures_of-append calls rest))
    (has_left (departures_of calls) (departures_of rest) d h)

given_behind : (calls rest : List SocketCall) (d : Datagram) → Has (departures_of rest) d
    → Has (departures_of (calls ++ rest)) d
given_behind calls rest d h =
    subst (λ (ds : List Datagram). Has ds d) (sym (departures_of-append calls rest))
    (has_right (departures_of calls) (departures_of rest) d h)

-- a message is handed to the system in the call in which the port was given it
message_given : (s : PacketData) (call : PortCall) (calls : List SocketCall) (p q : BurstData)
    → is_long s.octets ≡ false → Sending s call calls p q → Has (departures_of calls) (s.to, s.octets)
message_given s call calls p q short d = go d.made
  where
    go : (calls ≡ departure_of d.result s ∷ []) ⊎ ((calls ≡ []) × (is_long s.octets ≡ true))
        → Has (departures_of calls) (s.to, s.octets)
    go (inl made) =
        subst (λ (x : List SocketCall). Has (departures_of x) (s.to, s.octets)) (sym made)
        (subst (λ (ds : List Datagram). Has ds (s.to, s.octets)) (sym (given_by d.result s)) (inl refl))
    go (inr made) = absurd (let bad : false ≡ true = sym short ∙ made.1 in cc)

sent_first : (s : PacketData) (call : PortCall) (calls : List SocketCall) (p q : BurstData)
    → is_long s.octets ≡ false → IsSend s call → StepsTo (Some call, calls) p q
    → Has (departures_of calls) (s.to, s.octets)
sent_first s call calls p q short (inl is) h =
    message_given s (PacketSent s) calls p q short
    (subst (λ (x : PortCall). StepsTo (Some x, calls) p q) is h)
sent_first s call calls p q short (inr is) h =
    message_given s (PacketLost s) calls p q short
    (subst (λ (x : PortCall). StepsTo (Some x, calls) p q) is h)

sent_over : (steps : List PortStep) (p q : BurstData) (place : ℕ) (s : PacketData) → is_long s.octets ≡ false
    → GoesOn steps p q → SentAt (port_calls steps) place s
    → Has (departures_of (socket_calls steps)) (s.to, s.octets)
sent_over [] p q place s short g sent = absurd (none_or sent.0 sent.1)
sent_over ((None, calls) ∷ steps) p q place s short g sent =
    given_behind calls (socket_calls steps) (s.to, s.octets)
    (sent_over steps g.0 q place s short g.2 sent)
sent_over ((Some call, calls) ∷ steps) p q zero s short g sent =
    given_first calls (socket_calls steps) (s.to, s.octets)
    (sent_first s call calls p g.0 short (first_sent call (port_calls steps) s sent) g.1)
sent_over ((Some call, calls) ∷ steps) p q (suc place) s short g sent =
    given_behind calls (socket_calls steps) (s.to, s.octets)
    (sent_over steps g.0 q place s short g.2 sent)

-- with one step more
one_further : (done : List PortStep) (n : Option PortCall) (calls : List SocketCall)
    → socket_calls (done ++ (n, calls) ∷ []) ≡ socket_calls done ++ calls
one_further done n calls =
    socket_calls-append done ((n, calls) ∷ [])
    ∙ ap (λ (cs : List SocketCall). socket_calls done ++ cs) (append-nil calls)

further_came : (done : List PortStep) (n : Option PortCall) (calls : List SocketCall) (p q : BurstData)
    → StepsTo (n, calls) p q → AllCame p (socket_calls done)
    → AllCame q (socket_calls (done ++ (n, calls) ∷ []))
further_came done n calls p q h all =
    subst (AllCame q) (sym (one_further done n calls)) (step_came n calls (socket_calls done) p q h all)

-- the datagram came by the time that the port handed it on, and the reply went out after that
answered : (steps done : List PortStep) (p q : BurstData) (earlier rest : List PortCall) (from : Addr)
    (octets : List ℕ) (place : ℕ) (s : PacketData) → AllCame p (socket_calls done) → GoesOn steps p q
    → port_calls steps ≡ earlier ++ Received ROOM from octets ∷ rest → SentAt rest place s
    → is_long s.octets ≡ false → s.to ≡ from → RepliesInAnyCase octets s.octets
    → IsAnsweredOver (done ++ steps) (port_calls done ++ (earlier ++ Received ROOM from octets ∷ [])) from octets
answered [] done p q [] rest from octets place s all g e sent short to says =
    absurd (let bad : [] ≡ Received ROOM from octets ∷ rest = e in cc)
answered [] done p q (x ∷ earlier) rest from octets place s all g e sent short to says =
    absurd (let bad : [] ≡ x ∷ (earlier ++ Received ROOM from octets ∷ rest) = e in cc)
answered ((None, calls) ∷ steps) done p q earlier rest from octets place s all g e sent short to says =
    let r = answered steps (done ++ (None, calls) ∷ []) g.0 q earlier rest from octets place s
    (further_came done None calls p g.0 g.1 all) g.2 e sent short to says in
    let handed = earlier ++ Received ROOM from octets ∷ [] in
    subst (λ (xs : List PortStep). IsAnsweredOver xs (port_calls done ++ handed) from octets)
    (append_assoc done ((None, calls) ∷ []) steps)
    (subst (λ (cs : List PortCall). IsAnsweredOver ((done ++ (None, calls) ∷ []) ++ steps) (cs ++ handed)
    from octets) (port_calls-append done ((None, calls) ∷ []) ∙ append-nil (port_calls done)) r)
answered ((Some call, calls) ∷ steps) done p q [] rest from octets place s all g e sent short to says =
    let whole : call ∷ port_calls steps ≡ Received ROOM from octets ∷ rest = e in
    let is : call ≡ Received ROOM from octets = cc in
    let others : port_calls steps ≡ rest = cc in
    let h = came_before ROOM from octets calls (socket_calls done) p g.0
    (subst (λ (x : PortCall). StepsTo (Some x, calls) p g.0) is g.1) all in
    record {
      before = done ++ (Some call, calls) ∷ [];
      behind = steps;
      all = sym (append_assoc done ((Some call, calls) ∷ []) steps);
      until = port_calls-append done ((Some call, calls) ∷ [])
          ∙ ap (λ (x : PortCall). port_calls done ++ x ∷ []) is;
      octets = h.0;
      came = subst (λ (cs : List SocketCall). Has (arrivals_of cs) (from, h.0))
          (sym (one_further done (Some call) calls)) h.1;
      cut = h.2;
      reply = s.octets;
      given = subst (λ (x : Addr). Has (departures_of (socket_calls steps)) (x, s.octets)) to
          (sent_over steps g.0 q place s short g.2
          (subst (λ (cs : List PortCall). SentAt cs place s) (sym others) sent));
      replies = says;
    }
answered ((Some call, calls) ∷ steps) done p q (x ∷ earlier) rest from octets place s all g e sent short to says =
    let handed = earlier ++ Received ROOM from octets ∷ [] in
    let whole : call ∷ port_calls steps ≡ x ∷ (earlier ++ Received ROOM from octets ∷ rest) = e in
    let is : call ≡ x = cc in
    let others : port_calls steps ≡ earlier ++ Received ROOM from octets ∷ rest = cc in
    let r = answered steps (done ++ (Some call, calls) ∷ []) g.0 q earlier rest from octets place s
    (further_came done (Some call) calls p g.0 g.1 all) g.2 others sent short to says in
    let same : port_calls (done ++ (Some call, calls) ∷ []) ++ handed ≡ port_calls done ++ (x ∷ handed) =
    ap (λ (cs : List PortCall). cs ++ handed) (port_calls-append done ((Some call, calls) ∷ []))
    ∙ append_assoc (port_calls done) (call ∷ []) handed
    ∙ ap (λ (y : PortCall). port_calls done ++ (y ∷ handed)) is in
    subst (λ (xs : List PortStep). IsAnsweredOver xs (port_calls done ++ (x ∷ handed)) from octets)
    (append_assoc done ((Some call, calls) ∷ []) steps)
    (subst (λ (cs : List PortCall). IsAnsweredOver ((done ++ (Some call, calls) ∷ []) ++ steps) cs from
    octets) same r)

asks_rest : (call : PortCall) (calls : List PortCall) → AsksRoom (call ∷ calls) → AsksRoom calls
asks_rest (Received asked from octets) calls h = h.1
asks_rest (NoDatagram asked) calls h = h
asks_rest (Fault asked) calls h = h
asks_rest (PacketSent s) calls h = h
asks_rest (PacketLost s) calls h = h

asks_at : (calls : List PortCall) (k room : ℕ) (from : Addr) (octets : List ℕ) → AsksRoom calls
    → At calls k (Received room from octets) → room ≡ ROOM
asks_at [] k room from octets asks there = absurd (none_or (Received room from octets) there)
asks_at (call ∷ calls) zero room from octets asks there =
    (subst (λ (x : PortCall). AsksRoom (x ∷ calls)) (same_Some call (Received room from octets) there) asks).0
asks_at (call ∷ calls) (suc k) room from octets asks there =
    asks_at calls k room from octets (asks_rest call calls asks) there

-- a packet after the call that received is one of those after it
sent_later : (earlier rest : List PortCall) (x : PortCall) (place : ℕ) (s : PacketData)
    → length earlier < place → SentAt (earlier ++ x ∷ rest) place s → (j : ℕ) × SentAt rest j s
sent_later earlier rest x place s later sent = go (at_parts earlier (x ∷ rest) place sent.0 sent.1)
  where
    go : At earlier place sent.0 ⊎ ((j : ℕ) × (place ≡ length earlier + j) × At (x ∷ rest) j sent.0)
        → (j : ℕ) × SentAt rest j s
    go (inl l) = absurd (omega (arith, later, before_end earlier place sent.0 l))
    go (inr (zero, e, t)) = absurd (omega (arith, later, e))
    go (inr (suc j, e, t)) = (j, (sent.0, t, sent.2))

-- who is replied to by the record of a port is replied to over its socket
pub answered_over : (c : ConfigData) (calls : List SocketCall) (noted : List PortCall) (p : BurstData)
    → AsksRoom noted → (flows : Flows calls noted p) → RepliesOnce c noted
    → (earlier rest : List PortCall) (place room : ℕ) (from : Addr) (octets : List ℕ) (packet : PacketData)
    → IsClient c from → noted ≡ earlier ++ Received room from octets ∷ rest → length earlier < place
    → SentAt noted place packet → packet.to ≡ from → RepliesInAnyCase octets packet.octets
    → IsAnsweredOver flows.goes.steps (earlier ++ Received room from octets ∷ []) from octets
answered_over c calls noted p asks flows once earlier rest place room from octets packet client parts later sent to says =
    subst (λ (n : ℕ). IsAnsweredOver f.steps (earlier ++ Received n from octets ∷ []) from octets) (sym whole)
    (answered f.steps [] f.first p earlier rest from octets behind.0 packet none f.goes
    (sym f.by_port ∙ parts ∙ ap (λ (n : ℕ). earlier ++ Received n from octets ∷ rest) whole) behind.1
    (le-ltb LONGEST_MESSAGE (length packet.octets) reply.short) to says)
  where
    f : FlowsOn calls noted p
    f = flows.goes

    whole : room ≡ ROOM
    whole = asks_at noted (length earlier) room from octets asks
        (subst (λ (cs : List PortCall). At cs (length earlier) (Received room from octets)) (sym parts)
        (at_end earlier (Received room from octets) rest))

    behind : (j : ℕ) × SentAt rest j packet
    behind = sent_later earlier rest (Received room from octets) place packet later
        (subst (λ (cs : List PortCall). SentAt cs place packet) parts sent)

    reply : RepliesTo (once.replies place packet sent (subst (IsClient c) (sym to) client)).1.0 packet.octets
    reply = (once.replies place packet sent (subst (IsClient c) (sym to) client)).1.2

    none : AllCame f.first []
    none d (inl h) = subst (λ (ys : List Datagram). Has ys d) f.begins.idle.messages h
    none d (inr h) = subst (λ (ys : List Datagram). Has ys d) f.begins.idle.frames h

-- What turns ask for.

asks_both : (xs ys : List PortCall) → AsksRoom xs → AsksRoom ys → AsksRoom (xs ++ ys)
asks_both [] ys h k = k
asks_both (Received asked from octets ∷ xs) ys h k = (h.0, asks_both xs ys h.1 k)
asks_both (NoDatagram asked ∷ xs) ys h k = asks_both xs ys h k
asks_both (Fault asked ∷ xs) ys h k = asks_both xs ys h k
asks_both (PacketSent s ∷ xs) ys h k = asks_both xs ys h k
asks_both (PacketLost s ∷ xs) ys h k = asks_both xs ys h k

asks_first : (call : PortCall) (calls : List PortCall) → HasRoomFor ROOM call → AsksRoom calls
    → AsksRoom (call ∷ calls)
asks_first (Received asked from octets) calls h k = (h, k)
asks_first (NoDatagram asked) calls h k = k
asks_first (Fault asked) calls h k = k
asks_first (PacketSent s) calls h k = absurd h
asks_first (PacketLost s) calls h k = absurd h

sends_ask : (ps : List PacketData) (calls : List PortCall) → AreSent ps calls → AsksRoom calls
sends_ask [] [] h = tt
sends_ask [] (call ∷ calls) h = absurd h
sends_ask (p ∷ ps) [] h = absurd h
sends_ask (p ∷ ps) (call ∷ calls) h = elim h.0 [
  | inl e ↦ subst (λ (x : PortCall). AsksRoom (x ∷ calls)) (sym e) (sends_ask ps calls h.1)
  | inr e ↦ subst (λ (x : PortCall). AsksRoom (x ∷ calls)) (sym e) (sends_ask ps calls h.1)
]

actions_ask : (peers : List Addr) (actions : List Action) → AllSent peers actions
    → AsksRoom (calls_of actions)
actions_ask peers [] h = tt
actions_ask peers (a ∷ actions) h =
    asks_both a.calls (calls_of actions) (sends_ask (packets_of peers a.answer) a.calls h.0)
    (actions_ask peers actions h.1)

turn_asks : (t word every : ℕ) (a b : ServerState) → Turn t word every a b → AsksRoom a.calls
    → AsksRoom b.calls
turn_asks t word every a b turn asks =
    let xs = turn.given ++ (turn.ticks ++ turn.sweep) in
    subst AsksRoom (sym turn.calls)
    (asks_both a.calls (turn.arrival ∷ calls_of xs) asks
    (asks_first turn.arrival (calls_of xs) turn.asks (actions_ask a.site.config.peers xs turn.acted.sent)))

pub asks_room : (moments : Option (ℕ → ℕ)) (words : Stream) (every n : ℕ) (site : SiteData) (b : ServerState)
    → Turns moments words every n (start_of site) b → AsksRoom b.calls
asks_room moments words every zero site b h = subst (λ (x : ServerState). AsksRoom x.calls) (sym h) tt
asks_room moments words every (suc n) site b h =
    turn_asks h.1 (word_of words n) every h.0 b h.4 (asks_room moments words every n site h.0 h.2)

-- turns make further calls
pub calls_lead : (b z : ServerState) → TurnsLead b z → (more : List PortCall) × (z.calls ≡ b.calls ++ more)
calls_lead b z no_turn = ([], sym (append-nil b.calls))
calls_lead b z (one_turn {b = mid} t word every lead turn) =
    let r = calls_lead b mid lead in
    let new = turn.arrival ∷ calls_of (turn.given ++ (turn.ticks ++ turn.sweep)) in
    (r.0 ++ new, turn.calls ∙ ap (λ (x : List PortCall). x ++ new) r.1 ∙ append_assoc b.calls r.0 new)
