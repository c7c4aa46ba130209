-- Each datagram that a server receives is given to its site, in one of its turns.
-- Serves the laws `own_replies`, `questions_answered`.
use Rattle.std.proofs.Common.{◌≡◌, ◌⊎◌, inl, inr, ℕ, zero, suc, ◌+◌, ◌<◌, List, [], ◌∷◌, ◌++◌, Some, None, length, refl, subst, arith}
use Rattle.std.proofs.lemmas.Option.{same_Some}
use Rattle.fleet_name.specs.Places.{At}
use Rattle.fleet_pending.specs.declared.addr.Addr.{Addr}
use Rattle.fleet_site.specs.PacketData.{PacketData}
use Rattle.fleet_site.specs.server.PortRecord.{PortCall, Received}
use Rattle.fleet_site.specs.server.Sending.{IsSend, AreSent, packets_of}
use Rattle.fleet_site.specs.server.Turn.{Action, calls_of, AllSent, ServerState, Turn}
use Rattle.fleet_site.specs.server.Clients.{no_turn, one_turn, IsGivenIn, ArrivalsAreGiven}
use Rattle.fleet_site.proofs.Ledger.{no_send}

-- a place of two lists is one of the first, or one of the second after it
pub at_parts : {X : Type 0} (xs ys : List X) (i : ℕ) (x : X) → At (xs ++ ys) i x
    → At xs i x ⊎ ((j : ℕ) × (i ≡ length xs + j) × At ys j x)
at_parts [] ys i x h = inr (i, (omega arith), h)
at_parts (y ∷ xs) ys zero x h = inl h
at_parts (y ∷ xs) ys (suc i) x h = elim (at_parts xs ys i x h) [
  | inl l ↦ inl l
  | inr r ↦ let e : i ≡ length xs + r.0 = r.1 in inr (r.0, (omega (arith, e)), r.2)
]

pub before_end : {X : Type 0} (xs : List X) (i : ℕ) (x : X) → At xs i x → i < length xs
before_end [] i x h = absurd (let e : None ≡ Some x = h in cc)
before_end (y ∷ xs) zero x h = omega arith
before_end (y ∷ xs) (suc i) x h = omega (arith, before_end xs i x h)

-- where packets were sent, each call is a send

sends_at : (ps : List PacketData) (calls : List PortCall) (i : ℕ) (call : PortCall) → AreSent ps calls
    → At calls i call → (p : PacketData) × IsSend p call
sends_at [] [] i call h t = absurd (let e : None ≡ Some call = t in cc)
sends_at [] (x ∷ calls) i call h t = absurd h
sends_at (p ∷ ps) [] i call h t = absurd h
sends_at (p ∷ ps) (x ∷ calls) zero call h t =
    (p, subst (λ (y : PortCall). IsSend p y) (same_Some x call t) h.0)
sends_at (p ∷ ps) (x ∷ calls) (suc i) call h t = sends_at ps calls i call h.1 t

pub all_send : (peers : List Addr) (xs : List Action) (i : ℕ) (call : PortCall) → AllSent peers xs
    → At (calls_of xs) i call → (p : PacketData) × IsSend p call
all_send peers [] i call h t = absurd (let e : None ≡ Some call = t in cc)
all_send peers (a ∷ xs) i call h t = elim (at_parts a.calls (calls_of xs) i call t) [
  | inl l ↦ sends_at (packets_of peers a.answer) a.calls i call h.0 l
  | inr r ↦ all_send peers xs r.0 call h.1 r.2
]

given_later : (first b last : ServerState) (k : ℕ) (from : Addr) (octets : List ℕ)
    (t word every : ℕ) → Turn t word every b last → IsGivenIn first b k from octets
    → IsGivenIn first last k from octets
given_later first b last k from octets t word every turn g = record {
  a = g.a;
  b = g.b;
  now = g.now;
  word = g.word;
  every = g.every;
  before = g.before;
  turn = g.turn;
  behind = one_turn t word every g.behind turn;
  room = g.room;
  received = g.received;
  place = g.place;
}

pub arrivals_are_given : ArrivalsAreGiven
arrivals_are_given first last k from octets no_turn later h =
    absurd (omega (arith, later, before_end last.calls k (Received h.0 from octets) h.1))
arrivals_are_given first last k from octets (one_turn {b = b} now word every before turn) later h =
    elim (at_parts b.calls (turn.arrival ∷ calls_of (turn.given ++ (turn.ticks ++ turn.sweep))) k
    (Received h.0 from octets) there) [
      | inl l ↦ given_later first b last k from octets now word every turn
          (arrivals_are_given first b k from octets before later (h.0, l))
      | inr r ↦ behind r.0 r.1 r.2
    ]
  where
    there : At (b.calls ++ turn.arrival ∷ calls_of (turn.given ++ (turn.ticks ++ turn.sweep))) k
        (Received h.0 from octets)
    there = subst (λ (cs : List PortCall). At cs k (Received h.0 from octets)) turn.calls h.1

    behind : (j : ℕ) → k ≡ length b.calls + j
        → At (turn.arrival ∷ calls_of (turn.given ++ (turn.ticks ++ turn.sweep))) j
        (Received h.0 from octets) → IsGivenIn first last k from octets
    behind zero e t = record {
      a = b;
      b = last;
      now = now;
      word = word;
      every = every;
      before = before;
      turn = turn;
      behind = no_turn;
      room = h.0;
      received = same_Some turn.arrival (Received h.0 from octets) t;
      place = omega (arith, e);
    }
    behind (suc j) e t =
        let s = all_send b.site.config.peers (turn.given ++ (turn.ticks ++ turn.sweep)) j
        (Received h.0 from octets) turn.acted.sent t in
        absurd (no_send (Received h.0 from octets) h.0 from octets s.0 refl s.1)
