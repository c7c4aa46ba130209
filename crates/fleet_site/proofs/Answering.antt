-- Who asks a site is replied to.
-- Serves the laws `none_forgotten`, `own_replies`, `questions_answered`.
use Rattle.std.proofs.Common.{◌≡◌, ◌≢◌, ◌⊎◌, inl, inr, ℕ, zero, suc, ◌+◌, ◌<◌, ◌≤◌, max, List, [], ◌∷◌, ◌++◌, Bool, true, false, Some, None, Result, Ok, Err, IsOk, length, slice_set, refl, sym, ap, ◌∙◌, subst, arith}
use Rattle.std.specs.List.{AllByRecursion}
use Rattle.std.proofs.lemmas.Bool.{cases_lt, cases_eq}
use mathlib.Core.Bool.{false≢true}
use Rattle.fleet_name.specs.Places.{At}
use Rattle.fleet_name.proofs.Lemmas.{has_left, at_same, at_set}
use Rattle.fleet_wire.specs.Message.{header_of}
use Rattle.fleet_wire.specs.Question.{QuestionData}
use Rattle.fleet_wire.specs.declared.header.Header.{Header}
use Rattle.fleet_pending.specs.Waiter.{WaiterData}
use Rattle.fleet_pending.specs.PendingData.{EntryData, PendingData, AsksFor}
use Rattle.fleet_pending.specs.Waiting.{IsWaiting}
use Rattle.fleet_pending.specs.Due.{NoneDue}
use Rattle.fleet_pending.specs.Asking.{Joins, waits_already, waits_too, no_place, no_memory_for_place, Opens, is_sent, no_room, no_memory_for_room, Asks, joins, opens, new_entry, with_next_upstream, Advances}
use Rattle.fleet_pending.proofs.Lemmas.{at_left, at_push, at_remove}
use Rattle.fleet_pending.specs.declared.answer.Asked.{Asked as Opened}
use Rattle.fleet_pending.specs.declared.answer.Asked.TheVariants.{Again, Joined, Send}
use Rattle.fleet_pending.specs.declared.answer.PendingFault.{PendingFault}
use Rattle.fleet_pending.specs.declared.bounds.TheConstants.{TRY_SECONDS}
use Rattle.fleet_pending.specs.declared.addr.Addr.{Addr}
use Rattle.fleet_site.specs.OutcomeData.{OutcomeData, packet_to}
use Rattle.fleet_site.specs.SiteModel.{SiteModel, Effect}
use Rattle.fleet_site.specs.Step.{tick, Step}
use Rattle.fleet_site.specs.question.Decision.{DecisionData, Dropped, Reply, Unread, Miss, IsAsking}
use Rattle.fleet_site.specs.question.Question.{waiter, Forwarded, is_asked, is_quiet, is_turned_away, Forwards, Reacts}
use Rattle.fleet_site.specs.server.Turn.{TurnStep, TurnStepSays, Action, ActionsLead, Ticks, no_tick, next_tick}
use Rattle.fleet_site.specs.server.Sending.{goes_on}
use Rattle.fleet_site.specs.server.Replies.{RepliesTo, HasNoneOpen}
use Rattle.fleet_site.specs.server.Answered.{WaitsFor, RepliesOrWaits, gets_reply, is_waiting, AllReplyOrWait, GetsRelay, GetsFailure, StaysUntilReplied, IsDoneWhole, ServesAllDue, SoonWhenServed, Try, Tries, IsRepliedIn, RepliedInTime, TurnsServeAllDue}
use Rattle.fleet_site.specs.declared.outcome.SiteFault.{SiteFault}
use Rattle.fleet_site.proofs.Echoes.{IsMissed, Suits, bare_replies, not_true, not_false, decides_suits}
use Rattle.fleet_site.proofs.Changes as changes
use Rattle.fleet_site.proofs.Changes.{Change, Changes}
use Rattle.fleet_site.proofs.Replying.{step_keeps}

-- lists and indices

pub at_end : {X : Type 0} (xs : List X) (x : X) (ys : List X) → At (xs ++ x ∷ ys) (length xs) x
at_end [] x ys = refl
at_end (y ∷ xs) x ys = at_end xs x ys

pub at_front : {X : Type 0} (xs ys : List X) (i : ℕ) (x : X) → At xs i x → At (xs ++ ys) i x
at_front [] ys i x h = absurd (let e : None ≡ Some x = h in cc)
at_front (y ∷ xs) ys zero x h = h
at_front (y ∷ xs) ys (suc i) x h = at_front xs ys i x h

pub at_written : {X : Type 0} (xs : List X) (i : ℕ) (x y : X) → At xs i x → At (slice_set xs i y) i y
at_written [] i x y h = absurd (let e : None ≡ Some x = h in cc)
at_written (z ∷ xs) zero x y h = refl
at_written (z ∷ xs) (suc i) x y h = at_written xs i x y h

at_unwritten : {X : Type 0} (xs : List X) (i j : ℕ) (x y : X) → At xs j x → j ≢ i
    → At (slice_set xs i y) j x
at_unwritten [] i j x y h n = absurd (let e : None ≡ Some x = h in cc)
at_unwritten (z ∷ xs) zero zero x y h n = absurd (n refl)
at_unwritten (z ∷ xs) zero (suc j) x y h n = h
at_unwritten (z ∷ xs) (suc i) zero x y h n = h
at_unwritten (z ∷ xs) (suc i) (suc j) x y h n = at_unwritten xs i j x y h (λ e. n (ap (λ m. suc m) e))

-- taken in

-- the asker waits afterwards; and if it did not before, for this very question
pub record Waiting (o n : PendingData) (w : WaiterData) : Type 0 where
  pub waits : WaitsFor n w
  pub own : ¬ WaitsFor o w → IsWaiting n w

waits_itself : (o n : PendingData) (w : WaiterData) (h : IsWaiting n w) → AsksFor w.question h.entry
    → Waiting o n w
waits_itself o n w h asks = record {
  waits = record { waiting = w; among = h; asker = (refl, refl); asks = asks };
  own = λ new. h;
}

joined_waits : (o n : PendingData) (w : WaiterData) (i : ℕ) (e f : EntryData)
    (r : Result Opened PendingFault) (a : Opened) → r ≡ Ok a → At o.entries i e
    → AsksFor w.question e → Joins e w r f → n ≡ record o { entries = slice_set o.entries i f }
    → Waiting o n w
joined_waits o n w i e f r a ok there asks (waits_already found is same) q =
    let before : WaitsFor o w =
    record {
      waiting = found.1.0;
      among = record {
        place = i;
        entry = e;
        there = there;
        turn = found.0;
        waits = found.1.1;
      };
      asker = found.1.2;
      asks = asks;
    } in
    subst (λ (x : PendingData). Waiting o x w) (sym q)
    (record {
      waits = record {
        waiting = found.1.0;
        among = record {
          place = i;
          entry = f;
          there = at_written o.entries i e f there;
          turn = found.0;
          waits = subst (λ (x : EntryData). At x.waiters found.0 found.1.0) (sym same) found.1.1;
        };
        asker = found.1.2;
        asks = subst (λ (x : EntryData). AsksFor w.question x) (sym same) asks;
      };
      own = λ new. absurd (new before);
    })
joined_waits o n w i e f r a ok there asks (waits_too new few is more) q =
    subst (λ (x : PendingData). Waiting o x w) (sym q)
    (waits_itself o (record o { entries = slice_set o.entries i f }) w
    (record {
      place = i;
      entry = f;
      there = at_written o.entries i e f there;
      turn = length e.waiters;
      waits = subst (λ (x : EntryData). At x.waiters (length e.waiters) w) (sym more)
          (at_end e.waiters w []);
    }) (subst (λ (x : EntryData). AsksFor w.question x) (sym more) asks))
joined_waits o n w i e f r a ok there asks (no_place new many is same) q = cc
joined_waits o n w i e f r a ok there asks (no_memory_for_place new few is same) q = cc

opened_waits : (o n : PendingData) (w : WaiterData) (t word : ℕ) (fs : List EntryData)
    (r : Result Opened PendingFault) (a : Opened) → r ≡ Ok a → Opens o.entries w t word r fs
    → n ≡ record o { entries = fs } → Waiting o n w
opened_waits o n w t word fs r a ok (is_sent id few free is more) q =
    subst (λ (x : PendingData). Waiting o x w) (sym q)
    (subst (λ (es : List EntryData). Waiting o (record o { entries = es }) w) (sym more)
    (waits_itself o (record o { entries = o.entries ++ new_entry w t id ∷ [] }) w
    (record {
      place = length o.entries;
      entry = new_entry w t id;
      there = at_end o.entries (new_entry w t id) [];
      turn = 0;
      waits = refl;
    }) (refl, refl)))
opened_waits o n w t word fs r a ok (no_room many is same) q = cc
opened_waits o n w t word fs r a ok (no_memory_for_room few is same) q = cc

asker_waits : (o n : PendingData) (w : WaiterData) (t word : ℕ) (r : Result Opened PendingFault)
    (a : Opened) → r ≡ Ok a → Asks o w t word r n → Waiting o n w
asker_waits o n w t word r a ok (joins i e f there asks j q) =
    joined_waits o n w i e f r a ok there asks j q
asker_waits o n w t word r a ok (opens fs none j q) =
    opened_waits o n w t word fs r a ok j q

-- a reply at once
now_replied : (m : SiteModel) (from : Addr) (octets reply : List ℕ) (e : OutcomeData) (n : SiteModel)
    (d x : Effect)
    → e ≡ d.says → d ≡ x → x.says.packets ≡ packet_to from reply → RepliesTo octets reply
    → RepliesOrWaits m from octets e n
now_replied m from octets reply e n d x says is packets fits =
    gets_reply reply (ap (λ (o : OutcomeData). o.packets) says
    ∙ (ap (λ (y : Effect). y.says.packets) is ∙ packets)) fits

forwarded : (m n : SiteModel) (t word : ℕ) (from : Addr) (octets : List ℕ) (h : Header)
    (q : QuestionData) (e : OutcomeData) (d : Effect) → e ≡ d.says → n.pending ≡ d.asking
    → IsMissed octets h q → ¬ (h.rd ≡ false) → Forwards m.upstreams m.pending t from word h q d
    → RepliesOrWaits m from octets e n
forwarded m n t word from octets h q e d says asking missed wants f = go f.says
  where
    taken : (a : Opened) → f.answer ≡ Ok a → RepliesOrWaits m from octets e n
    taken a ok =
        let w = asker_waits m.pending d.asking (waiter from h q) t word f.answer a ok f.asks in
        let after = subst (λ (x : Header). Waiting m.pending n.pending (waiter from x q)) missed.header
        (subst (λ (o : PendingData). Waiting m.pending o (waiter from h q)) (sym asking) w) in
        is_waiting q missed.past missed.query
        (record {
          standard = record {
            question = not_true (header_of octets).response missed.asks.question;
            plain = missed.standard;
          };
          rd = sym (ap (λ (x : Header). x.rd) missed.header) ∙ not_false h.rd wants;
          class = missed.class;
        })
        after.waits after.own

    go : Forwarded m.upstreams from h q f.answer d.says → RepliesOrWaits m from octets e n
    go (is_asked u id there at k is) = taken (Send u id) k
    go (is_quiet (inl k) is) = taken Joined k
    go (is_quiet (inr k) is) = taken Again k
    go (is_turned_away fault other k is) =
        gets_reply _ (ap (λ (o : OutcomeData). o.packets) says
        ∙ ap (λ (o : OutcomeData). o.packets) is)
        (bare_replies octets h q _ missed)

reacted : (m n : SiteModel) (t word : ℕ) (from : Addr) (octets : List ℕ) (v : DecisionData)
    (e : OutcomeData) (d : Effect) → e ≡ d.says → n.pending ≡ d.asking → IsAsking octets
    → Suits octets v → Reacts m.upstreams m.pending t from word v d → RepliesOrWaits m from octets e n
reacted m n t word from octets Dropped e d says asking asks suits h = absurd (suits asks)
reacted m n t word from octets (Reply reply) e d says asking asks suits h =
    now_replied m from octets reply e n d _ says h refl suits
reacted m n t word from octets (Unread reply f) e d says asking asks suits h =
    now_replied m from octets reply e n d _ says h refl suits
reacted m n t word from octets (Miss h q) e d says asking asks suits (inl k) =
    now_replied m from octets _ e n d _ says k.1 refl (bare_replies octets h q _ suits)
reacted m n t word from octets (Miss h q) e d says asking asks suits (inr k) =
    forwarded m n t word from octets h q e d says asking suits k.0 k.1

pub all_reply_or_wait : AllReplyOrWait
all_reply_or_wait m n now from octets word e client asks h =
    let d = h.0 in
    let p : n.pending ≡ d.asking = ap (λ (y : SiteModel). y.pending) h.3 in
    elim h.1 [
      | inl k ↦ absurd (client.no_upstream k.0)
      | inr k ↦ elim k.1 [
        | inl l ↦ absurd (client.no_peer l.0)
        | inr l ↦
            reacted m n (max m.clock now) word from octets l.1.0 e d h.2 p asks
            (decides_suits m.taken (max m.clock now) octets l.1.0 l.1.1) l.1.2
      ]
    ]

-- who waits

-- it goes on waiting: at the same upstream until the same moment, or at the next one
record GoesOn (o n : PendingData) (w : WaiterData) (h : IsWaiting o w) : Type 0 where
  waits : IsWaiting n w
  moved : ((waits.entry.upstream ≡ h.entry.upstream) × (waits.entry.deadline ≡ h.entry.deadline))
      ⊎ (waits.entry.upstream ≡ h.entry.upstream + 1)

goes_at : (o n : PendingData) (w : WaiterData) (h : IsWaiting o w) (i : ℕ) (e : EntryData)
    → At n.entries i e → At e.waiters h.turn w
    → ((e.upstream ≡ h.entry.upstream) × (e.deadline ≡ h.entry.deadline))
    ⊎ (e.upstream ≡ h.entry.upstream + 1) → GoesOn o n w h
goes_at o n w h i e there turn moved = record {
  waits = record { place = i; entry = e; there = there; turn = h.turn; waits = turn };
  moved = moved;
}

goes_same : (o n : PendingData) (w : WaiterData) (h : IsWaiting o w) → n ≡ o → GoesOn o n w h
goes_same o n w h e =
    goes_at o n w h h.place h.entry
    (subst (λ (x : PendingData). At x.entries h.place h.entry) (sym e) h.there) h.waits
    (inl (refl, refl))

-- where an entry was written, which keeps its waiters
goes_written : (o : PendingData) (w : WaiterData) (h : IsWaiting o w) (i : ℕ) (e f : EntryData)
    → At o.entries i e → (At e.waiters h.turn w → At f.waiters h.turn w)
    → ((f.upstream ≡ e.upstream) × (f.deadline ≡ e.deadline)) ⊎ (f.upstream ≡ e.upstream + 1)
    → GoesOn o (record o { entries = slice_set o.entries i f }) w h
goes_written o w h i e f there keeps moved = go (cases_eq h.place i)
  where
    here : h.place ≡ i → GoesOn o (record o { entries = slice_set o.entries i f }) w h
    here p =
        let same : h.entry ≡ e =
        at_same o.entries i h.entry e
        (subst (λ (k : ℕ). At o.entries k h.entry) p h.there) there in
        goes_at o (record o { entries = slice_set o.entries i f }) w h i f
        (at_written o.entries i e f there)
        (keeps (subst (λ (x : EntryData). At x.waiters h.turn w) same h.waits))
        (subst (λ (x : EntryData). ((f.upstream ≡ x.upstream) × (f.deadline ≡ x.deadline))
        ⊎ (f.upstream ≡ x.upstream + 1)) (sym same) moved)

    go : (h.place ≡ i) ⊎ (h.place ≡ i → ⊥)
        → GoesOn o (record o { entries = slice_set o.entries i f }) w h
    go (inl p) = here p
    go (inr p) =
        goes_at o (record o { entries = slice_set o.entries i f }) w h h.place h.entry
        (at_unwritten o.entries i h.place h.entry f h.there p) h.waits (inl (refl, refl))

goes_joined : (o : PendingData) (w : WaiterData) (h : IsWaiting o w) (i : ℕ) (e f : EntryData)
    (v : WaiterData) (r : Result Opened PendingFault) → At o.entries i e → Joins e v r f
    → GoesOn o (record o { entries = slice_set o.entries i f }) w h
goes_joined o w h i e f v r there j = go j
  where
    same : f ≡ e → GoesOn o (record o { entries = slice_set o.entries i f }) w h
    same s =
        goes_written o w h i e f there
        (λ k. subst (λ (x : EntryData). At x.waiters h.turn w) (sym s) k)
        (inl (ap (λ (x : EntryData). x.upstream) s, ap (λ (x : EntryData). x.deadline) s))

    go : Joins e v r f → GoesOn o (record o { entries = slice_set o.entries i f }) w h
    go (waits_already found is s) = same s
    go (waits_too new few is more) =
        goes_written o w h i e f there
        (λ k. subst (λ (x : EntryData). At x.waiters h.turn w) (sym more)
        (at_front e.waiters (v ∷ []) h.turn w k))
        (inl (ap (λ (x : EntryData). x.upstream) more, ap (λ (x : EntryData). x.deadline) more))
    go (no_place new many is s) = same s
    go (no_memory_for_place new few is s) = same s

goes_opened : (o : PendingData) (w : WaiterData) (h : IsWaiting o w) (fs : List EntryData)
    (v : WaiterData) (t word : ℕ) (r : Result Opened PendingFault)
    → Opens o.entries v t word r fs → GoesOn o (record o { entries = fs }) w h
goes_opened o w h fs v t word r (is_sent id few free is more) =
    goes_at o (record o { entries = fs }) w h h.place h.entry
    (subst (λ (es : List EntryData). At es h.place h.entry) (sym more)
    (at_front o.entries (new_entry v t id ∷ []) h.place h.entry h.there)) h.waits
    (inl (refl, refl))
goes_opened o w h fs v t word r (no_room many is same) =
    goes_same o (record o { entries = fs }) w h (ap (λ es. record o { entries = es }) same)
goes_opened o w h fs v t word r (no_memory_for_room few is same) =
    goes_same o (record o { entries = fs }) w h (ap (λ es. record o { entries = es }) same)

goes_asked : (o n : PendingData) (w : WaiterData) (h : IsWaiting o w) (v : WaiterData)
    (t word : ℕ) (r : Result Opened PendingFault) → Asks o v t word r n → GoesOn o n w h
goes_asked o n w h v t word r (joins i e f there asks j q) =
    subst (λ (x : PendingData). GoesOn o x w h) (sym q) (goes_joined o w h i e f v r there j)
goes_asked o n w h v t word r (opens fs none j q) =
    subst (λ (x : PendingData). GoesOn o x w h) (sym q) (goes_opened o w h fs v t word r j)

goes_moved : (o n : PendingData) (w : WaiterData) (h : IsWaiting o w) (id t : ℕ)
    → Advances o id t true n → GoesOn o n w h
goes_moved o n w h id t a =
    subst (λ (x : PendingData). GoesOn o x w h) (sym a.1.4)
    (goes_written o w h a.0 a.1.0 (with_next_upstream a.1.0 t) a.1.1 (λ k. k) (inr refl))

-- what becomes of a waiter at a step
abbrev Fate : (m n : SiteModel) (x : TurnStep) (a : Result OutcomeData SiteFault) (w : WaiterData)
    (h : IsWaiting m.pending w) → Type 0
Fate m n x a w h = GoesOn m.pending n.pending w h
    ⊎ ((o : OutcomeData) × (a ≡ Ok o) × (GetsRelay m h.entry w x o ⊎ GetsFailure m h.entry w x o))

fate : (m n : SiteModel) (x : TurnStep) (a : Result OutcomeData SiteFault) (w : WaiterData)
    (h : IsWaiting m.pending w) → TurnStepSays m x a n → Fate m n x a w h
fate m n x a w h s = go (changes.changes m n x a s).table
  where
    go : Change m n.pending n.clock x a → Fate m n x a w h
    go (changes.unchanged e) = inl (goes_same m.pending n.pending w h e)
    go (changes.is_asked v word r spelled k) =
        inl (goes_asked m.pending n.pending w h v n.clock word r k)
    go (changes.moves_on id k) = inl (goes_moved m.pending n.pending w h id n.clock k)
    go (changes.is_settled id e o is k gets) = elim (cases_eq h.place k.0) [
      | inl p ↦
          let same : h.entry ≡ e =
          at_same m.pending.entries k.0 h.entry e
          (subst (λ (j : ℕ). At m.pending.entries j h.entry) p h.there) k.1 in
          inr (
            o,
            is,
            subst (λ (y : EntryData). GetsRelay m y w x o ⊎ GetsFailure m y w x o) (sym same)
                (gets w h.turn (subst (λ (y : EntryData). At y.waiters h.turn w) same h.waits)),
          )
      | inr p ↦
          let left = at_left m.pending.entries k.0 h.place h.entry h.there p in
          inl (goes_at m.pending n.pending w h left.0 h.entry
          (subst (λ (y : PendingData). At y.entries left.0 h.entry) (sym k.3) left.1) h.waits
          (inl (refl, refl)))
    ]

pub stays_until_replied : StaysUntilReplied
stays_until_replied m n x a w h s =
    elim (fate m n x a w h s) [ inl g ↦ inl g.waits | inr r ↦ inr r ]

-- deadlines

-- each deadline is at most TRY_SECONDS after this moment, and each upstream is one of these many
abbrev pub EntriesIn : ℕ → ℕ → PendingData → Type 0
EntriesIn u t o = (i : ℕ) (e : EntryData) → At o.entries i e
    → (e.deadline ≤ t + TRY_SECONDS) × (e.upstream < u)

entries_set : (u t : ℕ) (o : PendingData) (i : ℕ) (f : EntryData) → EntriesIn u t o
    → (f.deadline ≤ t + TRY_SECONDS) × (f.upstream < u)
    → EntriesIn u t (record o { entries = slice_set o.entries i f })
entries_set u t o i f all fits j x h = elim (at_set o.entries i j f x h) [
  | inl p ↦ subst (λ (e : EntryData). (e.deadline ≤ t + TRY_SECONDS) × (e.upstream < u)) (sym p.1) fits
  | inr p ↦ all j x p.1
]

entries_joined : (u t : ℕ) (o : PendingData) (i : ℕ) (e f : EntryData) (w : WaiterData)
    (r : Result Opened PendingFault) → EntriesIn u t o → At o.entries i e → Joins e w r f
    → EntriesIn u t (record o { entries = slice_set o.entries i f })
entries_joined u t o i e f w r all there j = entries_set u t o i f all (go j)
  where
    go : Joins e w r f → (f.deadline ≤ t + TRY_SECONDS) × (f.upstream < u)
    go (waits_already found is s) =
        subst (λ (x : EntryData). (x.deadline ≤ t + TRY_SECONDS) × (x.upstream < u)) (sym s) (all i e there)
    go (waits_too new few is s) =
        subst (λ (x : EntryData). (x.deadline ≤ t + TRY_SECONDS) × (x.upstream < u)) (sym s) (all i e there)
    go (no_place new many is s) =
        subst (λ (x : EntryData). (x.deadline ≤ t + TRY_SECONDS) × (x.upstream < u)) (sym s) (all i e there)
    go (no_memory_for_place new few is s) =
        subst (λ (x : EntryData). (x.deadline ≤ t + TRY_SECONDS) × (x.upstream < u)) (sym s) (all i e there)

entries_opened : (u t : ℕ) (o : PendingData) (w : WaiterData) (word : ℕ)
    (r : Result Opened PendingFault) (fs : List EntryData) → 0 < u → EntriesIn u t o
    → Opens o.entries w t word r fs → EntriesIn u t (record o { entries = fs })
entries_opened u t o w word r fs some all (is_sent id few free is more) j x h =
    elim (at_push o.entries j (new_entry w t id) x
    (subst (λ (es : List EntryData). At es j x) more h)) [
      | inl k ↦ all j x k
      | inr e ↦
          let d : x.deadline ≡ t + TRY_SECONDS = ap (λ (y : EntryData). y.deadline) e.1 in
          let v : x.upstream ≡ 0 = ap (λ (y : EntryData). y.upstream) e.1 in
          (omega (arith, d), omega (arith, v, some))
    ]
entries_opened u t o w word r fs some all (no_room many is same) j x h =
    all j x (subst (λ (es : List EntryData). At es j x) same h)
entries_opened u t o w word r fs some all (no_memory_for_room few is same) j x h =
    all j x (subst (λ (es : List EntryData). At es j x) same h)

-- what a run keeps: that, and of how many upstreams it is
pub record Keeps (u : ℕ) (m : SiteModel) : Type 0 where
  pub entries : EntriesIn u m.clock m.pending
  pub some : 0 < u
  pub counted : m.pending.upstreams ≡ u

pub keeps_step : (u : ℕ) (m n : SiteModel) (x : TurnStep) (a : Result OutcomeData SiteFault)
    → Keeps u m → TurnStepSays m x a n → Keeps u n
keeps_step u m n x a k s = go (changes.changes m n x a s).table
  where
    later : EntriesIn u n.clock m.pending
    later i e h =
        let r = k.entries i e h in
        (omega (arith, r.0, (changes.changes m n x a s).clock), r.1)

    with : (o : PendingData) → n.pending ≡ o → EntriesIn u n.clock o
        → o.upstreams ≡ m.pending.upstreams → Keeps u n
    with o e all same = record {
      entries = subst (λ (y : PendingData). EntriesIn u n.clock y) (sym e) all;
      some = k.some;
      counted = ap (λ (y : PendingData). y.upstreams) e ∙ same ∙ k.counted;
    }

    asked : (w : WaiterData) (word : ℕ) (r : Result Opened PendingFault)
        → Asks m.pending w n.clock word r n.pending → Keeps u n
    asked w word r (joins i e f there asks j q) =
        with _ q (entries_joined u n.clock m.pending i e f w r later there j) refl
    asked w word r (opens fs none j q) =
        with _ q (entries_opened u n.clock m.pending w word r fs k.some later j) refl

    go : Change m n.pending n.clock x a → Keeps u n
    go (changes.unchanged e) = with _ e later refl
    go (changes.is_asked w word r spelled h) = asked w word r h
    go (changes.moves_on id h) =
        let c : m.pending.upstreams ≡ u = k.counted in
        with _ h.1.4
        (entries_set u n.clock m.pending h.0 (with_next_upstream h.1.0 n.clock) later
        (omega arith, omega (arith, c, h.1.3))) refl
    go (changes.is_settled id e o is h gets) =
        with _ h.3
        (λ j y t. let r = at_remove m.pending.entries h.0 j y t in later r.0 y r.1) refl

pub keeps_run : (u : ℕ) (m n : SiteModel) (actions : List Action) → Keeps u m
    → ActionsLead m actions n → Keeps u n
keeps_run u m n [] k h = subst (Keeps u) (sym h) k
keeps_run u m n (a ∷ actions) k h =
    keeps_run u h.0 n actions (keeps_step u m h.0 a.step a.answer k h.1) h.2

pub clock_run : (m n : SiteModel) (actions : List Action) → ActionsLead m actions n
    → m.clock ≤ n.clock
clock_run m n [] h = let e : n.clock ≡ m.clock = ap (λ (y : SiteModel). y.clock) h in omega (arith, e)
clock_run m n (a ∷ actions) h =
    omega (arith, (changes.changes m h.0 a.step a.answer h.1).clock, clock_run h.0 n actions h.2)

upstreams_run : (m n : SiteModel) (actions : List Action) → ActionsLead m actions n
    → n.upstreams ≡ m.upstreams
upstreams_run m n [] h = ap (λ (y : SiteModel). y.upstreams) h
upstreams_run m n (a ∷ actions) h =
    upstreams_run h.0 n actions h.2 ∙ step_keeps m h.0 a.step a.answer h.1

pub keeps_first : (m : SiteModel) → HasNoneOpen m → Keeps (length m.upstreams) m
keeps_first m h = record {
  entries = λ i e t.
      let q = subst (λ (es : List EntryData). At es i e) h.none t in
      absurd (let x : None ≡ Some e = q in cc);
  some = h.lawful.config.few.0.0;
  counted = h.lawful.questions.counted;
}

-- ticks until none is due

pub lead_split : (m n : SiteModel) (xs ys : List Action) → ActionsLead m (xs ++ ys) n
    → (k : SiteModel) × ActionsLead m xs k × ActionsLead k ys n
lead_split m n [] ys h = (m, refl, h)
lead_split m n (x ∷ xs) ys h =
    let r = lead_split h.0 n xs ys h.2 in (r.0, (h.0, h.1, r.1), r.2)

all_last : (xs : List Action) (a : Action) → AllByRecursion IsDoneWhole (xs ++ a ∷ [])
    → IsDoneWhole a
all_last [] a h = h.0
all_last (x ∷ xs) a h = all_last xs a h.1

-- a tick after which none is due
tick_last : (k n : SiteModel) (t : ℕ) (a : Result OutcomeData SiteFault) → IsOk a
    → goes_on a ≡ false → Step k (tick t) a n
    → NoneDue n.pending.entries n.clock × (t ≤ n.clock)
tick_last k n t (Err f) w more h = absurd (false≢true w)
tick_last k n t (Ok o) w more h =
    let d = h.0 in
    let c : n.clock ≡ max k.clock t = ap (λ (y : SiteModel). y.clock) h.3 in
    let p : n.pending ≡ d.asking = ap (λ (y : SiteModel). y.pending) h.3 in
    let none : NoneDue d.asking.entries (max k.clock t) = elim h.1 [
      | inl q ↦
          subst (λ (y : PendingData). NoneDue y.entries (max k.clock t))
          (sym (ap (λ (y : Effect). y.asking) q.1)) q.0
      | inr q ↦ λ i e there due.
          false≢true (sym more ∙ ap (λ (y : OutcomeData). y.more) h.2
          ∙ (q.1.more.1 (λ clear. clear i e there due)))
    ] in (
      subst (λ (s : ℕ). NoneDue n.pending.entries s) (sym c)
          (subst (λ (y : PendingData). NoneDue y.entries (max k.clock t)) (sym p) none),
      omega (arith, c),
    )

ticks_last : {t : ℕ} {xs : List Action} {more : Bool} → Ticks t xs more → more ≡ false
    → (m n : SiteModel) → AllByRecursion IsDoneWhole xs → ActionsLead m xs n
    → NoneDue n.pending.entries n.clock × (t ≤ n.clock)
ticks_last no_tick e m n whole h = cc
ticks_last {t = t} (next_tick {actions = actions} a before is) e m n whole h =
    let r = lead_split m n actions (a ∷ []) h in
    let says : TurnStepSays r.0 a.step a.answer n =
    subst (λ (y : SiteModel). TurnStepSays r.0 a.step a.answer y) (sym r.2.2) r.2.1 in
    tick_last r.0 n t a.answer (all_last actions a whole) e
    (subst (λ (y : TurnStep). TurnStepSays r.0 y a.answer n) is says)

-- after a try the clock has gone on, and none is due
pub served_all : (t : ℕ) (m n : SiteModel) (xs : List Action) → ServesAllDue t m xs n
    → NoneDue n.pending.entries n.clock × (max m.clock t ≤ n.clock)
served_all t m n xs h =
    let r = ticks_last h.ticks refl m n h.whole h.lead in
    (r.0, omega (arith, r.1, clock_run m n xs h.lead))

pub soon_when_served : SoonWhenServed
soon_when_served first m n before ticks t opening lead serves i e there =
    let k = keeps_run (length first.upstreams) first m before (keeps_first first opening) lead in
    let l = keeps_run (length first.upstreams) m n ticks k serves.lead in
    let d = (served_all t m n ticks serves).0 in (
      elim (cases_lt n.clock e.deadline) [ inl l ↦ l | inr g ↦ absurd (d i e there g) ],
      (l.entries i e there).0,
    )

-- tries

-- it waits at an upstream after this one, or at this one until soon after this moment
pub record Phase (j c : ℕ) (o : PendingData) (w : WaiterData) : Type 0 where
  pub waits : IsWaiting o w
  pub far : (j < waits.entry.upstream)
      ⊎ ((j ≤ waits.entry.upstream) × (waits.entry.deadline ≤ c + TRY_SECONDS))

phase_goes : (j c : ℕ) (o n : PendingData) (w : WaiterData) (p : Phase j c o w)
    → GoesOn o n w p.waits → Phase j c n w
phase_goes j c o n w p g = record {
  waits = g.waits;
  far = elim g.moved [
    | inl s ↦ elim p.far [
      | inl l ↦ inl (omega (arith, l, s.0))
      | inr l ↦ inr (omega (arith, l.0, s.0), omega (arith, l.1, s.1))
    ]
    | inr s ↦ elim p.far [
      | inl l ↦ inl (omega (arith, l, s))
      | inr l ↦ inl (omega (arith, l.0, s))
    ]
  ];
}

replied_later : (a : Action) (xs : List Action) (w : WaiterData) → IsRepliedIn xs w
    → IsRepliedIn (a ∷ xs) w
replied_later a xs w r = record {
  action = r.action;
  among = inr r.among;
  outcome = r.outcome;
  whole = r.whole;
  sent = r.sent;
}

pub replied_after : (xs ys : List Action) (w : WaiterData) → IsRepliedIn ys w
    → IsRepliedIn (xs ++ ys) w
replied_after [] ys w r = r
replied_after (x ∷ xs) ys w r = replied_later x (xs ++ ys) w (replied_after xs ys w r)

replied_before : (xs ys : List Action) (w : WaiterData) → IsRepliedIn xs w
    → IsRepliedIn (xs ++ ys) w
replied_before xs ys w r = record {
  action = r.action;
  among = has_left xs ys r.action r.among;
  outcome = r.outcome;
  whole = r.whole;
  sent = r.sent;
}

replied_now : (m : SiteModel) (a : Action) (xs : List Action) (w : WaiterData) (e : EntryData)
    → (o : OutcomeData) × (a.answer ≡ Ok o)
    × (GetsRelay m e w a.step o ⊎ GetsFailure m e w a.step o)
    → IsRepliedIn (a ∷ xs) w
replied_now m a xs w e r = record {
  action = a;
  among = inl refl;
  outcome = r.0;
  whole = r.1;
  sent = elim r.2 [ inl x ↦ inl (x.awaited.digest, x.sent) | inr x ↦ inr x.sent ];
}

pub phase_run : (j c : ℕ) (m n : SiteModel) (xs : List Action) (w : WaiterData)
    → Phase j c m.pending w → ActionsLead m xs n → Phase j c n.pending w ⊎ IsRepliedIn xs w
phase_run j c m n [] w p h =
    inl (subst (λ (y : SiteModel). Phase j c y.pending w) (sym h) p)
phase_run j c m n (a ∷ xs) w p h = elim (fate m h.0 a.step a.answer w p.waits h.1) [
  | inl g ↦ elim (phase_run j c h.0 n xs w (phase_goes j c m.pending h.0.pending w p g) h.2) [
    | inl q ↦ inl q
    | inr r ↦ inr (replied_later a xs w r)
  ]
  | inr r ↦ inr (replied_now m a xs w p.waits.entry r)
]

phase_try : (u j : ℕ) (m n : SiteModel) (xs : List Action) (w : WaiterData) → Keeps u m
    → Phase j m.clock m.pending w → Try m xs n
    → (Phase (suc j) n.clock n.pending w × Keeps u n) ⊎ IsRepliedIn xs w
phase_try u j m n xs w k p r =
    subst (λ (ys : List Action). (Phase (suc j) n.clock n.pending w × Keeps u n)
    ⊎ IsRepliedIn ys w) (sym r.all)
    (elim (phase_run j m.clock m r.middle r.steps w p r.lead) [
      | inr y ↦ inr (replied_before r.steps r.ticks w y)
      | inl q ↦ elim (phase_run j m.clock r.middle n r.ticks w q r.serves.lead) [
        | inr y ↦ inr (replied_after r.steps r.ticks w y)
        | inl q ↦ inl (next q, kept)
      ]
    ])
  where
    kept : Keeps u n
    kept =
        keeps_run u r.middle n r.ticks (keeps_run u m r.middle r.steps k r.lead) r.serves.lead

    ends : NoneDue n.pending.entries n.clock × (max r.middle.clock r.now ≤ n.clock)
    ends = served_all r.now r.middle n r.ticks r.serves

    next : Phase j m.clock n.pending w → Phase (suc j) n.clock n.pending w
    next q = record {
      waits = q.waits;
      far = elim q.far [
        | inl l ↦ inr (omega (arith, l), (kept.entries q.waits.place q.waits.entry q.waits.there).0)
        | inr l ↦ absurd (ends.0 q.waits.place q.waits.entry q.waits.there
            (omega (arith, l.1, r.later, ends.1)))
      ];
    }

phase_tries : (v u j : ℕ) (m n : SiteModel) (xs : List Action) (w : WaiterData) → Keeps u m
    → Phase j m.clock m.pending w → Tries v m xs n
    → (Phase (j + v) n.clock n.pending w × Keeps u n) ⊎ IsRepliedIn xs w
phase_tries zero u j m n xs w k p h =
    inl (subst (λ (y : SiteModel). Phase (j + 0) y.clock y.pending w × Keeps u y) (sym h.1) (
      (let e : j ≡ j + 0 = omega arith in
          subst (λ (i : ℕ). Phase i m.clock m.pending w) e p),
      k,
    ))
phase_tries (suc v) u j m n xs w k p h =
    subst (λ (ys : List Action). (Phase (j + suc v) n.clock n.pending w × Keeps u n)
    ⊎ IsRepliedIn ys w) (sym h.5)
    (elim (phase_try u j m h.0 h.1 w k p h.3) [
      | inr y ↦ inr (replied_before h.1 h.2 w y)
      | inl q ↦ elim (phase_tries v u (suc j) h.0 n h.2 w q.1 q.0 h.4) [
        | inr y ↦ inr (replied_after h.1 h.2 w y)
        | inl z ↦
            let e : suc j + v ≡ j + suc v = omega arith in
            inl (subst (λ (i : ℕ). Phase i n.clock n.pending w) e z.0, z.1)
      ]
    ])

pub replied_in_time : RepliedInTime
replied_in_time first m n before actions w opening lead waits rounds =
    let u = length first.upstreams in
    let k = keeps_run u first m before (keeps_first first opening) lead in
    let e : length m.upstreams ≡ u = ap length (upstreams_run first m before lead) in
    let d = (k.entries waits.place waits.entry waits.there).0 in
    let p : Phase 0 m.clock m.pending w =
    record { waits = waits; far = inr (omega arith, d) } in
    elim (phase_tries (length m.upstreams) u 0 m n actions w k p rounds) [
      | inr r ↦ r
      | inl q ↦
          let l = (q.1.entries q.0.waits.place q.0.waits.entry q.0.waits.there).1 in
          elim q.0.far [
            | inl f ↦ absurd (omega (arith, f, l, e))
            | inr f ↦ absurd (omega (arith, f.0, l, e))
          ]
    ]

pub turns_serve_all_due : TurnsServeAllDue
turns_serve_all_due t word every a b turn m stands whole =
    let lead = turn.acted.steps m stands in
    let one = lead_split m lead.0 turn.given (turn.ticks ++ turn.sweep) lead.1 in
    let two = lead_split one.0 lead.0 turn.ticks turn.sweep one.2 in (
      one.0,
      two.0,
      lead.0,
      one.1,
      record { ticks = turn.are_ticks; whole = whole; lead = two.1 },
      two.2,
      lead.2,
    )
