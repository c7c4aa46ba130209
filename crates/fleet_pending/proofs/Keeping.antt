-- What each call keeps.
-- Serves `Pending::advance`, `Pending::ask`, `Pending::due`, `Pending::entry`, `Pending::find`,
-- `Pending::open`, `Pending::settle`, `first_due_entry`.
use Rattle.std.proofs.Common.{◌≡◌, ℕ, zero, suc, ◌+◌, ◌<◌, ◌≤◌, inl, inr, List, [], ◌∷◌, ◌++◌, Some, None, length, slice_set, refl, sym, ◌∙◌, subst, ap, arith, Result, length-append, length-set}
use Rattle.std.specs.List.{remove}
use Rattle.std.proofs.lemmas.List.Edits.{length-remove}
use Rattle.std.proofs.lemmas.Option.{slice_get_within, same_Some}
use Rattle.fleet_name.specs.Places.{At, NoneIs, NoTwo}
use Rattle.fleet_pending.specs.declared.bounds.TheConstants.{MOST_ENTRIES, MOST_WAITERS}
use Rattle.fleet_pending.specs.Waiter.{WaiterData, Waits, SameAsker}
use Rattle.fleet_pending.specs.PendingData.{EntryData, PendingData, IsPendingData, IsEntryData, SameId, SameQuestion, UsesId, AsksFor}
use Rattle.fleet_pending.specs.Asking.{Joins, waits_already, waits_too, no_place, no_memory_for_place, Opens, is_sent, no_room, no_memory_for_room, with_waiter, new_entry, with_next_upstream}
use Rattle.fleet_pending.specs.declared.answer.Asked.{Asked}
use Rattle.fleet_pending.specs.declared.answer.PendingFault.{PendingFault}
use Rattle.fleet_name.proofs.Lemmas.{at_set}
use Rattle.fleet_pending.proofs.Placed.{at_push, at_remove, no_two_set, no_two_push, no_two_remove}

-- an entry with one more waiter
pub join_is_open : (e : EntryData) (w : WaiterData) → IsEntryData e → AsksFor w.question e
    → (Waits w e.waiters → ⊥) → length e.waiters < MOST_WAITERS → IsEntryData (with_waiter e w)
join_is_open e w h a n l =
    let m : length (e.waiters ++ w ∷ []) ≡ length e.waiters + 1 =
    length-append e.waiters (w ∷ []) in
    record {
      some = omega arith;
      few = omega arith;
      waiting =
          λ i v t. elim (at_push e.waiters i w v t) [ inl p ↦ h.waiting i v p | inr p ↦ new v p.1 ];
      once =
          no_two_push SameAsker e.waiters w h.once (λ i v t s. n (i, (v, t, s)))
          (λ i v t s. n (i, (v, t, (sym s.0, sym s.1))));
    }
  where
    new : (v : WaiterData) → v ≡ w → AsksFor v.question e
    new v p = subst (λ x. AsksFor x.question e) (sym p) a

pub new_is_open : (w : WaiterData) (now id : ℕ) → IsEntryData (new_entry w now id)
new_is_open w now id = record {
  some = omega arith;
  few = omega arith;
  waiting = all;
  once = one;
}
  where
    all : (i : ℕ) (v : WaiterData) → At (w ∷ []) i v → AsksFor v.question (new_entry w now id)
    all zero v t =
        subst (λ x. AsksFor x.question (new_entry w now id)) (same_Some w v t) (refl, refl)
    all (suc i) v t = absurd (let q : None ≡ Some v = t in cc)

    one : NoTwo SameAsker (w ∷ [])
    one zero zero u v s t a = refl
    one zero (suc j) u v s t a = absurd (let q : None ≡ Some v = t in cc)
    one (suc i) j u v s t a = absurd (let q : None ≡ Some u = s in cc)

pub next_is_open : (e : EntryData) (now : ℕ) → IsEntryData e
    → IsEntryData (with_next_upstream e now)
next_is_open e now h = record { some = h.some; few = h.few; waiting = h.waiting; once = h.once }

-- a write of an entry for the same question, under the same id
pub set_keeps : (o : PendingData) (i : ℕ) (e f : EntryData) → IsPendingData o → At o.entries i e
    → f.id ≡ e.id → f.name ≡ e.name → f.rtype ≡ e.rtype → IsEntryData f → f.upstream < o.upstreams
    → IsPendingData (record o { entries = slice_set o.entries i f })
set_keeps o i e f h t p q q' w u = record {
  ids = no_two_set SameId o.entries i e f h.ids t (λ z s. sym p ∙ s) (λ z s. s ∙ p);
  questions =
      no_two_set SameQuestion o.entries i e f h.questions t (λ z s. (sym q ∙ s.0, sym q' ∙ s.1))
      (λ z s. (s.0 ∙ q, s.1 ∙ q'));
  few = let l : length o.entries ≤ MOST_ENTRIES = h.few in omega (arith, length-set o.entries i f);
  open_ones =
      λ j x y. elim (at_set o.entries i j f x y)
      [ inl z ↦ subst IsEntryData (sym z.1) w | inr z ↦ h.open_ones j x z.1 ];
  asking =
      λ j x y. elim (at_set o.entries i j f x y)
      [ inl z ↦ subst (λ v. v.upstream < o.upstreams) (sym z.1) u | inr z ↦ h.asking j x z.1 ];
  some = h.some;
  upstreams = h.upstreams;
}

pub push_keeps : (o : PendingData) (f : EntryData) → IsPendingData o
    → NoneIs (UsesId f.id) o.entries → NoneIs (λ e. SameQuestion e f) o.entries
    → length o.entries < MOST_ENTRIES → IsEntryData f → f.upstream < o.upstreams
    → IsPendingData (record o { entries = o.entries ++ f ∷ [] })
push_keeps o f h p q l w u = record {
  ids = no_two_push SameId o.entries f h.ids p (λ i x t s. p i x t (sym s));
  questions =
      no_two_push SameQuestion o.entries f h.questions q (λ i x t s. q i x t (sym s.0, sym s.1));
  few =
      let n : length (o.entries ++ f ∷ []) ≡ length o.entries + 1 =
      length-append o.entries (f ∷ []) in
      omega arith;
  open_ones =
      λ j x y. elim (at_push o.entries j f x y)
      [ inl z ↦ h.open_ones j x z | inr z ↦ subst IsEntryData (sym z.1) w ];
  asking =
      λ j x y. elim (at_push o.entries j f x y)
      [ inl z ↦ h.asking j x z | inr z ↦ subst (λ v. v.upstream < o.upstreams) (sym z.1) u ];
  some = h.some;
  upstreams = h.upstreams;
}

pub remove_keeps : (o : PendingData) (i : ℕ) (e : EntryData) → IsPendingData o → At o.entries i e
    → IsPendingData (record o { entries = remove o.entries i })
remove_keeps o i e h t = record {
  ids = no_two_remove SameId o.entries i h.ids;
  questions = no_two_remove SameQuestion o.entries i h.questions;
  few =
      let l : length o.entries ≤ MOST_ENTRIES = h.few in
      let n = length-remove o.entries i (slice_get_within o.entries i e t) in omega (arith, n);
  open_ones = λ j x y. let r = at_remove o.entries i j x y in h.open_ones r.0 x r.1;
  asking = λ j x y. let r = at_remove o.entries i j x y in h.asking r.0 x r.1;
  some = h.some;
  upstreams = h.upstreams;
}

same_keeps : (o : PendingData) (i : ℕ) (e f : EntryData) → IsPendingData o → At o.entries i e
    → f ≡ e → IsPendingData (record o { entries = slice_set o.entries i f })
same_keeps o i e f h t p =
    set_keeps o i e f h t (ap (λ x. x.id) p) (ap (λ x. x.name) p) (ap (λ x. x.rtype) p)
    (subst IsEntryData (sym p) (h.open_ones i e t))
    (subst (λ x. x.upstream < o.upstreams) (sym p) (h.asking i e t))

pub joins_keeps : (o : PendingData) (i : ℕ) (e f : EntryData) (w : WaiterData)
    (r : Result Asked PendingFault) → IsPendingData o → At o.entries i e → AsksFor w.question e
    → Joins e w r f → IsPendingData (record o { entries = slice_set o.entries i f })
joins_keeps o i e f w r h t a (waits_already waits result_is same) = same_keeps o i e f h t same
joins_keeps o i e f w r h t a (waits_too new few result_is more) =
    let k : IsEntryData f = subst IsEntryData (sym more)
    (join_is_open e w (h.open_ones i e t) a new few) in
    set_keeps o i e f h t (ap (λ x. x.id) more) (ap (λ x. x.name) more) (ap (λ x. x.rtype) more) k
    (subst (λ x. x.upstream < o.upstreams) (sym more) (h.asking i e t))
joins_keeps o i e f w r h t a (no_place new many result_is same) = same_keeps o i e f h t same
joins_keeps o i e f w r h t a (no_memory_for_place new few result_is same) =
    same_keeps o i e f h t same

pub opens_keeps : (o : PendingData) (w : WaiterData) (now word : ℕ)
    (r : Result Asked PendingFault) (fs : List EntryData) → IsPendingData o
    → NoneIs (AsksFor w.question) o.entries → Opens o.entries w now word r fs
    → IsPendingData (record o { entries = fs })
opens_keeps o w now word r fs h n (is_sent id few free result_is more) =
    subst (λ xs. IsPendingData (record o { entries = xs })) (sym more)
    (push_keeps o (new_entry w now id) h free.free n few (new_is_open w now id) h.some)
opens_keeps o w now word r fs h n (no_room many result_is same) =
    subst (λ xs. IsPendingData (record o { entries = xs })) (sym same) h
opens_keeps o w now word r fs h n (no_memory_for_room few result_is same) =
    subst (λ xs. IsPendingData (record o { entries = xs })) (sym same) h
