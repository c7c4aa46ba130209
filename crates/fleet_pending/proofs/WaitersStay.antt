-- Who waits, over the calls that change a table.
-- Serves law `waiters_stay`.
use Rattle.std.proofs.Common.{◌≡◌, ℕ, zero, suc, ◌⊎◌, inl, inr, Bool, true, false, List, [], ◌∷◌, ◌++◌, Option, Some, None, Result, length, slice_set, sym, subst, ◌≢◌}
use Rattle.std.specs.List.{remove}
use Rattle.std.proofs.lemmas.Option.{same_Some}
use Rattle.fleet_pending.specs.Waiter.{WaiterData}
use Rattle.fleet_pending.specs.Asking.{Asks, Joins, waits_already, waits_too, no_place, no_memory_for_place, Opens, is_sent, no_room, no_memory_for_room, Settles, Advances, joins, opens, new_entry, with_next_upstream}
use Rattle.fleet_pending.specs.PendingData.{EntryData, PendingData}
use Rattle.fleet_name.specs.Places.{At}
use Rattle.fleet_pending.specs.Waiting.{IsWaiting, WaitersStay}
use Rattle.fleet_pending.specs.declared.answer.Asked.{Asked}
use Rattle.fleet_pending.specs.declared.answer.PendingFault.{PendingFault}
use Rattle.fleet_name.proofs.Lemmas.{at_set}
use Rattle.fleet_pending.proofs.Placed.{at_push, at_remove}

-- each waiter of f waits at e, or is w
abbrev From : EntryData → EntryData → WaiterData → Type 0
From e f w = (i : ℕ) (v : WaiterData) → At f.waiters i v → ((j : ℕ) × At e.waiters j v) ⊎ (v ≡ w)

same_from : (e f : EntryData) (w : WaiterData) → f ≡ e → From e f w
same_from e f w p i v t = inl (i, subst (λ x. At x.waiters i v) p t)

join_from : (e f : EntryData) (w : WaiterData) (r : Result Asked PendingFault) → Joins e w r f
    → From e f w
join_from e f w r (waits_already waits result_is same) = same_from e f w same
join_from e f w r (waits_too new few result_is more) =
    λ i v t. elim (at_push e.waiters i w v (subst (λ x. At x.waiters i v) more t))
    [ inl a ↦ inl (i, a) | inr a ↦ inr a.1 ]
join_from e f w r (no_place new many result_is same) = same_from e f w same
join_from e f w r (no_memory_for_place new few result_is same) = same_from e f w same

waits_at : (o : PendingData) (i : ℕ) (e : EntryData) (v : WaiterData) → At o.entries i e
    → (j : ℕ) × At e.waiters j v → IsWaiting o v
waits_at o i e v t a = record { place = i; entry = e; there = t; turn = a.0; waits = a.1 }

set_waits : (o : PendingData) (i : ℕ) (e f : EntryData) (w v : WaiterData) → At o.entries i e
    → From e f w → IsWaiting (record o { entries = slice_set o.entries i f }) v
    → IsWaiting o v ⊎ (v ≡ w)
set_waits o i e f w v t from h = go (at_set o.entries i h.place f h.entry h.there)
  where
    new : ((j : ℕ) × At e.waiters j v) ⊎ (v ≡ w) → IsWaiting o v ⊎ (v ≡ w)
    new (inl a) = inl (waits_at o i e v t a)
    new (inr p) = inr p

    go : ((h.place ≡ i) × (h.entry ≡ f)) ⊎ ((h.place ≢ i) × At o.entries h.place h.entry)
        → IsWaiting o v ⊎ (v ≡ w)
    go (inl p) = new (from h.turn v (subst (λ x. At x.waiters h.turn v) p.1 h.waits))
    go (inr p) = inl (waits_at o h.place h.entry v p.1 (h.turn, h.waits))

push_waits : (o : PendingData) (w v : WaiterData) (now id : ℕ)
    → IsWaiting (record o { entries = o.entries ++ new_entry w now id ∷ [] }) v
    → IsWaiting o v ⊎ (v ≡ w)
push_waits o w v now id h =
    go (at_push o.entries h.place (new_entry w now id) h.entry h.there)
  where
    only : (i : ℕ) → At (w ∷ []) i v → v ≡ w
    only zero t = sym (same_Some w v t)
    only (suc i) t = absurd (let q : None ≡ Some v = t in cc)

    go : At o.entries h.place h.entry
        ⊎ ((h.place ≡ length o.entries) × (h.entry ≡ new_entry w now id))
        → IsWaiting o v ⊎ (v ≡ w)
    go (inl t) = inl (waits_at o h.place h.entry v t (h.turn, h.waits))
    go (inr p) = inr (only h.turn (subst (λ x. At x.waiters h.turn v) p.1 h.waits))

open_waits : (o : PendingData) (w v : WaiterData) (now word : ℕ) (r : Result Asked PendingFault)
    (fs : List EntryData) → Opens o.entries w now word r fs
    → IsWaiting (record o { entries = fs }) v → IsWaiting o v ⊎ (v ≡ w)
open_waits o w v now word r fs (is_sent id few free result_is more) h =
    push_waits o w v now id (subst (λ xs. IsWaiting (record o { entries = xs }) v) more h)
open_waits o w v now word r fs (no_room many result_is same) h =
    inl (subst (λ xs. IsWaiting (record o { entries = xs }) v) same h)
open_waits o w v now word r fs (no_memory_for_room few result_is same) h =
    inl (subst (λ xs. IsWaiting (record o { entries = xs }) v) same h)

ask_waits : (o n : PendingData) (w v : WaiterData) (now word : ℕ) (r : Result Asked PendingFault)
    → Asks o w now word r n → IsWaiting n v → IsWaiting o v ⊎ (v ≡ w)
ask_waits o n w v now word r (joins i e f t a j q) h =
    set_waits o i e f w v t (join_from e f w r j) (subst (λ x. IsWaiting x v) q h)
ask_waits o n w v now word r (opens fs a j q) h =
    open_waits o w v now word r fs j (subst (λ x. IsWaiting x v) q h)

settle_waits : (o n : PendingData) (v : WaiterData) (id : ℕ) (r : Option EntryData)
    → Settles o id r n → IsWaiting n v → IsWaiting o v
settle_waits o n v id None s h = subst (λ x. IsWaiting x v) s.1 h
settle_waits o n v id (Some e) s h = left (subst (λ x. IsWaiting x v) s.3 h)
  where
    left : IsWaiting (record o { entries = remove o.entries s.0 }) v → IsWaiting o v
    left k =
        let r = at_remove o.entries s.0 k.place k.entry k.there in
        waits_at o r.0 k.entry v r.1 (k.turn, k.waits)

advance_waits : (o n : PendingData) (v : WaiterData) (id now : ℕ) (r : Bool)
    → Advances o id now r n → IsWaiting n v → IsWaiting o v
advance_waits o n v id now false a h = subst (λ x. IsWaiting x v) a.1 h
advance_waits o n v id now true a h = moved (subst (λ x. IsWaiting x v) a.1.4 h)
  where
    moved : IsWaiting
        (record o { entries = slice_set o.entries a.0 (with_next_upstream a.1.0 now) }) v
        → IsWaiting o v
    moved k = go (at_set o.entries a.0 k.place (with_next_upstream a.1.0 now) k.entry k.there)
      where
        go : ((k.place ≡ a.0) × (k.entry ≡ with_next_upstream a.1.0 now))
            ⊎ ((k.place ≢ a.0) × At o.entries k.place k.entry) → IsWaiting o v
        go (inl p) =
            waits_at o a.0 a.1.0 v a.1.1 (k.turn, subst (λ x. At x.waiters k.turn v) p.1 k.waits)
        go (inr p) = waits_at o k.place k.entry v p.1 (k.turn, k.waits)

pub waiters_stay : WaitersStay
waiters_stay = record { asking = ask_waits; settling = settle_waits; advancing = advance_waits }
