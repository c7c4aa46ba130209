-- Where a waiter is refused.
-- Serves law `refusals_are_exact`.
use Rattle.std.proofs.Common.{◌≡◌, ℕ, ◌≤◌, List, Result, Err, length, sym, ◌∙◌, subst, arith}
use Rattle.fleet_name.specs.Places.{At}
use Rattle.fleet_pending.specs.declared.bounds.TheConstants.{MOST_ENTRIES, MOST_WAITERS}
use Rattle.fleet_pending.specs.Waiter.{WaiterData, Waits}
use Rattle.fleet_pending.specs.PendingData.{EntryData}
use Rattle.fleet_pending.specs.Refusal.{NoPlace, RefusesExactly}
use Rattle.fleet_pending.specs.Asking.{Joins, waits_already, waits_too, no_place, no_memory_for_place, Opens, is_sent, no_room, no_memory_for_room, joins, opens}
use Rattle.fleet_pending.specs.declared.answer.Asked.{Asked}
use Rattle.fleet_pending.specs.declared.answer.PendingFault.{PendingFault}
use Rattle.fleet_pending.specs.declared.answer.PendingFault.TheVariants.{Full, WaitersFull}
use Rattle.fleet_name.proofs.Lemmas.{at_same}

-- of an entry that has the question: not full
join_full : (e f : EntryData) (w : WaiterData) (r : Result Asked PendingFault) → Joins e w r f
    → r ≡ Err Full → ⊥
join_full e f w r (waits_already waits result_is same) p = cc
join_full e f w r (waits_too new few result_is more) p = cc
join_full e f w r (no_place new many result_is same) p = cc
join_full e f w r (no_memory_for_place new few result_is same) p = cc

join_waiters : (e f : EntryData) (w : WaiterData) (r : Result Asked PendingFault) → Joins e w r f
    → r ≡ Err WaitersFull → (Waits w e.waiters → ⊥) × (MOST_WAITERS ≤ length e.waiters)
join_waiters e f w r (waits_already waits result_is same) p = cc
join_waiters e f w r (waits_too new few result_is more) p = cc
join_waiters e f w r (no_place new many result_is same) p = (new, many)
join_waiters e f w r (no_memory_for_place new few result_is same) p = cc

join_refused : (e f : EntryData) (w : WaiterData) (r : Result Asked PendingFault) → Joins e w r f
    → (Waits w e.waiters → ⊥) → MOST_WAITERS ≤ length e.waiters → r ≡ Err WaitersFull
join_refused e f w r (waits_already waits result_is same) n l = absurd (n waits)
join_refused e f w r (waits_too new few result_is more) n l = absurd (omega (arith, few, l))
join_refused e f w r (no_place new many result_is same) n l = result_is
join_refused e f w r (no_memory_for_place new few result_is same) n l = absurd (omega (arith, few, l))

open_full : (es fs : List EntryData) (w : WaiterData) (now word : ℕ)
    (r : Result Asked PendingFault) → Opens es w now word r fs → r ≡ Err Full
    → MOST_ENTRIES ≤ length es
open_full es fs w now word r (is_sent id few free result_is more) p = cc
open_full es fs w now word r (no_room many result_is same) p = many
open_full es fs w now word r (no_memory_for_room few result_is same) p = cc

open_waiters : (es fs : List EntryData) (w : WaiterData) (now word : ℕ)
    (r : Result Asked PendingFault) → Opens es w now word r fs → r ≡ Err WaitersFull → ⊥
open_waiters es fs w now word r (is_sent id few free result_is more) p = cc
open_waiters es fs w now word r (no_room many result_is same) p = cc
open_waiters es fs w now word r (no_memory_for_room few result_is same) p = cc

open_refused : (es fs : List EntryData) (w : WaiterData) (now word : ℕ)
    (r : Result Asked PendingFault) → Opens es w now word r fs → MOST_ENTRIES ≤ length es
    → r ≡ Err Full
open_refused es fs w now word r (is_sent id few free result_is more) l =
    absurd (omega (arith, few, l))
open_refused es fs w now word r (no_room many result_is same) l = result_is
open_refused es fs w now word r (no_memory_for_room few result_is same) l =
    absurd (omega (arith, few, l))

pub refuses_exactly : RefusesExactly
refuses_exactly o n w now word r h (joins i e f t a j q) = record {
  full = ((λ p. absurd (join_full e f w r j p)), λ p. absurd (p.0 i e t a));
  waiters_full = ((λ p. let k = join_waiters e f w r j p in (i, (e, t, a, k.0, k.1))), λ p. back p);
}
  where
    back : NoPlace o w → r ≡ Err WaitersFull
    back p =
        let x = p.1.0 in
        let z : i ≡ p.0 = h.questions i p.0 e x t p.1.1 (a.0 ∙ sym p.1.2.0, a.1 ∙ sym p.1.2.1) in
        let y : x ≡ e = at_same o.entries i x e (subst (λ k. At o.entries k x) (sym z) p.1.1) t in
        join_refused e f w r j (subst (λ d. Waits w d.waiters → ⊥) y p.1.3)
        (subst (λ d. MOST_WAITERS ≤ length d.waiters) y p.1.4)
refuses_exactly o n w now word r h (opens fs a j q) = record {
  full = (
    (λ p. (a, open_full o.entries fs w now word r j p)),
    λ p. open_refused o.entries fs w
        now word r j p.1,
  );
  waiters_full = (
    (λ p. absurd (open_waiters o.entries fs w now word r j p)),
    λ p.
        absurd (a p.0 p.1.0 p.1.1 p.1.2),
  );
}
