-- The id of the query that asking would send.
-- Serves law `asking_uses_query_id`.
use Rattle.std.proofs.Common.{◌≡◌, ◌≢◌, ℕ, ◌+◌, ◌%◌, ◌<◌, ◌≤◌, ◌⊎◌, inl, inr, List, Some, None, Result, Ok, Err, length, sym, ◌∙◌, ap, arith}
use Rattle.std.proofs.lemmas.Bool.{cases_lt}
use Rattle.fleet_pending.specs.declared.bounds.TheConstants.{MOST_ENTRIES}
use Rattle.fleet_pending.specs.Waiter.{WaiterData}
use Rattle.fleet_pending.specs.FreeId.{IsFirstFree}
use Rattle.fleet_pending.specs.PendingData.{EntryData}
use Rattle.fleet_pending.specs.Asking.{Joins, waits_already, waits_too, no_place, no_memory_for_place, Opens, is_sent, no_room, no_memory_for_room, joins, opens}
use Rattle.fleet_pending.specs.QueryId.{AsksUnderQueryId}
use Rattle.fleet_pending.specs.declared.answer.Asked.{Asked}
use Rattle.fleet_pending.specs.declared.answer.Asked.TheVariants.{Send}
use Rattle.fleet_pending.specs.declared.answer.PendingFault.{PendingFault}
use Rattle.fleet_pending.specs.declared.answer.PendingFault.TheVariants.{OutOfMemory}

-- of two first free ids neither is passed by the other
not_passed : (word a b : ℕ) (es : List EntryData) (x : IsFirstFree word es a)
    (y : IsFirstFree word es b) → y.passed ≤ x.passed
not_passed word a b es x y = go (cases_lt x.passed y.passed)
  where
    go : (x.passed < y.passed) ⊎ (y.passed ≤ x.passed) → y.passed ≤ x.passed
    go (inr l) = l
    go (inl l) =
        let t = y.taken x.passed l in absurd (x.free t.0 t.1.0 t.1.1 (t.1.2 ∙ sym x.is))

-- so there is one
same_id : (word a b : ℕ) (es : List EntryData) → IsFirstFree word es a → IsFirstFree word es b
    → a ≡ b
same_id word a b es x y =
    let l = not_passed word a b es x y in
    let m = not_passed word b a es y x in
    let p : x.passed ≡ y.passed = omega (arith, l, m) in
    x.is ∙ ap (λ k. (word + k) % 65536) p ∙ sym y.is

opens_under : (es fs : List EntryData) (w : WaiterData) (now word id : ℕ)
    (r : Result Asked PendingFault) → length es < MOST_ENTRIES → IsFirstFree word es id
    → Opens es w now word r fs → (r ≡ Ok (Send 0 id)) ⊎ (r ≡ Err OutOfMemory)
opens_under es fs w now word id r l first (is_sent k few free result_is more) =
    inl (result_is ∙ ap (λ x. Ok (Send 0 x)) (same_id word k id es free first))
opens_under es fs w now word id r l first (no_room many result_is same) =
    absurd (omega (arith, l, many))
opens_under es fs w now word id r l first (no_memory_for_room few result_is same) = inr result_is

joins_unsent : (e f : EntryData) (w : WaiterData) (r : Result Asked PendingFault) → Joins e w r f
    → (u id : ℕ) → r ≢ Ok (Send u id)
joins_unsent e f w r (waits_already waits result_is same) u id p = cc
joins_unsent e f w r (waits_too new few result_is more) u id p = cc
joins_unsent e f w r (no_place new many result_is same) u id p = cc
joins_unsent e f w r (no_memory_for_place new few result_is same) u id p = cc

full_unsent : (es fs : List EntryData) (w : WaiterData) (now word : ℕ)
    (r : Result Asked PendingFault) → MOST_ENTRIES ≤ length es → Opens es w now word r fs
    → (u id : ℕ) → r ≢ Ok (Send u id)
full_unsent es fs w now word r l (is_sent k few free result_is more) u id p =
    omega (arith, l, few)
full_unsent es fs w now word r l (no_room many result_is same) u id p = cc
full_unsent es fs w now word r l (no_memory_for_room few result_is same) u id p = cc

pub asks_under_query_id : AsksUnderQueryId
asks_under_query_id o n w now word (Some id) r t (joins i e f at a j q) =
    absurd (t.0 i e at a)
asks_under_query_id o n w now word (Some id) r t (opens fs a j q) =
    opens_under o.entries fs w now word id r t.1 t.2 j
asks_under_query_id o n w now word None r t (joins i e f at a j q) = joins_unsent e f w r j
asks_under_query_id o n w now word None r (inl t) (opens fs a j q) =
    absurd (a t.0 t.1.0 t.1.1 t.1.2)
asks_under_query_id o n w now word None r (inr t) (opens fs a j q) =
    full_unsent o.entries fs w now word r t j
