-- What a waiter that was not taken leaves.
-- Serves `Pending::ask`, `Pending::open`.
use Rattle.std.proofs.Common.{◌≡◌, ℕ, List, Result, Ok, Err, OnErr, slice_set, ◌∙◌, ap}
use Rattle.fleet_pending.specs.Waiter.{WaiterData}
use Rattle.fleet_pending.specs.Asking.{Asks, Joins, waits_already, waits_too, no_place, no_memory_for_place, Opens, is_sent, no_room, no_memory_for_room, joins, opens, ask_result}
use Rattle.fleet_pending.specs.PendingData.{EntryData, PendingData}
use Rattle.fleet_name.proofs.Lemmas.{set_same}
use Rattle.fleet_pending.specs.declared.answer.Asked.{Asked}
use Rattle.fleet_pending.specs.declared.answer.PendingFault.{PendingFault}
use Rattle.fleet_pending.specs.declared.answer.Unasked.{Unasked}

not_joined : (e f : EntryData) (w : WaiterData) (x : PendingFault) → Joins e w (Err x) f → f ≡ e
not_joined e f w x (waits_already waits result_is same) = same
not_joined e f w x (waits_too new few result_is more) = cc
not_joined e f w x (no_place new many result_is same) = same
not_joined e f w x (no_memory_for_place new few result_is same) = same

not_opened : (es fs : List EntryData) (w : WaiterData) (now word : ℕ) (x : PendingFault)
    → Opens es w now word (Err x) fs → fs ≡ es
not_opened es fs w now word x (is_sent id few free result_is more) = cc
not_opened es fs w now word x (no_room many result_is same) = same
not_opened es fs w now word x (no_memory_for_room few result_is same) = same

not_asked : (o n : PendingData) (w : WaiterData) (now word : ℕ) (x : PendingFault)
    → Asks o w now word (Err x) n → n ≡ o
not_asked o n w now word x (joins i e f t a j q) =
    q ∙ ap (λ y. record o { entries = slice_set o.entries i y }) (not_joined e f w x j)
    ∙ ap (λ xs. record o { entries = xs }) (set_same o.entries i e t)
not_asked o n w now word x (opens fs a j q) =
    q ∙ ap (λ xs. record o { entries = xs }) (not_opened o.entries fs w now word x j)

pub unchanged : {A : Type 0} (o n : PendingData) (w : WaiterData) (now word : ℕ)
    (r : Result Asked (Unasked A)) → Asks o w now word (ask_result r) n → OnErr r (n ≡ o)
unchanged o n w now word (Ok a) h = tt
unchanged o n w now word (Err u) h = not_asked o n w now word u.fault h
