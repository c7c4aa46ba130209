-- The id of the query that asking would send.
-- Serves `Pending::query_id`, `Pending::open`, law `asking_uses_query_id`.
use Rattle.std.specs.Prelude.{◌≡◌, ◌≢◌, ◌⊎◌, ℕ, ◌<◌, ◌≤◌, Option, Some, None, Result, Ok, Err, length}
use Rattle.fleet_wire.specs.Types.{Seconds}
use Rattle.fleet_wire.specs.Question.{QuestionData}
use Rattle.fleet_pending.specs.Waiter.{WaiterData}
use Rattle.fleet_pending.specs.Asking.{Asks}
use Rattle.fleet_pending.specs.FreeId.{IsFirstFree}
use Rattle.fleet_pending.specs.PendingData.{EntryData, PendingData, AsksFor}
use Rattle.fleet_pending.specs.declared.bounds.TheConstants.{MOST_ENTRIES}
use Rattle.fleet_name.specs.Places.{At, NoneIs}
use Rattle.fleet_pending.specs.declared.answer.Asked.{Asked}
use Rattle.fleet_pending.specs.declared.answer.Asked.TheVariants.{Send}
use Rattle.fleet_pending.specs.declared.answer.PendingFault.{PendingFault}
use Rattle.fleet_pending.specs.declared.answer.PendingFault.TheVariants.{OutOfMemory}

-- the id under which the question would be asked now: the first that no entry has, where the question
-- is new and has room; or none, where an entry has the question or MOST_ENTRIES are open
abbrev pub IsQueryId : PendingData → QuestionData → ℕ → Option ℕ → Type 0
IsQueryId o q word (Some id) =
    NoneIs (AsksFor q) o.entries × (length o.entries < MOST_ENTRIES)
    × IsFirstFree word o.entries id
IsQueryId o q word None =
    ((i : ℕ) × ((e : EntryData) × At o.entries i e × AsksFor q e))
    ⊎ (MOST_ENTRIES ≤ length o.entries)

-- with an id, asking sends the query with it to the first upstream, or runs out of memory; with
-- none it sends no query
abbrev pub IsAskedUnder : Option ℕ → Result Asked PendingFault → Type 0
IsAskedUnder (Some id) r = (r ≡ Ok (Send 0 id)) ⊎ (r ≡ Err OutOfMemory)
IsAskedUnder None r = (upstream id : ℕ) → r ≢ Ok (Send upstream id)

-- asking agrees with the id that `query_id` returns
abbrev pub AsksUnderQueryId : Type 0
AsksUnderQueryId =
    (o n : PendingData) (w : WaiterData) (now : Seconds) (word : ℕ) (id : Option ℕ)
    (r : Result Asked PendingFault) → IsQueryId o w.question word id → Asks o w now word r n
    → IsAskedUnder id r
