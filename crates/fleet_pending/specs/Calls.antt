-- Any list of calls.
-- Serves law `waiters_kept`.
use Rattle.std.specs.Prelude.{◌≡◌, ℕ, Bool, List, [], ◌∷◌, ◌++◌, Option, Some, None, Result, Ok, Err}
use Rattle.std.specs.List.{count_by, flat_map}
use Rattle.fleet_wire.specs.Types.{Seconds}
use Rattle.fleet_pending.specs.Waiter.{WaiterData}
use Rattle.fleet_pending.specs.PendingData.{EntryData, PendingData}
use Rattle.fleet_pending.specs.Asking.{Asks, Settles, Advances}
use Rattle.fleet_pending.specs.declared.answer.Asked.{Asked}
use Rattle.fleet_pending.specs.declared.answer.Asked.TheVariants.{Again, Joined, Send}
use Rattle.fleet_pending.specs.declared.answer.PendingFault.{PendingFault}

-- a call that may change the table, with its answer, or with those who waited when it was cleared
pub data Call : Type 0 where
  ask : (waiter : WaiterData) → (now : Seconds) (word : ℕ) → (answer : Result Asked PendingFault) → Call
  settle : (id : ℕ) → (answer : Option EntryData) → Call
  advance : (id : ℕ) (now : Seconds) → (answer : Bool) → Call
  clear : (waiters : List WaiterData) → Call

-- all who wait, entry by entry
abbrev pub open_waiters : PendingData → List WaiterData
open_waiters o = flat_map (λ e. e.waiters) o.entries

-- the call, with its answer, leads from the first table to the second
abbrev pub Does : PendingData → Call → PendingData → Type 0
Does o (ask w now word r) n = Asks o w now word r n
Does o (settle id r) n = Settles o id r n
Does o (advance id now r) n = Advances o id now r n
Does o (clear ws) n = (ws ≡ open_waiters o) × (n ≡ record o { entries = [] })

-- the calls lead from the first table to the second, one after another
abbrev pub Run : PendingData → List Call → PendingData → Type 0
Run o [] n = n ≡ o
Run o (c ∷ cs) n = (mid : PendingData) × Does o c mid × Run mid cs n

-- the waiters that a call accepted
abbrev pub waiters_accepted : Call → List WaiterData
waiters_accepted (ask w now word (Ok Again)) = []
waiters_accepted (ask w now word (Ok Joined)) = w ∷ []
waiters_accepted (ask w now word (Ok (Send upstream id))) = w ∷ []
waiters_accepted (ask w now word (Err f)) = []
waiters_accepted (settle id r) = []
waiters_accepted (advance id now r) = []
waiters_accepted (clear ws) = []

-- the waiters that a call gave back with their entry
abbrev pub waiters_returned : Call → List WaiterData
waiters_returned (ask w now word r) = []
waiters_returned (settle id (Some e)) = e.waiters
waiters_returned (settle id None) = []
waiters_returned (advance id now r) = []
waiters_returned (clear ws) = []

-- the waiters that a call cleared away
abbrev pub waiters_cleared : Call → List WaiterData
waiters_cleared (ask w now word r) = []
waiters_cleared (settle id r) = []
waiters_cleared (advance id now r) = []
waiters_cleared (clear ws) = ws

-- those who waited at first and those accepted are those given back, those cleared away and those
-- still open, each as often: by every test as many
abbrev pub EachAsOften : Type 0
EachAsOften =
    (o n : PendingData) (calls : List Call) → Run o calls n → (test : WaiterData → Bool)
    → count_by test (open_waiters o ++ flat_map waiters_accepted calls)
    ≡ count_by test (flat_map waiters_returned calls
    ++ (flat_map waiters_cleared calls ++ open_waiters n))
