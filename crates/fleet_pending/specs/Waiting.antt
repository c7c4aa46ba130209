-- Who waits, over the calls that change a table.
-- Serves law `waiters_stay`.
use Rattle.std.specs.Prelude.{◌≡◌, ◌⊎◌, ℕ, Bool, Option, Result}
use Rattle.fleet_wire.specs.Types.{Seconds}
use Rattle.fleet_pending.specs.Waiter.{WaiterData}
use Rattle.fleet_pending.specs.Asking.{Asks, Settles, Advances}
use Rattle.fleet_pending.specs.PendingData.{EntryData, PendingData}
use Rattle.fleet_name.specs.Places.{At}
use Rattle.fleet_pending.specs.declared.answer.Asked.{Asked}
use Rattle.fleet_pending.specs.declared.answer.PendingFault.{PendingFault}

-- w waits for the answer to an open question
pub record IsWaiting (o : PendingData) (w : WaiterData) : Type 0 where
  pub place : ℕ
  pub entry : EntryData
  pub there : At o.entries place entry
  pub turn : ℕ
  pub waits : At entry.waiters turn w

-- who waits afterwards waited before, or is the one who asked
pub record WaitersStay : Type 0 where
  pub asking : (o n : PendingData) (w v : WaiterData) (now : Seconds) (word : ℕ)
      (r : Result Asked PendingFault) → Asks o w now word r n
      → IsWaiting n v → IsWaiting o v ⊎ (v ≡ w)
  pub settling : (o n : PendingData) (v : WaiterData) (id : ℕ) (r : Option EntryData)
      → Settles o id r n → IsWaiting n v → IsWaiting o v
  pub advancing : (o n : PendingData) (v : WaiterData) (id : ℕ) (now : Seconds) (r : Bool)
      → Advances o id now r n → IsWaiting n v → IsWaiting o v
