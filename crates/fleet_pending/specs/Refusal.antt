-- Which askers are refused, as a law: `Joins` and `Opens` of Asking have the rule.
-- Serves law `refusals_are_exact`.
use Rattle.std.specs.Prelude.{◌≡◌, ◌↔◌, ℕ, ◌≤◌, Result, Err, length}
use Rattle.fleet_wire.specs.Types.{Seconds}
use Rattle.fleet_pending.specs.Waiter.{WaiterData, Waits}
use Rattle.fleet_pending.specs.Asking.{Asks}
use Rattle.fleet_pending.specs.PendingData.{EntryData, PendingData, IsPendingData, AsksFor}
use Rattle.fleet_pending.specs.declared.bounds.TheConstants.{MOST_ENTRIES, MOST_WAITERS}
use Rattle.fleet_name.specs.Places.{At, NoneIs}
use Rattle.fleet_pending.specs.declared.answer.Asked.{Asked}
use Rattle.fleet_pending.specs.declared.answer.PendingFault.{PendingFault}
use Rattle.fleet_pending.specs.declared.answer.PendingFault.TheVariants.{Full, WaitersFull}

-- the question is new, and MOST_ENTRIES are open
abbrev pub NoRoom : PendingData → WaiterData → Type 0
NoRoom o w = NoneIs (AsksFor w.question) o.entries × (MOST_ENTRIES ≤ length o.entries)

-- MOST_WAITERS wait for the question, and this asker is none of them
abbrev pub NoPlace : PendingData → WaiterData → Type 0
NoPlace o w = (i : ℕ)
    × ((e : EntryData) × At o.entries i e × AsksFor w.question e × (Waits w e.waiters → ⊥)
    × (MOST_WAITERS ≤ length e.waiters))

-- `Full` comes exactly where there is no room, `WaitersFull` exactly where there is no place
pub record RefusesWhere (o : PendingData) (w : WaiterData) (r : Result Asked PendingFault)
    : Type 0 where
  pub full : (r ≡ Err Full) ↔ NoRoom o w
  pub waiters_full : (r ≡ Err WaitersFull) ↔ NoPlace o w

-- `Full` and `WaitersFull` come exactly where they should
abbrev pub RefusesExactly : Type 0
RefusesExactly =
    (o n : PendingData) (w : WaiterData) (now : Seconds) (word : ℕ) (r : Result Asked PendingFault)
    → IsPendingData o → Asks o w now word r n → RefusesWhere o w r
