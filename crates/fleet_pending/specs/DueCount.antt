-- How many are due, as they are served.
-- Serves law `serving_leaves_fewer_due`.
use Rattle.std.specs.Prelude.{◌≡◌, ◌↔◌, ℕ, ◌+◌, ◌<◌, ◌≤◌, Bool, true, Option}
use Rattle.fleet_wire.specs.Types.{Seconds}
use Rattle.fleet_pending.specs.Asking.{Settles, Advances}
use Rattle.fleet_pending.specs.Due.{IsFirstDue, NoneDue, due_at}
use Rattle.fleet_pending.specs.declared.bounds.TheConstants.{MOST_ENTRIES}
use Rattle.fleet_pending.specs.PendingData.{EntryData, PendingData, IsPendingData, UsesId}

-- none is due exactly where the count is 0, at most as many are as may be open, and one fewer once the
-- first, which has a next upstream, moved on to it, or is settled
pub record CountsDue : Type 0 where
  pub none : (o : PendingData) (now : Seconds) → NoneDue o.entries now ↔ (due_at o now ≡ 0)
  pub few : (o : PendingData) (now : Seconds) → IsPendingData o → due_at o now ≤ MOST_ENTRIES
  pub advancing : (o n : PendingData) (now : Seconds) (id : ℕ) (e : EntryData) (moves : Bool)
      → IsPendingData o → IsFirstDue o.entries now e → UsesId id e → e.upstream + 1 < o.upstreams
      → Advances o id now moves n → (moves ≡ true) × (due_at n now + 1 ≡ due_at o now)
  pub settling : (o n : PendingData) (now : Seconds) (id : ℕ) (e : EntryData) (r : Option EntryData)
      → IsPendingData o → IsFirstDue o.entries now e → UsesId id e → Settles o id r n
      → due_at n now + 1 ≡ due_at o now
