-- What is to be done first at a moment.
-- Serves `Pending::due`, `Pending::look_ahead`, law `serving_leaves_fewer_due`.
use Rattle.std.specs.Prelude.{◌≡◌, ℕ, ◌+◌, ◌<◌, ◌≤◌, ◌⊎◌, List, [], Option, Some, None, count_by, nat_le}
use Rattle.fleet_wire.specs.Types.{Seconds}
use Rattle.fleet_pending.specs.PendingData.{EntryData, PendingData}
use Rattle.fleet_name.specs.Places.{At, NoneIs}
use Rattle.fleet_pending.specs.declared.answer.Due.{Due}
use Rattle.fleet_pending.specs.declared.answer.Due.TheVariants.{Retry, Failed}

-- a is due no later than b: it has an earlier deadline, or the same and an id that is not greater
abbrev pub NotAfter : EntryData → EntryData → Type 0
NotAfter a b = (a.deadline < b.deadline) ⊎ ((a.deadline ≡ b.deadline) × (a.id ≤ b.id))

-- e is the entry that is due first at this moment: the one with the least deadline, and of these with
-- the least id
pub record IsFirstDue (es : List EntryData) (now : Seconds) (e : EntryData) : Type 0 where
  pub place : ℕ
  pub there : At es place e
  pub due : e.deadline ≤ now
  pub first : (j : ℕ) (f : EntryData) → At es j f → f.deadline ≤ now → NotAfter e f

-- no entry is due at this moment
abbrev pub NoneDue : List EntryData → Seconds → Type 0
NoneDue es now = NoneIs (λ e. e.deadline ≤ now) es

-- what is to be done first at a moment: nothing, the next upstream for the first due entry, or its
-- failure after the last
abbrev pub Dues : {A : Type 0} → PendingData → Seconds → Option (Due A) → Type 0
Dues o now None = NoneDue o.entries now
Dues o now (Some (Retry upstream id e)) = IsFirstDue o.entries now e.now
    × (id ≡ e.now.id) × (upstream ≡ e.now.upstream + 1) × (upstream < o.upstreams)
Dues o now (Some (Failed id e)) = IsFirstDue o.entries now e.now × (id ≡ e.now.id)
    × (o.upstreams ≤ e.now.upstream + 1)

-- the entry that is due
abbrev pub due_entry : {A : Type 0} → Due A → EntryData
due_entry (Retry upstream id e) = e.now
due_entry (Failed id e) = e.now

-- how many are due at this moment
abbrev pub due_at : PendingData → Seconds → ℕ
due_at o now = count_by (λ e. nat_le e.deadline now) o.entries

-- What follows, private contracts alone cite.

-- a is served before b: an earlier deadline, or the same and a lesser id
abbrev pub IsBefore : EntryData → EntryData → Type 0
IsBefore a b = (a.deadline < b.deadline) ⊎ ((a.deadline ≡ b.deadline) × (a.id < b.id))

-- no entry's time is over before this moment
abbrev pub NoneSooner : Seconds → List EntryData → Type 0
NoneSooner soonest es = (i : ℕ) (e : EntryData) → At es i e → soonest ≤ e.deadline

-- an entry has this deadline
abbrev pub IsDeadline : List EntryData → Seconds → Type 0
IsDeadline es deadline = (i : ℕ) × (e : EntryData) × At es i e × (e.deadline ≡ deadline)

-- the least deadline, or `none` where there is no entry
pub record IsSoonest (none : Seconds) (es : List EntryData) (soonest : Seconds) : Type 0 where
  pub least : NoneSooner soonest es
  pub of_one : ((es ≡ []) × (soonest ≡ none)) ⊎ IsDeadline es soonest
