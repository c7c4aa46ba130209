-- The questions that are open.
-- Serves every call of `Pending`.
use Rattle.std.specs.Prelude.{◌≡◌, ℕ, ◌<◌, ◌≤◌, List, length}
use Rattle.fleet_name.specs.Types.{Labels}
use Rattle.fleet_wire.specs.Types.{RType, Seconds}
use Rattle.fleet_wire.specs.Question.{QuestionData}
use Rattle.fleet_wire.specs.declared.class.TheConstants.{IN}
use Rattle.fleet_pending.specs.Waiter.{WaiterData, SameAsker}
use Rattle.fleet_pending.specs.declared.bounds.TheConstants.{MOST_ENTRIES, MOST_WAITERS, MOST_UPSTREAMS}
use Rattle.fleet_name.specs.Places.{At, NoTwo}

-- an open question: what it asks, under which id, which upstream, until when, and who waits
pub record EntryData : Type 0 where
  pub name : Labels
  pub rtype : RType
  pub id : ℕ
  pub upstream : ℕ
  pub deadline : Seconds
  pub waiters : List WaiterData

-- the open questions, and of how many upstreams each asks one after the other
pub record PendingData : Type 0 where
  pub upstreams : ℕ
  pub entries : List EntryData

-- the entry has this id
abbrev pub UsesId : ℕ → EntryData → Type 0
UsesId id e = e.id ≡ id

-- the entry is for the name and the type of the question
abbrev pub AsksFor : QuestionData → EntryData → Type 0
AsksFor q e = (e.name ≡ q.name) × (e.rtype ≡ q.rtype)

-- 1 to MOST_WAITERS waiters, each for the entry's name and type, and none twice
pub record IsEntryData (e : EntryData) : Type 0 where
  pub some : 0 < length e.waiters
  pub few : length e.waiters ≤ MOST_WAITERS
  pub waiting : (i : ℕ) (w : WaiterData) → At e.waiters i w → AsksFor w.question e
  pub once : NoTwo SameAsker e.waiters

-- two entries have the same id
abbrev pub SameId : EntryData → EntryData → Type 0
SameId a b = a.id ≡ b.id

-- two entries are for the same name and type
abbrev pub SameQuestion : EntryData → EntryData → Type 0
SameQuestion a b = (a.name ≡ b.name) × (a.rtype ≡ b.rtype)

-- at most MOST_ENTRIES open questions, no two with the same id or the same name and type
pub record IsPendingData (o : PendingData) : Type 0 where
  pub ids : NoTwo SameId o.entries
  pub questions : NoTwo SameQuestion o.entries
  pub few : length o.entries ≤ MOST_ENTRIES
  pub open_ones : (i : ℕ) (e : EntryData) → At o.entries i e → IsEntryData e
  pub asking : (i : ℕ) (e : EntryData) → At o.entries i e → e.upstream < o.upstreams
  pub some : 0 < o.upstreams
  pub upstreams : o.upstreams ≤ MOST_UPSTREAMS

-- the entry that a reply from this upstream, under this id and with this question, is for: this
-- upstream was asked last, and the class is IN
abbrev pub Matches : ℕ → ℕ → QuestionData → EntryData → Type 0
Matches upstream id q e = UsesId id e × (e.upstream ≡ upstream) × AsksFor q e × (q.class ≡ IN)
