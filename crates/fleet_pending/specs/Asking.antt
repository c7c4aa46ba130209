-- What each call answers and leaves.
-- Serves `Pending::ask`, `Pending::open`, `Pending::advance`, `Pending::settle`, and every law of the
-- table.
use Rattle.std.specs.Prelude.{◌≡◌, ℕ, ◌+◌, ◌<◌, ◌≤◌, Bool, true, false, List, [], ◌∷◌, ◌++◌, Option, Some, None, Result, Ok, Err, length, slice_set}
use Rattle.std.specs.List.{remove}
use Rattle.fleet_wire.specs.Types.{Seconds}
use Rattle.fleet_pending.specs.Waiter.{WaiterData, Waits}
use Rattle.fleet_pending.specs.PendingData.{EntryData, PendingData, UsesId, AsksFor}
use Rattle.fleet_pending.specs.FreeId.{IsFirstFree}
use Rattle.fleet_pending.specs.declared.bounds.TheConstants.{MOST_ENTRIES, MOST_WAITERS, TRY_SECONDS}
use Rattle.fleet_name.specs.Places.{At, NoneIs}
use Rattle.fleet_pending.specs.declared.answer.Asked.{Asked}
use Rattle.fleet_pending.specs.declared.answer.Asked.TheVariants.{Again, Joined, Send}
use Rattle.fleet_pending.specs.declared.answer.PendingFault.{PendingFault}
use Rattle.fleet_pending.specs.declared.answer.PendingFault.TheVariants.{Full, WaitersFull, OutOfMemory}
use Rattle.fleet_pending.specs.declared.answer.Unasked.{Unasked}

-- what asking answered, without the waiter that comes back
abbrev pub ask_result : {A : Type 0} → Result Asked (Unasked A) → Result Asked PendingFault
ask_result (Ok a) = Ok a
ask_result (Err u) = Err u.fault

-- the entry with one more who waits, the last one
abbrev pub with_waiter : EntryData → WaiterData → EntryData
with_waiter e w = record e { waiters = e.waiters ++ w ∷ [] }

-- the entry that a waiter opens: its question, asked of the first upstream, for `TRY_SECONDS` from the
-- moment
abbrev pub new_entry : WaiterData → Seconds → ℕ → EntryData
new_entry w now id = record {
  name = w.question.name;
  rtype = w.question.rtype;
  id = id;
  upstream = 0;
  deadline = now + TRY_SECONDS;
  waiters = w ∷ [];
}

-- the entry as it asks the next upstream, under the same id, for `TRY_SECONDS` from the moment
abbrev pub with_next_upstream : EntryData → Seconds → EntryData
with_next_upstream e now =
    record e { upstream = e.upstream + 1; deadline = now + TRY_SECONDS }

-- the waiter meets an entry for its question: it waits there already, waits there too, or finds no
-- place or no memory for one
pub data Joins (e : EntryData) (w : WaiterData) (r : Result Asked PendingFault) (f : EntryData)
    : Type 0 where
  waits_already : Waits w e.waiters → r ≡ Ok Again → f ≡ e → Joins e w r f
  waits_too : (Waits w e.waiters → ⊥) → length e.waiters < MOST_WAITERS → r ≡ Ok Joined
      → f ≡ with_waiter e w → Joins e w r f
  no_place : (Waits w e.waiters → ⊥) → MOST_WAITERS ≤ length e.waiters → r ≡ Err WaitersFull
      → f ≡ e → Joins e w r f
  no_memory_for_place : (Waits w e.waiters → ⊥) → length e.waiters < MOST_WAITERS
      → r ≡ Err OutOfMemory → f ≡ e → Joins e w r f

-- the waiter's question is new: where there is room for it, it goes to the first upstream
pub data Opens (es : List EntryData) (w : WaiterData) (now : Seconds) (word : ℕ)
    (r : Result Asked PendingFault) (fs : List EntryData) : Type 0 where
  is_sent : (id : ℕ) → length es < MOST_ENTRIES → IsFirstFree word es id → r ≡ Ok (Send 0 id)
      → fs ≡ es ++ new_entry w now id ∷ [] → Opens es w now word r fs
  no_room : MOST_ENTRIES ≤ length es → r ≡ Err Full → fs ≡ es → Opens es w now word r fs
  no_memory_for_room : length es < MOST_ENTRIES → r ≡ Err OutOfMemory → fs ≡ es
      → Opens es w now word r fs

-- what asking answers and leaves: there is an entry for the question, or it is new
pub data Asks (o : PendingData) (w : WaiterData) (now : Seconds) (word : ℕ) (r : Result Asked PendingFault)
    (n : PendingData) : Type 0 where
  joins : (i : ℕ) (e f : EntryData) → At o.entries i e → AsksFor w.question e → Joins e w r f
      → n ≡ record o { entries = slice_set o.entries i f } → Asks o w now word r n
  opens : (fs : List EntryData) → NoneIs (AsksFor w.question) o.entries
      → Opens o.entries w now word r fs → n ≡ record o { entries = fs }
      → Asks o w now word r n

-- what settling answers and leaves: the entry with this id is given back and taken out, or there is
-- none and nothing changes
abbrev pub Settles : PendingData → ℕ → Option EntryData → PendingData → Type 0
Settles o id None n = NoneIs (UsesId id) o.entries × (n ≡ o)
Settles o id (Some e) n =
    (i : ℕ) × At o.entries i e × UsesId id e × (n ≡ record o { entries = remove o.entries i })

-- what advancing answers and leaves: the entry with this id goes on to the next upstream; or there is
-- none that has a next one, and nothing changes
abbrev pub Advances : PendingData → ℕ → Seconds → Bool → PendingData → Type 0
Advances o id now true n =
    (i : ℕ)
    × ((e : EntryData) × At o.entries i e × UsesId id e × (e.upstream + 1 < o.upstreams)
    × (n ≡ record o { entries = slice_set o.entries i (with_next_upstream e now) }))
Advances o id now false n =
    NoneIs (λ e. UsesId id e × (e.upstream + 1 < o.upstreams)) o.entries × (n ≡ o)
