-- The first id that no entry has.
-- Serves `Pending::query_id`, `Pending::ask`, `Pending::open`.
use Rattle.std.specs.Prelude.{◌≡◌, ℕ, ◌+◌, ◌%◌, ◌<◌, Bool, true, false, List, slice_index_or}
use Rattle.fleet_pending.specs.PendingData.{EntryData, UsesId}
use Rattle.fleet_pending.specs.declared.bounds.TheConstants.{MOST_ENTRIES}
use Rattle.fleet_name.specs.Places.{At, NoneIs}

-- each of the first n ids from this word upwards, modulo 65536, has an entry
abbrev pub TakenTo : ℕ → List EntryData → ℕ → Type 0
TakenTo word es n =
    (k : ℕ) → k < n → (i : ℕ) × ((e : EntryData) × At es i e × UsesId ((word + k) % 65536) e)

-- the first id that no entry has, from this word upwards modulo 65536
pub record IsFirstFree (word : ℕ) (es : List EntryData) (id : ℕ) : Type 0 where
  pub passed : ℕ
  pub is : id ≡ (word + passed) % 65536
  pub free : NoneIs (UsesId id) es
  pub taken : TakenTo word es passed

-- What follows, private contracts alone cite.

-- which ids have an entry: of as many as may be open, from this word upwards, modulo 65536
pub record AreTakenIds (word : ℕ) (es : List EntryData) (taken : List Bool) : Type 0 where
  pub taken_ids : (k : ℕ) → k < MOST_ENTRIES → slice_index_or taken k false ≡ true
      → (i : ℕ) × ((e : EntryData) × At es i e × UsesId ((word + k) % 65536) e)
  pub free_ids : (k : ℕ) → k < MOST_ENTRIES → slice_index_or taken k false ≡ false
      → NoneIs (UsesId ((word + k) % 65536)) es
