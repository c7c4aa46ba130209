-- How much of what has ended is in memory, beside what has not.
-- Serves `Cache::take`, where it frees memory, and the laws `memory_follows` and `memory_falls`.
use Rattle.std.specs.Prelude.{◌≡◌, ◌⊎◌, ℕ, ◌+◌, ◌*◌, ◌<◌, ◌≤◌, Bool, true, false, ◌||◌, not, List, [], ◌∷◌, length}
use Rattle.std.specs.List.{filter}
use Rattle.std.specs.Ordering.{is_lt}
use Rattle.fleet_wire.specs.Types.{Seconds}
use Rattle.fleet_observe.specs.Members.{Has}
use Rattle.fleet_observe.specs.Observation.{ObservationData, Observations, expires}
use Rattle.fleet_observe.specs.Preference.{octets_cmp}
use Rattle.fleet_cache.specs.Live.{lasts}
use Rattle.fleet_cache.specs.steps.Held.{IsHeld}
use Rattle.fleet_cache.specs.steps.Packed.{words_of}
use Rattle.fleet_cache.specs.steps.Reclaimed.{turn, IsReclaimed}
use Rattle.fleet_cache.specs.steps.Soonest.{NoneSooner}

-- how many of the items pass a test
abbrev pub count : (ObservationData → Bool) → Observations → ℕ
count test items = length (filter test items)

-- a round that stands at the key with the words `at` has yet to come to o
abbrev pub is_ahead : List ℕ → ObservationData → Bool
is_ahead at o = is_lt (octets_cmp (turn at) (turn (words_of o)))

-- o may be in memory when the round ends: it has not ended, or it is not ahead any more
abbrev pub may_stay : Seconds → List ℕ → ObservationData → Bool
may_stay floor at o = lasts floor o || not (is_ahead at o)

-- A round stands at the key with the words `at`, and owes `left` looks. It began with at most `begun`
-- in memory, and some `kept` came in since. At no time since did more than `most` observations in
-- memory last beyond the floor. The numbers here and below follow from `PACE` and `BATCH` of round.rt.
pub record IsRound (most begun : ℕ) (floor : Seconds) (items : Observations) (at : List ℕ) (left : ℕ)
    : Type 0 where
  pub kept : ℕ
  pub stays : count (may_stay floor at) items ≤ most + kept
  pub ahead : count (is_ahead at) items + 3 * kept ≤ begun + left
  pub paid : 3 * kept ≤ begun + 34
  pub all : length items ≤ begun + kept

-- a round as `IsRound` says, which owes fewer looks than are made at a time
abbrev pub IsBounded : ℕ → ℕ → Seconds → Observations → List ℕ → ℕ → Type 0
IsBounded most begun floor items at owed = IsRound most begun floor items at owed × (owed < 32)

-- where a round that had left its start came back to it, `most` are left at most, a third of
-- `begun`, and eleven
abbrev pub LeavesFew : ℕ → ℕ → List ℕ → Observations → List ℕ → Type 0
LeavesFew most begun at items to = to ≡ []
    → (at ≡ []) ⊎ (3 * length items ≤ 3 * most + begun + 34)

-- the memory of a cache: its floor, the observations in it, the words of the key at which the round of
-- takes stands, and how many fronts it owes a look
pub record MemoryData : Type 0 where
  pub floor : Seconds
  pub items : Observations
  pub at : List ℕ
  pub owed : ℕ

-- the memory of no observations, at floor 0
abbrev pub new_memory : MemoryData
new_memory = record { floor = 0; items = []; at = []; owed = 0 }

-- a call, as each take does, keeps to each bound that is wide enough for what lasts after it, and where
-- a round ends few are left
abbrev pub KeepsBounds : MemoryData → MemoryData → Type 0
KeepsBounds m n = (most begun : ℕ) → 3 * most + 34 ≤ 2 * begun
    → IsBounded most begun m.floor m.items m.at m.owed → count (lasts n.floor) n.items ≤ most
    → IsBounded most begun n.floor n.items n.at n.owed × LeavesFew most begun m.at n.items n.at

-- a purge raised the floor, and dropped nothing that is live at the new one
pub record IsPurged (m n : MemoryData) : Type 0 where
  pub floor : m.floor ≤ n.floor
  pub reclaimed : IsReclaimed n.floor m.items n.items
  pub held : IsHeld n.items
  pub stands : n.at ≡ m.at
  pub owes : n.owed ≡ m.owed

-- the memories after calls, one after another: takes, purges, and those that drop all
abbrev pub AreBehindCalls : MemoryData → List MemoryData → Type 0
AreBehindCalls m [] = Unit {0}
AreBehindCalls m (n ∷ ns) =
    (KeepsBounds m n ⊎ (IsPurged m n ⊎ (n ≡ new_memory))) × AreBehindCalls n ns

-- After any calls, from a new memory on: if after each at most `most` observations in memory had not
-- ended, there are at most twice as many in memory, and 33.
abbrev pub MemoryFollows : Type 0
MemoryFollows = (ns : List MemoryData) (most : ℕ) → AreBehindCalls new_memory ns
    → ((n : MemoryData) → Has ns n → count (lasts n.floor) n.items ≤ most)
    → (n : MemoryData) → Has ns n → length n.items ≤ 2 * most + 33

-- the second of these memories is the next one after the first in a list
abbrev pub AreNext : List MemoryData → MemoryData → MemoryData → Type 0
AreNext [] k n = ⊥
AreNext (x ∷ []) k n = ⊥
AreNext (x ∷ y ∷ xs) k n = ((x ≡ k) × (y ≡ n)) ⊎ AreNext (y ∷ xs) k n

-- From a memory whose round is at its start on: where at most `most` observations in memory have not
-- ended then and after each call, memory never grows by more than a third and eleven, or beyond the
-- bound of `most`; and a round that went over all of it leaves at most `most`, a third of what there
-- was, and eleven.
abbrev pub MemoryFalls : Type 0
MemoryFalls = (m : MemoryData) (ns : List MemoryData) (most begun : ℕ) → m.at ≡ [] → m.owed < 32
    → AreBehindCalls m ns
    → ((n : MemoryData) → Has (m ∷ ns) n → count (lasts n.floor) n.items ≤ most)
    → length m.items ≤ begun → 3 * most + 34 ≤ 2 * begun
    → ((n : MemoryData) → Has ns n → 3 * length n.items ≤ 4 * begun + 31)
    × ((k n : MemoryData) → AreNext (m ∷ ns) k n → (k.at ≡ [] → ⊥) → n.at ≡ []
    → 3 * length n.items ≤ 3 * most + begun + 34)

-- The round went on from the key with the words `at` to the one with the words `to`, or to the end.
-- What it left on its way has not ended at the floor, nor does it end before the moment `passed`.
pub record HasGone (floor : Seconds) (items new : Observations) (at to : List ℕ) (passed : Seconds)
    : Type 0 where
  pub reclaimed : IsReclaimed floor items new
  pub fewer : (test : ObservationData → Bool) → count test new ≤ count test items
  pub come : (o : ObservationData) → Has new o → is_ahead at o ≡ true
      → (to ≡ []) ⊎ (is_ahead to o ≡ false) → (floor < expires o) × (passed ≤ expires o)

-- nothing in memory ends before the moment `soonest`, and nothing that the round came to before the
-- moment `passed`
pub record HasSoonest (soonest passed : Seconds) (at : List ℕ) (items : Observations) : Type 0 where
  pub all : NoneSooner soonest items
  pub come : (o : ObservationData) → Has items o → is_ahead at o ≡ false → passed ≤ expires o
