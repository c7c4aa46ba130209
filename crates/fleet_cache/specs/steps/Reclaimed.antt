-- What reclaiming does to what is held.
-- Serves `Cache::purge` and `Cache::take`, where they free memory, and the laws `memory_follows` and
-- `memory_falls`.
use Rattle.std.specs.Prelude.{◌≡◌, ◌⊎◌, ℕ, Bool, true, false, not, if◌then◌else◌, nat_eq, nat_lt, List, [], ◌∷◌, ◌<◌, ◌≤◌, length}
use Rattle.std.specs.declared.cmp.Ordering.TheVariants.{Less}
use Rattle.std.specs.List.{filter}
use Rattle.fleet_wire.specs.Types.{Seconds}
use Rattle.fleet_observe.specs.Members.{Has}
use Rattle.fleet_observe.specs.Observation.{ObservationData, Observations, expires}
use Rattle.fleet_observe.specs.Preference.{octets_cmp}
use Rattle.fleet_cache.specs.declared.words.TheConstants.{SHORT_WORDS}
use Rattle.fleet_cache.specs.Live.{is_live, live_of}
use Rattle.fleet_cache.specs.Cut.{CutData, is_hidden}
use Rattle.fleet_cache.specs.steps.Packed.{words_of}

-- of the items, none was dropped of those that live
pub record IsThinned (lives : ObservationData → Bool) (items rest : Observations) : Type 0
  where
    pub live_still : filter lives rest ≡ filter lives items
    pub of_items : (x : ObservationData) → Has rest x → Has items x
    pub size : length rest ≤ length items

-- of the items, none was dropped but what is not live at the moment m
pub record IsReclaimed (m : Seconds) (items rest : Observations) : Type 0 where
  pub live_still : live_of rest m ≡ live_of items m
  pub of_items : (x : ObservationData) → Has rest x → Has items x
  pub size : length rest ≤ length items

-- For every test of what lives: if the cut hides exactly those items of the name with these words
-- that fail the test, then no item that passes it was dropped.
abbrev pub IsTrimmed : List ℕ → CutData → Observations → Observations → Type 0
IsTrimmed words cut items rest = (lives : ObservationData → Bool)
    → ((o : ObservationData) → Has items o → words_of o ≡ words → is_hidden cut o ≡ not (lives o))
    → IsThinned lives items rest

-- the cut hides none of the items of the name with these words
abbrev pub IsCleared : List ℕ → CutData → Observations → Type 0
IsCleared words cut items =
    (o : ObservationData) → Has items o → words_of o ≡ words → is_hidden cut o ≡ false

-- what is left of the name with these words lives at the moment m, as the items say
abbrev pub AllLive : List ℕ → Seconds → Observations → Observations → Type 0
AllLive words m items rest =
    (o : ObservationData) → Has rest o → words_of o ≡ words → is_live items m o ≡ true

-- each item of a front lives at the moment m, as the items say
abbrev pub IsLiveFront : Seconds → Observations → Observations → Type 0
IsLiveFront m items front = (o : ObservationData) → Has front o → is_live items m o ≡ true

-- Where a purge or a round comes to a name, by the words of its key: short names come first. Fewer
-- words than a key has are the start.
abbrev pub turn : List ℕ → List ℕ
turn words = if nat_lt (length words) SHORT_WORDS then []
    else if nat_eq (length words) SHORT_WORDS then 0 ∷ words else 1 ∷ words

-- the name with the words v comes before the one with the words w
abbrev pub ComesBefore : List ℕ → List ℕ → Type 0
ComesBefore v w = octets_cmp (turn v) (turn w) ≡ Less

-- o is not to drop at the moment m, as the items say: it has not ended, and with `flushes` it lives;
-- and it does not end before the moment `soonest`
pub record StaysIn (items : Observations) (m : Seconds) (flushes : Bool) (soonest : Seconds)
    (o : ObservationData) : Type 0 where
  pub unended : m < expires o
  pub live : flushes ≡ true → is_live items m o ≡ true
  pub not_before : soonest ≤ expires o

-- Each item of the names after `from` and before `to` is such a one. Where `to` has no words, so is
-- each item of all names after `from`.
abbrev pub IsPassed : (ObservationData → Type 0) → Observations → List ℕ → List ℕ → Type 0
IsPassed IsSuch items from to = (o : ObservationData) → Has items o → ComesBefore from (words_of o)
    → (to ≡ []) ⊎ ComesBefore (words_of o) to → IsSuch o

-- each item of the name with these words is such a one
abbrev pub IsPassedAt : (ObservationData → Type 0) → Observations → List ℕ → Type 0
IsPassedAt IsSuch items words = (o : ObservationData) → Has items o → words_of o ≡ words → IsSuch o

-- a cursor at `to` is back at the start, or at a name after `from` that has items
abbrev pub StopsAfter : Observations → List ℕ → List ℕ → Type 0
StopsAfter items from to = (to ≡ [])
    ⊎ ((o : ObservationData) × Has items o × (words_of o ≡ to) × ComesBefore from to)
