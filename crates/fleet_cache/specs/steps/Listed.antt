-- The fronts that a map has after a key.
-- Serves `Cache::purge` and `Cache::take`, where they go on from there.
use Rattle.std.specs.Prelude.{◌≡◌, ℕ, false, List, ◌<◌, length}
use Rattle.std.specs.declared.cmp.Ordering.TheVariants.{Less}
use Rattle.fleet_observe.specs.Members.{Has}
use Rattle.fleet_observe.specs.Observation.{ObservationData, Observations}
use Rattle.fleet_observe.specs.Preference.{octets_cmp}
use Rattle.fleet_cache.specs.declared.words.TheConstants.{SHORT_WORDS}
use Rattle.fleet_cache.specs.Front.{IsDescending}
use Rattle.fleet_cache.specs.steps.Keyed.{IsOfKey}
use Rattle.fleet_cache.specs.steps.Packed.{words_of}
use Rattle.fleet_cache.specs.steps.Slots.{is_nil}

-- the fronts of the names with such words, each with its key, in the order of the keys: of each of
-- these names that has items
pub record ListsFronts {K : Type 0} (words : K → List ℕ) (items : Observations)
    (IsSuch : List ℕ → Type 0) (es : List (K × Observations)) : Type 0 where
  pub of_key : (e : K × Observations) → Has es e → IsOfKey items (words e.0) e.1
  pub some : (e : K × Observations) → Has es e → is_nil e.1 ≡ false
  pub such : (e : K × Observations) → Has es e → IsSuch (words e.0)
  pub whole : (o : ObservationData) → Has items o → IsSuch (words_of o)
      → (e : K × Observations) × Has es e × Has e.1 o
  pub ascending : IsDescending (λ (a b : K × Observations). octets_cmp (words b.0) (words a.0)) es

-- the words w are those of a short name, and after the words c, if these are of one too
abbrev pub IsShortAfter : List ℕ → List ℕ → Type 0
IsShortAfter c w = (length w ≡ SHORT_WORDS) × (length c ≡ SHORT_WORDS → octets_cmp c w ≡ Less)

-- the words w are those of a name that is not short, and after the words c
abbrev pub IsLongAfter : List ℕ → List ℕ → Type 0
IsLongAfter c w = (SHORT_WORDS < length w) × (octets_cmp c w ≡ Less)
