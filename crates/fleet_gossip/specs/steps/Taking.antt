-- Which observations of a frame are made, and how far they are taken.
-- Serves `take_frame`.
use Rattle.std.specs.Prelude.{◌≡◌, ℕ, suc, ◌+◌, ◌<◌, List, [], ◌∷◌, ◌++◌, length, take}
use Rattle.fleet_name.specs.Types.{OctetList}
use Rattle.fleet_observe.specs.Observation.{ObservationData, Observations}
use Rattle.fleet_cache.specs.Cached.{CacheData, IsNeededAt}
use Rattle.fleet_gossip.specs.Taken.{Takes, AnyUnheld}
use Rattle.fleet_gossip.specs.steps.Reading.{BeginsWithEntries}

-- the first one of a list that is made, and its place, where the list begins at a place: those before
-- it need not be taken in
pub record IsFirstMade (cache : CacheData) (at : ℕ) (list : Observations) (place : ℕ)
    (o : ObservationData) (rest : Observations) : Type 0 where
  pub held : Observations
  pub split : list ≡ held ++ o ∷ rest
  pub known : Takes cache cache held
  pub placed : place ≡ at + length held

-- some of a list, each with its place: the others need not be taken in
abbrev pub AreMade : CacheData → ℕ → Observations → List (ℕ × ObservationData) → Type 0
AreMade cache at list [] = Takes cache cache list
AreMade cache at list (first ∷ others) = (rest : Observations)
    × IsFirstMade cache at list first.0 first.1 rest × AreMade cache (suc first.0) rest others

-- some of the entries, each with its place: the others need not be taken in
pub record MakesEntries (octets : OctetList) (version count : ℕ) (cache : CacheData)
    (made : List (ℕ × ObservationData)) : Type 0 where
  pub list : Observations
  pub are : BeginsWithEntries octets version count list []
  pub are_made : AreMade cache 0 list made

-- one of the entries is neither past for a cache nor one of its items
pub record HasUnheld (octets : OctetList) (version count : ℕ) (cache : CacheData) : Type 0 where
  pub list : Observations
  pub are : BeginsWithEntries octets version count list []
  pub unheld : AnyUnheld cache list

-- the cache took the first `taken` of a list in, and still needs the next one
pub record TakesFirstOf (list : Observations) (before after : CacheData) (taken : ℕ) : Type 0 where
  pub within : taken < length list
  pub cached : Takes before after (take taken list)
  pub needed : IsNeededAt after.floor after.items list taken
