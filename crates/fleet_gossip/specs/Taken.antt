-- What a cache takes of a frame.
-- Serves `take_frame`.
use Rattle.std.specs.Prelude.{◌≡◌, ℕ, ◌<◌, ◌⊎◌, ◌++◌, length, take}
use Rattle.fleet_name.specs.Types.{OctetList}
use Rattle.fleet_observe.specs.Members.{Has}
use Rattle.fleet_observe.specs.Observation.{ObservationData, Observations}
use Rattle.fleet_cache.specs.Cached.{CacheData, IsCached, IsPast, IsNeededAt}
use Rattle.fleet_gossip.specs.Frame.{SpellsFrame}
use Rattle.fleet_gossip.specs.Faults.{FrameFails}
use Rattle.fleet_gossip.specs.declared.fault.FrameFault.{FrameFault}
use Rattle.fleet_gossip.specs.declared.take.TakeFault.{TakeFault}
use Rattle.fleet_gossip.specs.declared.take.TakeFault.TheVariants.{Refused, OutOfMemory}

-- the cache took these observations in: it is then the cache of each set that it was of before, with
-- them
abbrev pub Takes : CacheData → CacheData → Observations → Type 0
Takes before after list = (s : Observations) → IsCached s before.floor before.items
    → IsCached (list ++ s) after.floor after.items

-- the octets are the frame of a list of `count` observations, and the cache took them all in
pub record TakesFrame (octets : OctetList) (before after : CacheData) (count : ℕ) : Type 0 where
  pub list : Observations
  pub spelled : SpellsFrame octets list
  pub counted : count ≡ length list
  pub cached : Takes before after list

-- o needs no copy: it is past for the cache, or is one of its items
abbrev pub IsPassedOver : CacheData → ObservationData → Type 0
IsPassedOver cache o = IsPast cache.floor cache.items o ⊎ Has cache.items o

-- one of a list is neither past for a cache nor one of its items
abbrev pub AnyUnheld : CacheData → Observations → Type 0
AnyUnheld cache list = (o : ObservationData) × Has list o × ¬ IsPassedOver cache o

-- the octets are the frame of a list, one of which is neither past nor an item, and the cache took
-- none in: it is as it was
pub record TakesNone (octets : OctetList) (before after : CacheData) (taken : ℕ) : Type 0 where
  pub list : Observations
  pub spelled : SpellsFrame octets list
  pub none : taken ≡ 0
  pub same : after ≡ before
  pub unheld : AnyUnheld before list

-- the octets are the frame of a list, and the cache took its first `taken` observations in; the next
-- one it still needs: as it is left, that one is not past for it, not there and not dominated
pub record TakesFirst (octets : OctetList) (before after : CacheData) (taken : ℕ) : Type 0 where
  pub list : Observations
  pub spelled : SpellsFrame octets list
  pub within : taken < length list
  pub cached : Takes before after (take taken list)
  pub needed : IsNeededAt after.floor after.items list taken

-- the octets are no frame, for this fault, and the cache is as it was
pub record RefusesFrame (octets : OctetList) (before after : CacheData) (f : FrameFault) : Type 0
  where
    pub fault : FrameFails octets f
    pub unspelled : (list : Observations) → ¬ SpellsFrame octets list
    pub same : after ≡ before

-- why a frame was not taken whole: it is refused, or memory ran out, either before any was taken or
-- after the first ones
abbrev pub StopsAt : OctetList → CacheData → CacheData → TakeFault → Type 0
StopsAt octets before after (Refused f) = RefusesFrame octets before after f
StopsAt octets before after (OutOfMemory taken) =
    TakesNone octets before after taken ⊎ TakesFirst octets before after taken
