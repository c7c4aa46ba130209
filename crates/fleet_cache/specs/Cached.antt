-- What a cache holds of a set of observations. A set is a plain list, read by membership (`Has`).
-- Serves every call of `Cache`, and its laws.
use Rattle.std.specs.Prelude.{◌≡◌, ℕ, Bool, ◌≤◌, ◌⊎◌, slice_get, Some}
use Rattle.std.specs.declared.cmp.Ordering.{Ordering}
use Rattle.std.specs.Ordering.{ordering_then}
use Rattle.fleet_wire.specs.Types.{Seconds}
use Rattle.fleet_observe.specs.Members.{Has}
use Rattle.fleet_observe.specs.Observation.{ObservationData, AreObservations, expires, key_of, Observations}
use Rattle.fleet_observe.specs.Preference.{octets_cmp, preference}
use Rattle.fleet_front.specs.Front.{IsCovered as IsCoveredBy, is_covered as is_covered_by}
use Rattle.fleet_cache.specs.Front.{IsFront}
use Rattle.fleet_cache.specs.Void.{IsVoid}
use Rattle.fleet_cache.specs.Live.{live_of}
use Rattle.fleet_cache.specs.Dominates.{dominates}

-- the order of items: by key, and the preferred first within a key; what is greater comes first
abbrev pub item_order : ObservationData → ObservationData → Ordering
item_order x y = ordering_then (octets_cmp (key_of y) (key_of x)) (preference x y)

-- The items are what a cache holds of the lawful set s at the floor: of those members that are live then,
-- which have not ended by the floor and which no flush of s withdraws, the undominated ones, by key and
-- the preferred first.
pub record IsCached (s : Observations) (floor : Seconds) (items : Observations) : Type 0
  where
    pub lawful : AreObservations s
    pub front : IsFront item_order dominates (live_of s floor) items

-- what a cache holds: its floor, and its items in order
pub record CacheData : Type 0 where
  pub floor : Seconds
  pub items : Observations

-- o is one of the items, or one of them dominates it
abbrev pub IsCovered : Observations → ObservationData → Type 0
IsCovered items o = IsCoveredBy dominates items o

-- o is past for a cache: it has ended at the floor, or is void, as one of the items is a flush that
-- withdraws it
abbrev pub IsPast : Seconds → Observations → ObservationData → Type 0
IsPast floor items o = (expires o ≤ floor) ⊎ IsVoid items o

-- a cache need not take o in, and needs no memory for it: it is past, or is there already, or is
-- dominated
abbrev pub IsNeedless : Seconds → Observations → ObservationData → Type 0
IsNeedless floor items o = IsPast floor items o ⊎ IsCovered items o

-- the observation at this place of a list is to be held, and may need memory
abbrev pub IsNeededAt : Seconds → Observations → Observations → ℕ → Type 0
IsNeededAt floor items list at =
    (o : ObservationData) × (slice_get list at ≡ Some o) × ¬ IsNeedless floor items o

-- two lists have the same members, whatever their order and number: they are equal sets
pub record IsSameSet (s t : Observations) : Type 0 where
  pub into : (x : ObservationData) → Has s x → Has t x
  pub back : (x : ObservationData) → Has t x → Has s x

-- What follows, private contracts alone cite.

-- `IsCovered` as a test
abbrev pub is_covered : Observations → ObservationData → Bool
is_covered items o = is_covered_by preference dominates o items
