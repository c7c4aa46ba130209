-- What a cache holds in memory: what it shows, and also what is not live any more and was not yet
-- dropped.
-- Serves the map below `Cache`, and the laws `keys_hold_few`, `memory_follows` and `memory_falls`.
use Rattle.std.specs.Prelude.{◌≡◌, ◌+◌, ◌≤◌, Bool, false, ◌↔◌, ◌∷◌, length}
use Rattle.std.specs.List.{filter}
use Rattle.fleet_observe.specs.Observation.{ObservationData, AreObservations, IsNegativeKind, Observations}
use Rattle.fleet_cache.specs.Front.{IsFront}
use Rattle.fleet_cache.specs.Dominates.{dominates, is_same_key}
use Rattle.fleet_cache.specs.Cached.{item_order, IsCovered}

-- observations in order, none of them dominated by another
pub record IsHeld (items : Observations) : Type 0 where
  pub lawful : AreObservations items
  pub front : IsFront item_order dominates items items

-- in memory, too, what is not held any more included, of those with one key there are 129,600 at most,
-- and of those that deny 10,800
abbrev pub MemoryHoldsFew : Type 0
MemoryHoldsFew = (items : Observations) (p : ObservationData) → IsHeld items
    → (length (filter (is_same_key p) items) ≤ 129600)
    × (IsNegativeKind p.kind → length (filter (is_same_key p) items) ≤ 10800)

-- x was taken in beside what was held; it was not kept where it was there or is dominated
pub record IsTaken (items new : Observations) (x : ObservationData) (kept : Bool) : Type 0
  where
    pub front : IsFront item_order dominates (x ∷ items) new
    pub size : length new ≤ length items + 1
    pub needless : (kept ≡ false) ↔ IsCovered items x
