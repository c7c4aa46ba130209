use Rattle.std.proofs.Common.{◌≤◌, ◌⊎◌, drop}
use Rattle.fleet_observe.specs.Members.{Has}
use Rattle.fleet_observe.specs.Observation.{ObservationData, expires}
use Rattle.fleet_cache.proofs.slot.soonest_of.Given as goal

-- each item lies from the index on, or does not end sooner
abbrev pub invariant-loop-item : goal.invariant-loop-item
invariant-loop-item g l = (o : ObservationData) → Has l.items o
    → Has (drop l.item-index l.items) o ⊎ (l.soonest ≤ expires o)
