-- When the first of what is held of a name ends.
-- Serves `Cache::purge` and `Cache::take`, where they look for what has ended.
use Rattle.std.specs.Prelude.{◌≤◌}
use Rattle.fleet_wire.specs.Types.{Seconds}
use Rattle.fleet_observe.specs.Members.{Has}
use Rattle.fleet_observe.specs.Observation.{ObservationData, Observations, expires}

-- none of the items ends before this moment
abbrev pub NoneSooner : Seconds → Observations → Type 0
NoneSooner soonest items = (o : ObservationData) → Has items o → soonest ≤ expires o
