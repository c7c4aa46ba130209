-- What cuts the items of a name.
-- Serves the look-ups of `Cache::answer`, and those of flushes for `Cache::take` and `Cache::purge`.
use Rattle.std.specs.Prelude.{◌≡◌, Bool, not, Option, Some, None}
use Rattle.fleet_name.specs.Types.{Labels}
use Rattle.fleet_wire.specs.Types.{Seconds}
use Rattle.fleet_observe.specs.Members.{Has}
use Rattle.fleet_observe.specs.Observation.{ObservationData, IsObservation, Observations}
use Rattle.fleet_cache.specs.Live.{is_live}
use Rattle.fleet_cache.specs.Cut.{CutData, is_hidden}

-- the stamp of an observation, if there is one
abbrev pub stamp_of : Option ObservationData → Option Seconds
stamp_of None = None
stamp_of (Some o) = Some o.stamp

-- of the items of the name n, the cut shows just those that live
abbrev pub ShowsLiving : (ObservationData → Bool) → Observations → Labels → CutData
    → Type 0
ShowsLiving lives items n cut = (o : ObservationData) → Has items o → o.name ≡ n
    → is_hidden cut o ≡ not (lives o)

-- at the name n the cut hides what is not live in s at the moment t
abbrev pub IsCutAt : Observations → Seconds → Labels → CutData → Type 0
IsCutAt s t n cut = (o : ObservationData) → IsObservation o → o.name ≡ n
    → is_hidden cut o ≡ not (is_live s t o)
