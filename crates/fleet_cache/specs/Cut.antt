-- What hides observations of a name.
-- Serves `Cut::at`, and what `Cache::answer`, `Cache::take` and `Cache::purge` pass over or drop.
use Rattle.std.specs.Prelude.{Bool, false, not, ◌&&◌, ◌||◌, nat_le, Option, Some, None}
use Rattle.fleet_wire.specs.Types.{Seconds}
use Rattle.fleet_observe.specs.Observation.{ObservationData}
use Rattle.fleet_cache.specs.Void.{is_flush}
use Rattle.fleet_cache.specs.Live.{has_ended}

-- what hides observations of a name: a moment by which they have ended, and the greatest stamp of the
-- flushes at the name and above it, if there are any
pub record CutData : Type 0 where
  pub moment : Seconds
  pub flushed : Option Seconds

-- o is no flush, and was not stamped after this; where there is no stamp, nothing is
abbrev pub is_flushed : Option Seconds → ObservationData → Bool
is_flushed None o = false
is_flushed (Some stamp) o = not (is_flush o.kind) && nat_le o.stamp stamp

-- the cut hides o: o is withdrawn, or has ended
abbrev pub is_hidden : CutData → ObservationData → Bool
is_hidden cut o = is_flushed cut.flushed o || has_ended cut.moment o
