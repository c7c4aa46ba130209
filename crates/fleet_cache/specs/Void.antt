-- What a flush withdraws: all at its name or below that is stamped no later, whether it came in before
-- the flush or comes in after it.
-- Serves every call of `Cache`, law `tests_hold`.
use Rattle.std.specs.Prelude.{◌≡◌, ◌≢◌, ◌≤◌, Bool, true, false, ◌&&◌, not, nat_le}
use Rattle.std.specs.List.{list_any}
use Rattle.fleet_name.specs.Name.{IsUnder}
use Rattle.fleet_observe.specs.declared.observation.kind.Kind.{Kind}
use Rattle.fleet_observe.specs.declared.observation.kind.Kind.TheVariants.{NameError, NoData, Positive, Flush}
use Rattle.fleet_observe.specs.Members.{Has}
use Rattle.fleet_observe.specs.Observation.{ObservationData, Observations}
use Rattle.fleet_cache.specs.Relevant.{is_under}

-- f withdraws o: f is a flush of the name of o or of one above it, o is no flush, and o was stamped no
-- later than f. Whether f has ended is not asked: a flush has the longest life, a day
-- (`LONGEST_LIFE`), so what it withdraws ends no later
pub record Voids (f o : ObservationData) : Type 0 where
  pub flush : f.kind ≡ Flush
  pub other : o.kind ≢ Flush
  pub under : IsUnder o.name f.name
  pub later : o.stamp ≤ f.stamp

-- o is void in s: a flush of s withdraws it
abbrev pub IsVoid : Observations → ObservationData → Type 0
IsVoid s o = (f : ObservationData) × Has s f × Voids f o

-- whether a kind is that of flushes
abbrev pub is_flush : Kind → Bool
is_flush NameError = false
is_flush NoData = false
is_flush Positive = false
is_flush Flush = true

-- `Voids` as a test
abbrev pub voids : ObservationData → ObservationData → Bool
voids f o =
    is_flush f.kind
    && (not (is_flush o.kind) && (is_under o.name f.name && nat_le o.stamp f.stamp))

-- `IsVoid` as a test
abbrev pub is_void : Observations → ObservationData → Bool
is_void s o = list_any (λ f. voids f o) s
