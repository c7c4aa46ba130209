-- What the values of an observation have to meet, and which check fails first.
-- Serves `Observation::positive`, `Observation::negative`, `is_rank_of`, `is_life_of`,
-- `is_type_of`, `is_count_of`, and what reads frames.
use Rattle.std.specs.Prelude.{◌≡◌, ℕ, ◌<◌, List, Option, Some, None, unwrap_or}
use Rattle.fleet_name.specs.Types.{Labels, OctetList}
use Rattle.fleet_wire.specs.Types.{RType, Seconds}
use Rattle.fleet_observe.specs.Body.{AreRdatas, IsDenial}
use Rattle.fleet_wire.specs.declared.rtype.TheConstants.{CNAME}
use Rattle.fleet_observe.specs.declared.rank.TheConstants.{ANSWER}
use Rattle.fleet_observe.specs.Observation.{IsRank, IsDenialRank, IsLife, IsDataType}
use Rattle.fleet_observe.specs.declared.bounds.TheConstants.{LONGEST_DENIAL, LONGEST_LIFE}
use Rattle.fleet_observe.specs.declared.observation.fault.ObservationFault.{ObservationFault}
use Rattle.fleet_observe.specs.declared.observation.fault.ObservationFault.TheVariants.{BadRank, BadLife, BadKind, BadBody}
use Rattle.fleet_observe.specs.declared.observation.kind.Kind.{Kind}
use Rattle.fleet_observe.specs.declared.observation.kind.Kind.TheVariants.{NameError, NoData, Positive, Flush}

-- a rank that a kind has: 1, 2 or 3, of a denial 1 or 3, and of a flush 3
abbrev pub IsRankOf : Kind → ℕ → Type 0
IsRankOf Positive rank = IsRank rank
IsRankOf NoData rank = IsDenialRank rank
IsRankOf NameError rank = IsDenialRank rank
IsRankOf Flush rank = rank ≡ ANSWER

-- a life that a kind has, in seconds: at most a day, of a denial at most three hours, and of a flush
-- just a day
abbrev pub IsLifeOf : Kind → Seconds → Type 0
IsLifeOf Positive life = IsLife LONGEST_LIFE life
IsLifeOf NoData life = IsLife LONGEST_DENIAL life
IsLifeOf NameError life = IsLife LONGEST_DENIAL life
IsLifeOf Flush life = life ≡ LONGEST_LIFE

-- a type that a kind has: 0 for a name error and a flush, which have none, else one that data can
-- have
abbrev pub IsTypeOf : Kind → RType → Type 0
IsTypeOf Positive rtype = IsDataType rtype
IsTypeOf NoData rtype = IsDataType rtype
IsTypeOf NameError rtype = rtype ≡ 0
IsTypeOf Flush rtype = rtype ≡ 0

-- how many RDATAs a type has: at least one, and an alias one alone (RFC 2181 10.1)
abbrev pub IsCountOf : RType → ℕ → Type 0
IsCountOf rtype count = (0 < count) × (rtype ≡ CNAME → count ≡ 1)

-- of the checks of rank, life, type and body the fault's is the first that fails
pub data IsFirstToFail (rank life rtype body : Type 0) (f : ObservationFault) : Type 0 where
  bad_rank : ¬ rank → f ≡ BadRank → IsFirstToFail rank life rtype body f
  bad_life : rank → ¬ life → f ≡ BadLife → IsFirstToFail rank life rtype body f
  bad_kind : rank → life → ¬ rtype → f ≡ BadKind → IsFirstToFail rank life rtype body f
  bad_body : rank → life → rtype → ¬ body → f ≡ BadBody → IsFirstToFail rank life rtype body f

-- the type of a denial: none for a name error, else that of the data that isn't there
abbrev pub IsDeniedType : Option RType → Type 0
IsDeniedType None = Unit {0}
IsDeniedType (Some rtype) = IsDataType rtype

-- the kind of a denial: a name error where no type is denied, else no data
abbrev pub denied_kind : Option RType → Kind
denied_kind None = NameError
denied_kind (Some rtype) = NoData

-- the type of a denial: 0 for a name error
abbrev pub denied_type : Option RType → RType
denied_type rtype = unwrap_or rtype 0

-- these values make a positive observation
pub record MakesPositive (rtype : RType) (rank : ℕ) (life : Seconds) (rdatas : List OctetList) : Type 0 where
  pub ranked : IsRank rank
  pub lasts : IsLife LONGEST_LIFE life
  pub typed : IsDataType rtype
  pub body : AreRdatas rtype rdatas

-- the fault of the first check of a positive observation that fails
abbrev pub IsPositiveFault : RType → ℕ → Seconds → List OctetList → ObservationFault → Type 0
IsPositiveFault rtype rank life rdatas =
    IsFirstToFail (IsRank rank) (IsLife LONGEST_LIFE life) (IsDataType rtype)
    (AreRdatas rtype rdatas)

-- these values make a negative observation
pub record MakesNegative (name : Labels) (rtype : Option RType) (rank : ℕ) (life : Seconds)
    (owner : Labels) (rdata : OctetList) : Type 0 where
  pub ranked : IsDenialRank rank
  pub lasts : IsLife LONGEST_DENIAL life
  pub typed : IsDeniedType rtype
  pub body : IsDenial name owner rdata

-- the fault of the first check of a negative observation that fails
abbrev pub IsNegativeFault : Labels → Option RType → ℕ → Seconds → Labels → OctetList
    → ObservationFault → Type 0
IsNegativeFault name rtype rank life owner rdata = IsFirstToFail (IsDenialRank rank)
    (IsLife LONGEST_DENIAL life) (IsDeniedType rtype) (IsDenial name owner rdata)
