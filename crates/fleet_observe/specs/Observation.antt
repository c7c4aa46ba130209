-- An observation as plain data.
-- Serves every call of `Observation`, law `one_key`.
use Rattle.std.specs.Prelude.{◌≡◌, ◌≢◌, ℕ, ◌+◌, ◌<◌, ◌≤◌, ◌⊎◌, List, [], ◌∷◌, ◌++◌}
use Rattle.fleet_name.specs.Types.{Labels, OctetList}
use Rattle.fleet_wire.specs.Types.{RType, Seconds}
use Rattle.fleet_name.specs.Name.{wire, IsName}
use Rattle.fleet_wire.specs.Number.{u16_octets}
use Rattle.fleet_observe.specs.Members.{Has}
use Rattle.fleet_observe.specs.Body.{IsPositiveBody, IsNegativeBody}
use Rattle.fleet_observe.specs.declared.rank.TheConstants.{OTHER, ANSWER}
use Rattle.fleet_observe.specs.declared.bounds.TheConstants.{LATEST, LONGEST_DENIAL, LONGEST_LIFE}
use Rattle.fleet_observe.specs.declared.observation.kind.Kind.{Kind}
use Rattle.fleet_observe.specs.declared.observation.kind.Kind.TheVariants.{NameError, NoData, Positive, Flush}

-- what was observed of a name: the kind, the name as its labels, the type, the body's octets, the
-- rank, the moment and the life in seconds
pub record ObservationData : Type 0 where
  pub kind : Kind
  pub name : Labels
  pub rtype : RType
  pub body : OctetList
  pub rank : ℕ
  pub stamp : Seconds
  pub life : Seconds

-- observations, in the order in which they came or are listed
abbrev pub Observations : Type 0
Observations = List ObservationData

-- the kinds by number, as keys and frames have them
abbrev pub kind_number : Kind → ℕ
kind_number NameError = 1
kind_number NoData = 2
kind_number Positive = 3
kind_number Flush = 4

-- a kind that denies: a name error or no data
abbrev pub IsNegativeKind : Kind → Type 0
IsNegativeKind kind = (kind ≡ NameError) ⊎ (kind ≡ NoData)

-- the moment at which an observation ends: its stamp and its life added
abbrev pub expires : ObservationData → Seconds
expires o = o.stamp + o.life

-- the octets of a key: the name in full, the kind's number, the type in two octets
abbrev pub key_at : Labels → Kind → RType → OctetList
key_at name kind rtype = wire name ++ kind_number kind ∷ u16_octets rtype

-- the key of an observation
abbrev pub key_of : ObservationData → OctetList
key_of o = key_at o.name o.kind o.rtype

-- a key is of one name, one kind and one type
abbrev pub OneKey : Type 0
OneKey = (n m : Labels) (k j : Kind) (r q : RType) → key_at n k r ≡ key_at m j q
    → (n ≡ m) × (k ≡ j) × (r ≡ q)

-- a rank: OTHER to ANSWER (after RFC 2181 5.4.1)
abbrev pub IsRank : ℕ → Type 0
IsRank rank = (OTHER ≤ rank) × (rank ≤ ANSWER)

-- a rank of a denial: OTHER or ANSWER (after RFC 2181 5.4.1)
abbrev pub IsDenialRank : ℕ → Type 0
IsDenialRank rank = (rank ≡ OTHER) ⊎ (rank ≡ ANSWER)

-- a life of one second to `most` seconds
abbrev pub IsLife : Seconds → Seconds → Type 0
IsLife most life = (1 ≤ life) × (life ≤ most)

-- a type that data can have: not 0, not OPT (41) and not one of 128 to 255 (RFC 6895 3.1)
pub record IsDataType (rtype : RType) : Type 0 where
  pub short : rtype < 65536
  pub some : rtype ≢ 0
  pub no_option : rtype ≢ 41
  pub no_meta : 128 ≤ rtype → rtype ≤ 255 → ⊥

-- what a positive observation is besides: its type and its body are those of data
pub record IsPositive (o : ObservationData) : Type 0 where
  pub typed : IsDataType o.rtype
  pub body : IsPositiveBody o.rtype o.body

-- what a negative observation is besides: its rank, its life and its body are those of a denial
pub record IsNegative (o : ObservationData) : Type 0 where
  pub rank : IsDenialRank o.rank
  pub life : IsLife LONGEST_DENIAL o.life
  pub body : IsNegativeBody o.name o.body

-- what a flush is besides: it has the greatest rank and the longest life, and an empty body
pub record IsFlush (o : ObservationData) : Type 0 where
  pub rank : o.rank ≡ ANSWER
  pub life : o.life ≡ LONGEST_LIFE
  pub untyped : o.rtype ≡ 0
  pub body : o.body ≡ []

-- the flush of a name at a moment: what was observed of the name, and of those below it, up to the
-- moment is withdrawn
abbrev pub flush_at : Labels → Seconds → ObservationData
flush_at name stamp = record {
  kind = Flush;
  name = name;
  rtype = 0;
  body = [];
  rank = ANSWER;
  stamp = stamp;
  life = LONGEST_LIFE;
}

-- what every observation of a program is
pub record IsObservation (o : ObservationData) : Type 0 where
  pub named : IsName o.name
  pub rank : IsRank o.rank
  pub stamped : o.stamp ≤ LATEST
  pub life : IsLife LONGEST_LIFE o.life
  pub positive : o.kind ≡ Positive → IsPositive o
  pub no_data : o.kind ≡ NoData → IsNegative o × IsDataType o.rtype
  pub name_error : o.kind ≡ NameError → IsNegative o × (o.rtype ≡ 0)
  pub flush : o.kind ≡ Flush → IsFlush o

-- every member of the list is an observation
abbrev pub AreObservations : Observations → Type 0
AreObservations s = (o : ObservationData) → Has s o → IsObservation o
