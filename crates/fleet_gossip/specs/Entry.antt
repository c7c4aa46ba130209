-- An entry of a frame: one observation. All numbers are big-endian, all names in lower case and in
-- full.
-- Serves `encode`, `decode`, `take_frame`, `pack`, `sweep`, and every law of frames.
use Rattle.std.specs.Prelude.{◌≡◌, ℕ, ◌/◌, ◌%◌, ◌≤◌, List, [], ◌∷◌, ◌++◌}
use Rattle.fleet_name.specs.Types.{Labels, OctetList}
use Rattle.fleet_wire.specs.Types.{RType, Seconds}
use Rattle.fleet_name.specs.Name.{wire}
use Rattle.fleet_wire.specs.Number.{u16_octets, u32_octets}
use Rattle.fleet_observe.specs.Members.{Has, IsAscending}
use Rattle.fleet_observe.specs.Body.{IsPositiveBody, IsNegativeBody, AreAllPlain, HaveShortBody}
use Rattle.fleet_observe.specs.Observation.{ObservationData, IsObservation, kind_number, Observations}
use Rattle.fleet_observe.specs.declared.bounds.TheConstants.{LATEST}
use Rattle.fleet_observe.specs.declared.observation.kind.Kind.{Kind}
use Rattle.fleet_observe.specs.declared.observation.kind.Kind.TheVariants.{NameError, NoData, Positive, Flush}
use Rattle.fleet_gossip.specs.declared.frame.TheConstants.{OLDEST_VERSION, VERSION, FLUSH_VERSION}

-- a number of one octet
abbrev pub octet : ℕ → OctetList
octet n = n ∷ []

-- a number of eight octets, the highest first
abbrev pub u64_octets : ℕ → OctetList
u64_octets n = u32_octets (n / 4294967296) ++ u32_octets (n % 4294967296)

-- the octets of an observation in a frame: kind 1, rank 1, stamp 8, life 4 octets, the name in full
-- (RFC 1035 3.1), type 2 octets, the body
abbrev pub entry_octets : ObservationData → OctetList
entry_octets o =
    octet (kind_number o.kind)
    ++ (octet o.rank
    ++ (u64_octets o.stamp
    ++ (u32_octets o.life ++ (wire o.name ++ (u16_octets o.rtype ++ o.body)))))

-- the versions that are read: from `OLDEST_VERSION` to `VERSION`
abbrev pub IsVersion : ℕ → Type 0
IsVersion version = (OLDEST_VERSION ≤ version) × (version ≤ VERSION)

-- the kinds that entries of a version have: a flush from FLUSH_VERSION on, the others always
abbrev pub IsKindIn : ℕ → Kind → Type 0
IsKindIn version Positive = Unit {0}
IsKindIn version NoData = Unit {0}
IsKindIn version NameError = Unit {0}
IsKindIn version Flush = FLUSH_VERSION ≤ version

-- an observation that a frame of the version may have
abbrev pub IsIn : ℕ → ObservationData → Type 0
IsIn version o = IsObservation o × IsKindIn version o.kind

-- observations that a frame of the version may have
abbrev pub AreIn : ℕ → Observations → Type 0
AreIn version list = (o : ObservationData) → Has list o → IsIn version o

-- the number is that of the kind
abbrev pub IsKind : ℕ → Kind → Type 0
IsKind number kind = number ≡ kind_number kind

-- a number that a kind of the version has
abbrev pub IsKindNumber : ℕ → ℕ → Type 0
IsKindNumber version number = (kind : Kind) × IsKind number kind × IsKindIn version kind

-- a moment, in seconds: at most `LATEST`
abbrev pub IsMoment : Seconds → Type 0
IsMoment moment = moment ≤ LATEST

-- RDATAs with which a lawful list of the type may begin
pub record AreFirstRdatas (rtype : RType) (rdatas : List OctetList) : Type 0 where
  pub ascending : IsAscending rdatas
  pub plain : AreAllPlain rtype rdatas
  pub short : HaveShortBody rdatas

-- What follows, private contracts alone cite.

-- octets that are a body of the kind, of an observation of the name and the type
abbrev pub AreBodyOctets : Kind → Labels → RType → OctetList → Type 0
AreBodyOctets Positive name rtype body = IsPositiveBody rtype body
AreBodyOctets NoData name rtype body = IsNegativeBody name body
AreBodyOctets NameError name rtype body = IsNegativeBody name body
AreBodyOctets Flush name rtype body = body ≡ []
