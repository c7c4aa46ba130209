-- Why octets are no frame: the first fault, in reading order. The octets of each definition are
-- those that are left.
-- Serves `encode`, `decode`, `take_frame`, the laws `one_fault`, `list_or_fault`.
use Rattle.std.specs.Prelude.{◌≡◌, ℕ, ◌+◌, ◌<◌, ◌≤◌, ◌⊎◌, List, [], ◌∷◌, ◌++◌, length}
use Rattle.std.specs.List.{flat_map}
use Rattle.fleet_name.specs.Types.{Labels, OctetList}
use Rattle.fleet_wire.specs.Types.{RType}
use Rattle.fleet_name.specs.Name.{label_octets, wire, IsLower, IsName, IsUnder}
use Rattle.fleet_name.specs.declared.bounds.TheConstants.{LONGEST_LABEL, LONGEST_NAME}
use Rattle.fleet_wire.specs.Number.{u16_octets, u32_octets}
use Rattle.fleet_wire.specs.Shape.{IsPlain}
use Rattle.fleet_wire.specs.declared.rtype.TheConstants.{SOA}
use Rattle.fleet_observe.specs.Body.{octets_with_length}
use Rattle.fleet_observe.specs.Checks.{IsRankOf, IsLifeOf, IsTypeOf, IsCountOf}
use Rattle.fleet_observe.specs.Observation.{Observations}
use Rattle.fleet_observe.specs.declared.observation.kind.Kind.{Kind}
use Rattle.fleet_observe.specs.declared.observation.kind.Kind.TheVariants.{NameError, NoData, Positive, Flush}
use Rattle.fleet_gossip.specs.Entry.{octet, u64_octets, IsVersion, AreIn, IsKind, IsKindNumber, IsMoment, AreFirstRdatas}
use Rattle.fleet_gossip.specs.Frame.{entries, frame_octets}
use Rattle.fleet_gossip.specs.declared.frame.TheConstants.{MAGIC, VERSION}
use Rattle.fleet_gossip.specs.declared.fault.FrameFault.{FrameFault}
use Rattle.fleet_gossip.specs.declared.fault.FrameFault.TheVariants.{BadMagic, BadVersion, TooLong, Truncated, BadKind, BadRank, BadMoment, BadLife, BadName, BadBody, Trailing}
use Rattle.fleet_gossip.specs.declared.bounds.TheConstants.{LONGEST_FRAME}

-- The first fault of a number and of what follows it: some of its octets are missing; it is not
-- lawful; or it is lawful, and the fault is in what follows it.
pub data FieldFails (spelled : ℕ → OctetList) (size : ℕ) (Lawful : ℕ → Type 0) (refusal : FrameFault)
    (Behind : ℕ → OctetList → FrameFault → Type 0) (octets : OctetList) (f : FrameFault) : Type 0 where
  cut : length octets < size → f ≡ Truncated
      → FieldFails spelled size Lawful refusal Behind octets f
  refused : (number : ℕ) (rest : OctetList) → octets ≡ spelled number ++ rest → (Lawful number → ⊥)
      → f ≡ refusal
      → FieldFails spelled size Lawful refusal Behind octets f
  behind : (number : ℕ) (rest : OctetList) → octets ≡ spelled number ++ rest → Lawful number
      → Behind number rest f
      → FieldFails spelled size Lawful refusal Behind octets f

-- each number is lawful: none is refused
abbrev pub AnyNumber : ℕ → Type 0
AnyNumber n = Unit {0}

-- the first fault of `size` octets: some are missing, or they are not lawful there
pub data OctetsFail (Lawful : OctetList → Type 0) (refusal : FrameFault) (size : ℕ)
    (octets : OctetList) (f : FrameFault) : Type 0 where
  cut_octets : length octets < size → f ≡ Truncated → OctetsFail Lawful refusal size octets f
  refused_octets : (taken rest : OctetList) → octets ≡ taken ++ rest → length taken ≡ size
      → (Lawful taken → ⊥)
      → f ≡ refusal
      → OctetsFail Lawful refusal size octets f

-- a label of `size` octets may follow these labels: it has 1 to LONGEST_LABEL octets, and the name with
-- its zero octet at most LONGEST_NAME (RFC 1035 2.3.4)
pub record IsRoom (before : Labels) (size : ℕ) : Type 0 where
  pub some : 0 < size
  pub short : size ≤ LONGEST_LABEL
  pub fits : length (wire before) + size + 1 ≤ LONGEST_NAME

-- a length octet that may follow these labels: the zero octet, or that of a label with room
abbrev pub IsLengthOctet : Labels → ℕ → Type 0
IsLengthOctet before size = 0 < size → IsRoom before size

-- The first fault of the label that follows others, or of the zero octet: of its length octet,
-- where it is too long, or the name is; or of its octets, where one is a capital letter.
abbrev pub LabelFails : FrameFault → Labels → OctetList → FrameFault → Type 0
LabelFails refusal before =
    FieldFails octet 1 (IsLengthOctet before) refusal (OctetsFail IsLower refusal)

-- the first fault of a name: after the labels of one, the next fails
pub data FrameNameFails (refusal : FrameFault) (octets : OctetList) (f : FrameFault) : Type 0 where
  label_fails : (before : Labels) (rest : OctetList)
      → octets ≡ flat_map label_octets before ++ rest
      → IsName before → LabelFails refusal before rest f
      → FrameNameFails refusal octets f

-- the first fault of RDATA after its length
abbrev pub SizedFails : (OctetList → Type 0) → OctetList → FrameFault → Type 0
SizedFails Lawful = FieldFails u16_octets 2 AnyNumber Truncated (OctetsFail Lawful BadBody)

-- the first fault of `count` RDATAs: after fewer of them, the next fails
pub data RdatasFail (rtype : RType) (count : ℕ) (octets : OctetList) (f : FrameFault) : Type 0 where
  rdata_fails : (before : List OctetList) (rest : OctetList)
      → octets ≡ flat_map octets_with_length before ++ rest
      → AreFirstRdatas rtype before → length before < count
      → SizedFails (λ rdata. AreFirstRdatas rtype (before ++ rdata ∷ [])) rest f
      → RdatasFail rtype count octets f

-- the first fault of a positive body: of its count, or of that many RDATAs
abbrev pub PositiveFails : RType → OctetList → FrameFault → Type 0
PositiveFails rtype = FieldFails u16_octets 2 (IsCountOf rtype) BadBody (RdatasFail rtype)

-- The first fault of a negative body: of the SOA's owner, that this is neither the name nor an
-- ancestor of it, or of the SOA's RDATA.
pub data NegativeFails (name : Labels) (octets : OctetList) (f : FrameFault) : Type 0 where
  owner_fails : FrameNameFails BadBody octets f → NegativeFails name octets f
  stranger : (owner : Labels) (rest : OctetList) → octets ≡ wire owner ++ rest → IsName owner
      → (IsUnder name owner → ⊥) → f ≡ BadBody
      → NegativeFails name octets f
  soa_fails : (owner : Labels) (rest : OctetList) → octets ≡ wire owner ++ rest → IsName owner
      → IsUnder name owner → SizedFails (IsPlain SOA) rest f
      → NegativeFails name octets f

-- the first fault of a body, by kind; the body of a flush is empty, and has none
abbrev pub BodyFails : Kind → Labels → RType → OctetList → FrameFault → Type 0
BodyFails Positive name rtype = PositiveFails rtype
BodyFails NoData name rtype = NegativeFails name
BodyFails NameError name rtype = NegativeFails name
BodyFails Flush name rtype = λ octets f. ⊥

-- the first fault of a name and of what follows it: the name fails, or it is one and what follows
-- it fails
pub data NameFieldFails (refusal : FrameFault)
    (Behind : Labels → OctetList → FrameFault → Type 0) (octets : OctetList) (f : FrameFault)
    : Type 0 where
  name_fails : FrameNameFails refusal octets f → NameFieldFails refusal Behind octets f
  behind_name : (name : Labels) (rest : OctetList) → octets ≡ wire name ++ rest → IsName name
      → Behind name rest f
      → NameFieldFails refusal Behind octets f

-- the kind of a number, and what fails after it
abbrev pub KindOf : (Kind → OctetList → FrameFault → Type 0) → ℕ → OctetList → FrameFault → Type 0
KindOf Behind number octets f = (kind : Kind) × IsKind number kind × Behind kind octets f

-- The first fault of an entry. It has a line for each field, in reading order: how it is spelled, in how
-- many octets, what is lawful, the fault if it is not, and the name that later lines use. A type that the
-- kind does not have is `BadKind`, after the name.
-- The lemmas call these lines by the names in proofs/EntryLines.antt.
abbrev pub EntryFails : ℕ → OctetList → FrameFault → Type 0
EntryFails version =
    FieldFails octet 1 (IsKindNumber version) BadKind (KindOf (λ kind.
    FieldFails octet 1 (IsRankOf kind) BadRank (λ rank.
    FieldFails u64_octets 8 IsMoment BadMoment (λ stamp.
    FieldFails u32_octets 4 (IsLifeOf kind) BadLife (λ life.
    NameFieldFails BadName (λ name.
    FieldFails u16_octets 2 (IsTypeOf kind) BadKind (λ rtype.
    BodyFails kind name rtype)))))))

-- the first fault of `count` entries: after fewer of them the next fails, or octets follow them all
pub data EntriesFail (version count : ℕ) (octets : OctetList) (f : FrameFault) : Type 0 where
  entry_fails : (list : Observations) (rest : OctetList) → octets ≡ entries list ++ rest
      → AreIn version list
      → length list < count → EntryFails version rest f
      → EntriesFail version count octets f
  more_octets : (list : Observations) (rest : OctetList) → octets ≡ entries list ++ rest
      → AreIn version list
      → length list ≡ count → 0 < length rest → f ≡ Trailing
      → EntriesFail version count octets f

-- the first fault of a frame's fields, a line for each as for an entry
abbrev pub FrameFieldsFail : OctetList → FrameFault → Type 0
FrameFieldsFail =
    FieldFails u16_octets 2 (λ magic. magic ≡ MAGIC) BadMagic (λ magic.
    FieldFails octet 1 IsVersion BadVersion (λ version.
    FieldFails u16_octets 2 AnyNumber Truncated (λ count.
    EntriesFail version count)))

-- the first fault of a frame: the whole is too long, or a field fails
abbrev pub FrameFails : OctetList → FrameFault → Type 0
FrameFails octets f =
    ((LONGEST_FRAME < length octets) × (f ≡ TooLong))
    ⊎ ((length octets ≤ LONGEST_FRAME) × FrameFieldsFail octets f)

-- these observations would make too long a frame in the version that is written
abbrev pub IsTooLong : Observations → FrameFault → Type 0
IsTooLong list f = (f ≡ TooLong) × (LONGEST_FRAME < length (frame_octets VERSION list))
