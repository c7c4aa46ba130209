-- What the steps of reading find, and how long a frame is.
-- Serves the readers of `decode` and `take_frame`, and `encode`.
use Rattle.std.specs.Prelude.{◌≡◌, ℕ, ◌<◌, ◌≤◌, List, [], ◌∷◌, ◌++◌, length}
use Rattle.fleet_observe.specs.declared.observation.kind.Kind.{Kind}
use Rattle.std.specs.declared.cmp.Ordering.TheVariants.{Less}
use Rattle.std.specs.List.{flat_map}
use Rattle.std.specs.Ordering.{nat_cmp}
use Rattle.std.specs.Cmp.Lexicographic.{slice_cmp}
use Rattle.fleet_name.specs.Types.{Label, Labels, OctetList}
use Rattle.fleet_wire.specs.Types.{RType}
use Rattle.fleet_name.specs.Name.{label_octets as framed, wire, IsLower, IsName, IsUnder}
use Rattle.fleet_wire.specs.Number.{u16_octets, u32_octets}
use Rattle.fleet_observe.specs.Body.{octets_with_length, positive_body, negative_body}
use Rattle.fleet_observe.specs.Checks.{IsRankOf, IsLifeOf}
use Rattle.fleet_observe.specs.Observation.{AreObservations, kind_number, Observations}
use Rattle.fleet_gossip.specs.Entry.{octet, u64_octets, IsVersion, IsKindIn, AreIn, IsMoment, AreFirstRdatas}
use Rattle.fleet_gossip.specs.Frame.{entries, frame_octets}
use Rattle.fleet_gossip.specs.declared.frame.TheConstants.{MAGIC, VERSION}
use Rattle.fleet_gossip.specs.Faults.{FieldFails, IsRoom}
use Rattle.fleet_gossip.specs.declared.fault.FrameFault.{FrameFault}
use Rattle.fleet_gossip.specs.declared.fault.FrameFault.TheVariants.{Truncated}
use Rattle.fleet_gossip.specs.declared.head.Head.{Head}
use Rattle.fleet_gossip.specs.declared.bounds.TheConstants.{LONGEST_FRAME}

-- a lawful number is at the front of octets, and the rest follows it
pub record IsField (spelled : ℕ → OctetList) (Lawful : ℕ → Type 0) (octets : OctetList) (number : ℕ)
    (rest : OctetList) : Type 0 where
  pub whole : octets ≡ spelled number ++ rest
  pub lawful : Lawful number

-- nothing follows that could fail
abbrev pub Nothing : ℕ → OctetList → FrameFault → Type 0
Nothing number rest f = ⊥

-- no such number is there, by its own fault: it is cut off or refused
abbrev pub NoField : (ℕ → OctetList) → ℕ → (ℕ → Type 0) → FrameFault → OctetList → FrameFault → Type 0
NoField spelled size Lawful refusal = FieldFails spelled size Lawful refusal Nothing

-- fewer than `size` octets are left
abbrev pub AreMissing : ℕ → OctetList → FrameFault → Type 0
AreMissing size octets f = (length octets < size) × (f ≡ Truncated)

-- `size` octets are at the front, and the rest follows them
pub record IsSplitAfter (octets : OctetList) (size : ℕ) (taken rest : OctetList) : Type 0 where
  pub whole : octets ≡ taken ++ rest
  pub counted : length taken ≡ size

-- the number of a kind that the version has is at the front, and the rest follows it
pub record IsKindAt (version : ℕ) (octets : OctetList) (kind : Kind) (rest : OctetList) : Type 0 where
  pub whole : octets ≡ octet (kind_number kind) ++ rest
  pub known : IsKindIn version kind

-- an entry of the version may begin with these numbers
pub record IsLawfulHead (version : ℕ) (head : Head) : Type 0 where
  pub kind : IsKindIn version head.kind
  pub rank : IsRankOf head.kind head.rank
  pub stamp : IsMoment head.stamp
  pub life : IsLifeOf head.kind head.life

-- the first numbers of an entry are at the front, and the rest follows them
pub record IsHead (version : ℕ) (octets : OctetList) (head : Head) (rest : OctetList) : Type 0 where
  pub whole : octets
      ≡ octet (kind_number head.kind)
      ++ (octet head.rank ++ (u64_octets head.stamp ++ (u32_octets head.life ++ rest)))
  pub lawful : IsLawfulHead version head

-- a label is at the front, or the zero octet that ends a name, and the rest follows it
pub record IsLabelAt (before : Labels) (octets : OctetList) (label : Label) (rest : OctetList) : Type 0 where
  pub whole : octets ≡ framed label ++ rest
  pub room : 0 < length label → IsRoom before (length label)
  pub low : IsLower label

-- lawful octets are at the front, and the rest follows them
pub record IsPart (Lawful : OctetList → Type 0) (octets part rest : OctetList) : Type 0 where
  pub whole : octets ≡ part ++ rest
  pub lawful : Lawful part

-- `size` octets at the front are lawful
pub record IsSizeOf (Lawful : OctetList → Type 0) (octets : OctetList) (size : ℕ) : Type 0 where
  pub part : OctetList
  pub rest : OctetList
  pub is : IsPart Lawful octets part rest
  pub counted : size ≡ length part

-- each RDATA is lawful: none is refused
abbrev pub AnyRdata : OctetList → Type 0
AnyRdata rdata = Unit {0}

-- octets of the owner of an SOA on whose word the name may be denied
pub record IsOwnerOf (name : Labels) (octets : OctetList) : Type 0 where
  pub owner : Labels
  pub named : IsName owner
  pub under : IsUnder name owner
  pub whole : octets ≡ wire owner

-- an RDATA is greater than the last of others, if there is one
abbrev pub ComesAfterLast : List OctetList → OctetList → Type 0
ComesAfterLast rdatas rdata = (before : List OctetList) (last : OctetList) → rdatas ≡ before ++ last ∷ []
    → slice_cmp nat_cmp last rdata ≡ Less

-- the last of some RDATAs is this one
abbrev pub HasLast : List OctetList → OctetList → Type 0
HasLast rdatas last = (before : List OctetList) × (rdatas ≡ before ++ last ∷ [])

-- `count` RDATAs that those of a type may begin with are at the front, and the rest follows them;
-- their body has `long` octets
pub record AreFirstOf (rtype : RType) (count : ℕ) (octets : OctetList) (long : ℕ) (rest : OctetList) : Type 0 where
  pub rdatas : List OctetList
  pub whole : octets ≡ flat_map octets_with_length rdatas ++ rest
  pub lawful : AreFirstRdatas rtype rdatas
  pub counted : length rdatas ≡ count
  pub size : long ≡ length (positive_body rdatas)

-- octets that are the body of RDATAs
pub record IsRdatasBody (body : OctetList) : Type 0 where
  pub rdatas : List OctetList
  pub octets : body ≡ positive_body rdatas

-- octets that are the body of an SOA
pub record IsSoaBody (body : OctetList) : Type 0 where
  pub owner : Labels
  pub rdata : OctetList
  pub named : IsName owner
  pub octets : body ≡ negative_body owner rdata

-- the opening of a frame, magic, version and count of entries, is at the front, and the rest
-- follows it
pub record IsOpening (octets : OctetList) (version count : ℕ) (rest : OctetList) : Type 0 where
  pub whole : octets ≡ u16_octets MAGIC ++ (octet version ++ (u16_octets count ++ rest))
  pub read : IsVersion version

-- the octets begin with `count` entries of the version, and the rest follows them
pub record BeginsWithEntries (octets : OctetList) (version count : ℕ) (list : Observations)
    (rest : OctetList)
    : Type 0 where
  pub whole : octets ≡ entries list ++ rest
  pub lawful : AreIn version list
  pub counted : length list ≡ count

-- octets that are `count` entries of the version, and nothing else
pub record AreEntryOctets (octets : OctetList) (version count : ℕ) : Type 0 where
  pub list : Observations
  pub are : BeginsWithEntries octets version count list []

-- a frame of `count` entries of the version, which are these octets
pub record IsFrameOfEntries (frame : OctetList) (version count : ℕ) (octets : OctetList) : Type 0 where
  pub opened : IsOpening frame version count octets
  pub fits : length frame ≤ LONGEST_FRAME
  pub are_entries : AreEntryOctets octets version count

-- the frame of these observations has `size` octets, which fit
pub record FitsFrame (list : Observations) (size : ℕ) : Type 0 where
  pub lawful : AreObservations list
  pub counted : size ≡ length (frame_octets VERSION list)
  pub fits : size ≤ LONGEST_FRAME
