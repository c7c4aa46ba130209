-- What a reply means (RFC 1034 3.6.2, RFC 2308 2, RFC 2308 5).
-- Serves `digest`, law `digest_or_fault`.
use Rattle.std.specs.Prelude.{◌≡◌, ◌-◌, ◌⊎◌, true, false, List, [], ◌∷◌, ◌++◌, length, min, Option, Some, None, ℕ}
use Rattle.fleet_name.specs.Types.{Labels, OctetList}
use Rattle.fleet_wire.specs.Types.{Seconds}
use Rattle.fleet_name.specs.Name.{IsUnder}
use Rattle.fleet_wire.specs.Number.{u32_at}
use Rattle.fleet_wire.specs.Record.{RecordData}
use Rattle.fleet_wire.specs.Message.{MessageData}
use Rattle.fleet_wire.specs.declared.class.TheConstants.{IN}
use Rattle.fleet_wire.specs.declared.rcode.TheConstants.{NO_ERROR, NAME_ERROR}
use Rattle.fleet_wire.specs.declared.rtype.TheConstants.{NS, SOA}
use Rattle.fleet_observe.specs.declared.bounds.TheConstants.{LONGEST_DENIAL}
use Rattle.fleet_observe.specs.declared.reply.ending.DigestFault.{DigestFault}
use Rattle.fleet_observe.specs.declared.reply.ending.DigestFault.TheVariants.{NotReply, BadChain, OutOfMemory}
use Rattle.fleet_observe.specs.Members.{Has}
use Rattle.fleet_observe.specs.Observation.{IsDataType}
use Rattle.fleet_observe.specs.RrSet.{RrSetData, IsRrSet, read_ttl}
use Rattle.fleet_observe.specs.Walk.{EndsBare, IsWalk, HasWalk, last, AreLinks}
use Rattle.fleet_observe.specs.Soa.{SoaData}
use Rattle.fleet_observe.specs.Digest.{EndData, Records, NoData, NxDomain, Code, Truncated, DigestData}

-- a reply (QR is set) with Opcode 0, to a question that is served: of class 1 and of a type that data
-- can have
pub record IsServed (r : MessageData) : Type 0 where
  pub response : r.header.response ≡ true
  pub opcode : r.header.opcode ≡ 0
  pub class : r.question.class ≡ IN
  pub typed : IsDataType r.question.rtype

-- an RCODE with which the walk decides what a reply means
abbrev pub IsWalkCode : ℕ → Type 0
IsWalkCode rcode = (rcode ≡ NO_ERROR) ⊎ (rcode ≡ NAME_ERROR)

-- the reply asks for a walk: TC is clear, and its code is NO_ERROR or NAME_ERROR
pub record AsksWalk (r : MessageData) : Type 0 where
  pub whole : r.header.tc ≡ false
  pub code : IsWalkCode r.header.rcode

-- there is a walk from the question's name
abbrev pub IsWalkable : MessageData → Type 0
IsWalkable r = HasWalk r.answer r.question.rtype r.question.name

-- nothing is wrong with the reply: its question is served, and where it asks for a walk there is
-- one
abbrev pub IsSound : MessageData → Type 0
IsSound r = IsServed r × (AsksWalk r → IsWalkable r)

-- Why there is no digest, the first reason: `NotReply` for a reply that is not served, `BadChain` where a
-- walk is asked for and there is none, and out of memory only where nothing is wrong with the reply.
pub data IsFault (r : MessageData) (f : DigestFault) : Type 0 where
  not_reply : ¬ IsServed r → f ≡ NotReply → IsFault r f
  bad_chain : IsServed r → AsksWalk r → ¬ IsWalkable r → f ≡ BadChain → IsFault r f
  no_memory : IsSound r → f ≡ OutOfMemory → IsFault r f

-- an SOA record of the class IN
pub record IsSoaRecord (r : RecordData) : Type 0 where
  pub class : r.class ≡ IN
  pub rtype : r.rtype ≡ SOA

-- r is the first SOA of the section
pub record IsFirstSoa (s : List RecordData) (r : RecordData) : Type 0 where
  pub before : List RecordData
  pub after : List RecordData
  pub is : s ≡ before ++ r ∷ after
  pub first : (x : RecordData) → Has before x → ¬ IsSoaRecord x
  pub soa : IsSoaRecord r

-- MINIMUM: the last four octets of an SOA's RDATA, as a number (RFC 1035 3.3.13)
abbrev pub minimum_of : OctetList → Seconds
minimum_of d = u32_at d (length d - 4)

-- how long a denial holds, in seconds: the least of the SOA's TTL, its MINIMUM and LONGEST_DENIAL
-- (RFC 2308 5)
abbrev pub soa_ttl : RecordData → Seconds
soa_ttl r = min (min (read_ttl r.ttl) (read_ttl (minimum_of r.rdata))) LONGEST_DENIAL

-- the SOA that counts for the denied name n: the first one, if n is its owner or below it (RFC 2308
-- 5)
pub record CountsFor (s : List RecordData) (n : Labels) (r : RecordData) : Type 0 where
  pub first : IsFirstSoa s r
  pub under : IsUnder n r.name

-- x is the SOA that counts for the name n, as a denial has it
pub record IsSoaOf (s : List RecordData) (n : Labels) (x : SoaData) : Type 0 where
  pub carrier : RecordData
  pub counts : CountsFor s n carrier
  pub owner : x.owner ≡ carrier.name
  pub ttl : x.ttl ≡ soa_ttl carrier
  pub rdata : x.rdata ≡ carrier.rdata

-- the SOA that counts for the name n, if there is one
abbrev pub IsSoa : List RecordData → Labels → Option SoaData → Type 0
IsSoa s n None = (r : RecordData) → ¬ CountsFor s n r
IsSoa s n (Some x) = IsSoaOf s n x

-- how a walk ends at name n
abbrev pub IsEnd : MessageData → Labels → EndData → Type 0
IsEnd r n (Records x) = IsRrSet r.answer n r.question.rtype x
IsEnd r n (NoData soa) =
    EndsBare r.answer r.question.rtype n × (r.header.rcode ≡ NO_ERROR) × IsSoa r.authority n soa
IsEnd r n (NxDomain soa) =
    EndsBare r.answer r.question.rtype n × (r.header.rcode ≡ NAME_ERROR) × IsSoa r.authority n soa
IsEnd r n (Code c) = ⊥
IsEnd r n Truncated = ⊥

-- the chain and the end of a reply with a walk
pub record WalkEndsAs (r : MessageData) (chain : List RrSetData) (e : EndData) : Type 0 where
  pub asks : AsksWalk r
  pub later : List Labels
  pub walk : IsWalk r.answer r.question.rtype r.question.name later
  pub links : AreLinks r.answer r.question.name later chain
  pub end_is : IsEnd r (last r.question.name later) e

-- the chain and the end of a reply
abbrev pub EndsAs : MessageData → List RrSetData → EndData → Type 0
EndsAs r chain Truncated = (r.header.tc ≡ true) × (chain ≡ [])
EndsAs r chain (Code c) = (r.header.tc ≡ false) × (¬ (r.header.rcode ≡ NO_ERROR))
    × (¬ (r.header.rcode ≡ NAME_ERROR)) × (c ≡ r.header.rcode) × (chain ≡ [])
EndsAs r chain (Records x) = WalkEndsAs r chain (Records x)
EndsAs r chain (NoData soa) = WalkEndsAs r chain (NoData soa)
EndsAs r chain (NxDomain soa) = WalkEndsAs r chain (NxDomain soa)

-- an authority NS record at the question's name or an ancestor of it
pub record IsNs (q : Labels) (r : RecordData) : Type 0 where
  pub class : r.class ≡ IN
  pub rtype : r.rtype ≡ NS
  pub above : IsUnder q r.name

-- an earlier one of the NS records at the name q and its ancestors has the owner of r
pub record IsRepeated (q : Labels) (before : List RecordData) (r : RecordData) : Type 0 where
  pub earlier : RecordData
  pub member : Has before earlier
  pub ns : IsNs q earlier
  pub same : earlier.name ≡ r.name

-- the owners of the NS records at the name q and its ancestors, in order of first appearance
abbrev pub AreOwners : Labels → List RecordData → List RecordData → List Labels
    → Type 0
AreOwners q before [] os = os ≡ []
AreOwners q before (r ∷ rs) os =
    (IsNs q r × (¬ IsRepeated q before r)
    × ((rest : List Labels) × (os ≡ r.name ∷ rest)
    × AreOwners q (before ++ r ∷ []) rs rest))
    ⊎ (((¬ IsNs q r) ⊎ IsRepeated q before r) × AreOwners q (before ++ r ∷ []) rs os)

-- the owners of these RRsets
abbrev pub owners_of : List RrSetData → List Labels
owners_of [] = []
owners_of (x ∷ xs) = x.name ∷ owners_of xs

-- the NS RRsets of the authority section at the name q and its ancestors, in order of first
-- appearance (RFC 2181 5.4.1)
pub record AreNsSets (q : Labels) (s : List RecordData) (sets : List RrSetData) : Type 0
  where
    pub owners : AreOwners q [] s (owners_of sets)
    pub each : (x : RrSetData) → Has sets x → IsRrSet s x.name NS x

-- the reply is an authority for its NS RRsets: TC is clear, AA set, and the code NO_ERROR (RFC 2181
-- 5.4.1)
pub record HasAuthority (r : MessageData) : Type 0 where
  pub whole : r.header.tc ≡ false
  pub aa : r.header.aa ≡ true
  pub code : r.header.rcode ≡ NO_ERROR

-- the NS RRsets that the reply is an authority for, at the question's name and its ancestors (RFC
-- 2181 5.4.1)
abbrev pub IsAuthority : MessageData → List RrSetData → Type 0
IsAuthority r sets = (HasAuthority r × AreNsSets r.question.name r.authority sets)
    ⊎ ((¬ HasAuthority r) × (sets ≡ []))

-- d is what the reply means: the links of its walk, its end, and the NS RRsets that it is an
-- authority for (RFC 1034 3.6.2, RFC 2308 2)
pub record IsDigest (r : MessageData) (d : DigestData) : Type 0 where
  pub served : IsServed r
  pub name : d.name ≡ r.question.name
  pub rtype : d.rtype ≡ r.question.rtype
  pub aa : d.aa ≡ r.header.aa
  pub ends_as : EndsAs r d.chain d.end
  pub authority : IsAuthority r d.ns

-- nothing is wrong with a reply that has a digest, so it has no fault but out of memory
abbrev pub DigestOrFault : Type 0
DigestOrFault =
    (r : MessageData) (d : DigestData) (f : DigestFault) → IsDigest r d → IsFault r f
    → f ≡ OutOfMemory

-- a reply with a digest is served, and has a walk where one is asked for
abbrev pub DigestIsSound : Type 0
DigestIsSound = (r : MessageData) (d : DigestData) → IsDigest r d → IsSound r

-- What follows, private contracts alone cite.

-- an SOA of the section counts for the name n
abbrev pub HasSoa : List RecordData → Labels → Type 0
HasSoa s n = (r : RecordData) × CountsFor s n r

-- the section has an NS record at the name q or an ancestor of it
abbrev pub HasNs : Labels → List RecordData → Type 0
HasNs q s = (r : RecordData) × Has s r × IsNs q r
