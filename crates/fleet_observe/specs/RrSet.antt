-- The RRset of a section at a name and a type, and a TTL as it is read (RFC 2181 5, 8).
-- Serves `digest`, `add_rrset`, and every call of `RrSet`.
use Rattle.std.specs.Prelude.{◌≡◌, ℕ, ◌≤◌, List, [], ◌∷◌, if◌then◌else◌, nat_le, min, suc}
use Rattle.std.specs.Ordering.{nat_cmp, is_lt}
use Rattle.std.specs.Cmp.Lexicographic.{slice_cmp}
use Rattle.fleet_name.specs.Types.{Labels, OctetList}
use Rattle.fleet_wire.specs.Types.{RType, Seconds}
use Rattle.fleet_name.specs.Name.{wire, labels_of, IsName}
use Rattle.fleet_wire.specs.Record.{RecordData}
use Rattle.fleet_wire.specs.declared.class.TheConstants.{IN}
use Rattle.fleet_observe.specs.Members.{Has, IsAscending}
use Rattle.fleet_observe.specs.Observation.{IsDataType}
use Rattle.fleet_observe.specs.declared.bounds.TheConstants.{LONGEST_LIFE}
use Rattle.fleet_observe.specs.declared.reply.lent_rrset.LentRrSet.{LentRrSet}

-- the record is of the RRset at name n and type t
pub record IsOfRrSet (n : Labels) (t : RType) (r : RecordData) : Type 0 where
  pub class : r.class ≡ IN
  pub rtype : r.rtype ≡ t
  pub typed : IsDataType t
  pub owner : r.name ≡ n

-- d is an RDATA of the RRset at name n and type t
pub record InSet (s : List RecordData) (n : Labels) (t : RType) (d : OctetList) : Type 0 where
  pub carrier : RecordData
  pub member : Has s carrier
  pub is_of_rrset : IsOfRrSet n t carrier
  pub rdata : carrier.rdata ≡ d

-- the section has an RRset at name n and type t
abbrev pub HasSet : List RecordData → Labels → RType → Type 0
HasSet s n t = (d : OctetList) × InSet s n t d

-- the section has no RRset at name n and type t
abbrev pub IsEmpty : List RecordData → Labels → RType → Type 0
IsEmpty s n t = (d : OctetList) → ¬ InSet s n t d

-- d is the only RDATA of the RRset at name n and type t
pub record IsOnly (s : List RecordData) (n : Labels) (t : RType) (d : OctetList) : Type 0 where
  pub member : InSet s n t d
  pub only : (e : OctetList) → InSet s n t e → d ≡ e

-- a TTL as it is read: zero with its top bit set (RFC 2181 8), and at most a day
abbrev pub read_ttl : Seconds → Seconds
read_ttl ttl = if nat_le 2147483648 ttl then 0 else min ttl LONGEST_LIFE

-- the least TTL of the RRset (RFC 2181 5.2)
pub record IsTtl (s : List RecordData) (n : Labels) (t : RType) (ttl : Seconds) : Type 0 where
  pub carrier : RecordData
  pub member : Has s carrier
  pub is_of_rrset : IsOfRrSet n t carrier
  pub is : ttl ≡ read_ttl carrier.ttl
  pub least : (r : RecordData) → Has s r → IsOfRrSet n t r → ttl ≤ read_ttl r.ttl

-- an RRset, as plain data
pub record RrSetData : Type 0 where
  pub name : Labels
  pub rtype : RType
  pub ttl : Seconds
  pub rdatas : List OctetList

-- x is the RRset of the section at name n and type t, and there is one: the set of the RDATAs of
-- its records, with the least of their TTLs (RFC 2181 5)
pub record IsRrSet (s : List RecordData) (n : Labels) (t : RType) (x : RrSetData) : Type 0 where
  pub name : x.name ≡ n
  pub rtype : x.rtype ≡ t
  pub ttl : IsTtl s n t x.ttl
  pub ascending : IsAscending x.rdatas
  pub of_section : (d : OctetList) → Has x.rdatas d → InSet s n t d
  pub whole : (d : OctetList) → InSet s n t d → Has x.rdatas d

-- the RRset whose records are lent
abbrev pub rrset_of_lent : {A : Type 0} → LentRrSet A → RrSetData
rrset_of_lent r = record { name = r.name.now; rtype = r.rtype; ttl = r.ttl; rdatas = r.rdatas.now }

-- What follows, private contracts alone cite.

-- octets that are a name in full
pub record SpellsName (octets : OctetList) : Type 0 where
  pub whole : octets ≡ wire (labels_of octets)
  pub named : IsName (labels_of octets)

-- how many of the first RDATAs, in a row, are less than d
abbrev pub count_below : OctetList → List OctetList → ℕ
count_below d [] = 0
count_below d (y ∷ ys) = if is_lt (slice_cmp nat_cmp y d) then suc (count_below d ys) else 0
