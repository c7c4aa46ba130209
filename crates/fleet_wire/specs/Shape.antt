-- What RDATA holds: a table from types to parts, and the parts at a place of a message (RFC 1035
-- 3.3, RFC 2782).
-- Serves `read_reply`, `plain_rdata`.
use Rattle.std.specs.Prelude.{◌≡◌, ◌≢◌, ℕ, ◌+◌, ◌<◌, ◌≤◌, ◌⊎◌, List, [], ◌∷◌, ◌++◌, length, take, drop, Option, Some, None, if◌then◌else◌, nat_eq, ◌||◌}
use Rattle.fleet_name.specs.Types.{Labels, OctetList}
use Rattle.fleet_wire.specs.Types.{Place, RType}
use Rattle.fleet_name.specs.Name.{wire, IsName}
use Rattle.fleet_name.specs.declared.bounds.TheConstants.{LONGEST_NAME}
use Rattle.fleet_wire.specs.NameAt.{ReadsName}
use Rattle.fleet_wire.specs.Fault.{NameFails}
use Rattle.fleet_wire.specs.declared.fault.ReadFault.{ReadFault}
use Rattle.fleet_wire.specs.declared.fault.ReadFault.TheVariants.{Truncated, BadRdata}
use Rattle.fleet_wire.specs.declared.rtype.TheConstants.{NS, MD, MF, CNAME, SOA, MB, MG, MR, PTR, MINFO, MX, SRV}
use Rattle.fleet_wire.specs.declared.shape.Part.{Part}
use Rattle.fleet_wire.specs.declared.shape.Part.TheVariants.{Plain, Name}

-- The parts of RDATA, for the types whose names a receiver expands here: those of RFC 1035 3.3 with
-- names, and SRV (RFC 2782). NS, MD, MF, CNAME, MB, MG, MR and PTR have one name, SOA two names and
-- five numbers of 32 bits, MINFO two names, MX a number of 16 bits and a name, SRV three of them
-- and a name. RDATA of any other type is opaque octets, also where there are names in it (RFC 3597
-- 4).
abbrev pub shape_of : RType → Option (List Part)
shape_of t =
    if nat_eq t NS || nat_eq t MD || nat_eq t MF || nat_eq t CNAME || nat_eq t MB || nat_eq t MG
    || nat_eq t MR || nat_eq t PTR then Some (Name ∷ []) else
    if nat_eq t SOA then Some (Name ∷ Name ∷ Plain 20 ∷ []) else
    if nat_eq t MINFO then Some (Name ∷ Name ∷ []) else
    if nat_eq t MX then Some (Plain 2 ∷ Name ∷ []) else
    if nat_eq t SRV then Some (Plain 6 ∷ Name ∷ []) else None

-- the parts are at p one after the other, and end before e; the octets are theirs, each name read
-- with its pointers in the whole message, and written in full
abbrev pub PartsAt : OctetList → List Part → Place → OctetList → Place → Type 0
PartsAt m [] p octets e = (octets ≡ []) × (e ≡ p)
PartsAt m (Plain n ∷ parts) p octets e = (others : OctetList) × (p + n ≤ length m)
    × PartsAt m parts (p + n) others e × (octets ≡ take n (drop p m) ++ others)
PartsAt m (Name ∷ parts) p octets e =
    (n : Labels) × (past : Place) × (others : OctetList) × ReadsName m p n past
    × PartsAt m parts past others e × (octets ≡ wire n ++ others)

-- the first fault of the parts at p
abbrev pub PartsFail : OctetList → List Part → Place → ReadFault → Type 0
PartsFail m [] p f = ⊥
PartsFail m (Plain n ∷ parts) p f =
    ((length m < p + n) × (f ≡ Truncated)) ⊎ ((p + n ≤ length m) × PartsFail m parts (p + n) f)
PartsFail m (Name ∷ parts) p f = NameFails m p f
    ⊎ ((n : Labels) × (past : Place) × ReadsName m p n past × PartsFail m parts past f)

-- k octets of RDATA at p, read by their shape; as they are where there is none
abbrev pub ShapeAt : OctetList → Place → ℕ → Option (List Part) → OctetList → Type 0
ShapeAt m p k None octets = octets ≡ take k (drop p m)
ShapeAt m p k (Some parts) octets = PartsAt m parts p octets (p + k)

-- the first fault of k octets of RDATA at p: one of the parts, or that they end at another place
abbrev pub ShapeFails : OctetList → Place → ℕ → Option (List Part) → ReadFault → Type 0
ShapeFails m p k None f = ⊥
ShapeFails m p k (Some parts) f = PartsFail m parts p f
    ⊎ ((octets : OctetList) × (e : Place) × PartsAt m parts p octets e × (e ≢ p + k) × (f ≡ BadRdata))

-- RDATA of a shape with each name in full and in lower case
abbrev pub ArePlain : List Part → OctetList → Type 0
ArePlain [] octets = octets ≡ []
ArePlain (Plain n ∷ parts) octets = (first : OctetList) × (others : OctetList)
    × (octets ≡ first ++ others) × (length first ≡ n) × ArePlain parts others
ArePlain (Name ∷ parts) octets = (n : Labels) × (others : OctetList)
    × (octets ≡ wire n ++ others) × IsName n × ArePlain parts others

-- RDATA of a shape, if there is one: then with each name in full and in lower case, else any octets
abbrev pub HasShape : Option (List Part) → OctetList → Type 0
HasShape None octets = Unit {0}
HasShape (Some parts) octets = ArePlain parts octets

-- RDATA of a type: where the type has a shape, with each name in full and in lower case, and else
-- any octets
abbrev pub IsPlain : RType → OctetList → Type 0
IsPlain rtype octets = HasShape (shape_of rtype) octets

-- What follows, private contracts alone cite.

-- how many octets the parts have at most, with each name in full
abbrev pub room_of : List Part → ℕ
room_of [] = 0
room_of (Plain n ∷ parts) = n + room_of parts
room_of (Name ∷ parts) = LONGEST_NAME + room_of parts
