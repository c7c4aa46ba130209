-- What a record is, without where it lies in memory, and the records at a place of a message (RFC
-- 1035 4.1.3).
-- Serves `read_reply`.
use Rattle.std.specs.Prelude.{◌≡◌, ℕ, ◌+◌, ◌<◌, ◌≤◌, ◌⊎◌, List, [], ◌∷◌, length}
use Rattle.fleet_name.specs.Types.{Labels, OctetList}
use Rattle.fleet_wire.specs.Types.{Place, RType, Seconds}
use Rattle.fleet_name.specs.Name.{IsName}
use Rattle.fleet_wire.specs.Number.{u16_at, u32_at}
use Rattle.fleet_wire.specs.NameAt.{ReadsName}
use Rattle.fleet_wire.specs.Fault.{NameFails}
use Rattle.fleet_wire.specs.Shape.{shape_of, ShapeAt, ShapeFails, IsPlain}
use Rattle.fleet_wire.specs.declared.fault.ReadFault.{ReadFault}
use Rattle.fleet_wire.specs.declared.fault.ReadFault.TheVariants.{Truncated}

-- a record: its owner as labels, the TTL as it was read, and its RDATA
pub record RecordData : Type 0 where
  pub name : Labels
  pub rtype : RType
  pub class : ℕ
  pub ttl : Seconds
  pub rdata : OctetList

-- the record r is at p, and ends before e: a name, ten octets, and the RDATA that the last two of
-- them count
pub record RecordAt (m : OctetList) (p : Place) (r : RecordData) (e : Place) : Type 0 where
  pub past : Place
  pub name : ReadsName m p r.name past
  pub room : past + 10 + u16_at m (past + 8) ≤ length m
  pub rtype : r.rtype ≡ u16_at m past
  pub class : r.class ≡ u16_at m (past + 2)
  pub ttl : r.ttl ≡ u32_at m (past + 4)
  pub rdata : ShapeAt m (past + 10) (u16_at m (past + 8)) (shape_of r.rtype) r.rdata
  pub end_is : e ≡ past + 10 + u16_at m (past + 8)

-- the ten octets, or the RDATA, pass the end of the message
abbrev pub IsCut : OctetList → Place → Type 0
IsCut m past = (length m < past + 10) ⊎ (length m < past + 10 + u16_at m (past + 8))

-- the first fault after the name of a record
abbrev pub FixedFails : OctetList → Place → ReadFault → Type 0
FixedFails m past f = (IsCut m past × (f ≡ Truncated))
    ⊎ ((past + 10 + u16_at m (past + 8) ≤ length m)
    × ShapeFails m (past + 10) (u16_at m (past + 8)) (shape_of (u16_at m past)) f)

-- the first fault of a record at p: its name's, or one after the name
abbrev pub RecordFails : OctetList → Place → ReadFault → Type 0
RecordFails m p f = NameFails m p f
    ⊎ ((n : Labels) × (past : Place) × ReadsName m p n past × FixedFails m past f)

-- the records are at p in a row, and end before e
abbrev pub RecordsAt : OctetList → Place → List RecordData → Place → Type 0
RecordsAt m p [] e = e ≡ p
RecordsAt m p (r ∷ rs) e = (past : Place) × RecordAt m p r past × RecordsAt m past rs e

-- the first fault of `count` records at p: fewer are there in a row, and the one after them fails
abbrev pub RecordsFail : OctetList → Place → ℕ → ReadFault → Type 0
RecordsFail m p count f = (rs : List RecordData) × (past : Place) × RecordsAt m p rs past
    × (length rs < count) × RecordFails m past f

-- a record whose owner is a name, and whose RDATA is plain for its type
pub record IsPlainRecord (r : RecordData) : Type 0 where
  pub name : IsName r.name
  pub rdata : IsPlain r.rtype r.rdata

-- What follows, private contracts alone cite.

-- `count` records are at p in a row
abbrev pub HasRecords : OctetList → Place → ℕ → Type 0
HasRecords m p count = (rs : List RecordData) × (e : Place) × RecordsAt m p rs e × (length rs ≡ count)
