-- The octets of bodies, and what makes them lawful. All numbers have two octets, the high one
-- first.
-- Serves `Observation::positive`, `Observation::negative`, `Observation::write_body`, and the
-- readers `Observation::rdatas` and `Observation::soa`.
use Rattle.std.specs.Prelude.{◌≡◌, ◌≢◌, ◌≤◌, List, [], ◌++◌, length}
use Rattle.std.specs.List.{flat_map}
use Rattle.fleet_name.specs.Types.{Labels, OctetList}
use Rattle.fleet_wire.specs.Types.{RType}
use Rattle.fleet_name.specs.Name.{wire, IsName, IsUnder}
use Rattle.fleet_wire.specs.Number.{u16_octets}
use Rattle.fleet_wire.specs.Shape.{IsPlain}
use Rattle.fleet_wire.specs.declared.rtype.TheConstants.{CNAME, SOA}
use Rattle.fleet_observe.specs.Members.{Has, IsAscending}
use Rattle.fleet_observe.specs.declared.bounds.TheConstants.{LONGEST_BODY}

-- octets after their length
abbrev pub octets_with_length : OctetList → OctetList
octets_with_length octets = u16_octets (length octets) ++ octets

-- RDATAs: how many, and each after its length
abbrev pub positive_body : List OctetList → OctetList
positive_body rdatas = u16_octets (length rdatas) ++ flat_map octets_with_length rdatas

-- the SOA of a denial: its owner in full, and its RDATA after its length
abbrev pub negative_body : Labels → OctetList → OctetList
negative_body owner rdata = wire owner ++ octets_with_length rdata

-- RDATAs of the type's shape, with their names in full and in lower case
abbrev pub AreAllPlain : RType → List OctetList → Type 0
AreAllPlain rtype rdatas = (rdata : OctetList) → Has rdatas rdata → IsPlain rtype rdata

-- RDATAs whose body has at most LONGEST_BODY octets
abbrev pub HaveShortBody : List OctetList → Type 0
HaveShortBody rdatas = length (positive_body rdatas) ≤ LONGEST_BODY

-- RDATAs that an observation may hold: at least one, ascending, each of the type's shape with its
-- names in full and in lower case, one alone for an alias (RFC 2181 10.1), in a body of at most
-- LONGEST_BODY octets
pub record AreRdatas (rtype : RType) (rdatas : List OctetList) : Type 0 where
  pub some : rdatas ≢ []
  pub ascending : IsAscending rdatas
  pub plain : AreAllPlain rtype rdatas
  pub alone : rtype ≡ CNAME → length rdatas ≡ 1
  pub short : HaveShortBody rdatas

-- an SOA record that can deny the name: its owner is the name or an ancestor (RFC 2308 5)
pub record IsDenial (name owner : Labels) (rdata : OctetList) : Type 0 where
  pub named : IsName owner
  pub under : IsUnder name owner
  pub plain : IsPlain SOA rdata

-- octets that are a positive body
pub record IsPositiveBody (rtype : RType) (body : OctetList) : Type 0 where
  pub rdatas : List OctetList
  pub lawful : AreRdatas rtype rdatas
  pub octets : body ≡ positive_body rdatas

-- octets that are the body of a denial of the name
pub record IsNegativeBody (name : Labels) (body : OctetList) : Type 0 where
  pub owner : Labels
  pub rdata : OctetList
  pub lawful : IsDenial name owner rdata
  pub octets : body ≡ negative_body owner rdata
