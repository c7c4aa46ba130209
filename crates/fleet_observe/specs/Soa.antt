-- What an SOA record is, as plain data (RFC 1035 3.3.13).
-- Serves `digest`, `observations`, `relay`, and the model of `Soa`.
use Rattle.fleet_name.specs.Types.{Labels, OctetList}
use Rattle.fleet_wire.specs.Types.{Seconds}

-- the SOA of a denial: its owner, for how many seconds the denial holds, and its RDATA (RFC 2308 5)
pub record SoaData : Type 0 where
  pub owner : Labels
  pub ttl : Seconds
  pub rdata : OctetList
