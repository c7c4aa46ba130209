-- Octets that are sent.
-- Serves every call of `Site` that sends.
use Rattle.fleet_name.specs.Types.{OctetList}
use Rattle.fleet_pending.specs.declared.addr.Addr.{Addr}

-- octets, and the address that they go to
pub record PacketData : Type 0 where
  pub to : Addr
  pub octets : OctetList
