-- What a step of a site says, without where it lies in memory.
-- Serves every call of `Site` that sends.
use Rattle.std.specs.Prelude.{ℕ, Bool, false, List, [], ◌∷◌, Option, Some, None}
use Rattle.fleet_name.specs.Types.{OctetList}
use Rattle.fleet_pending.specs.declared.addr.Addr.{Addr}
use Rattle.fleet_site.specs.PacketData.{PacketData}
use Rattle.fleet_site.specs.declared.outcome.Refusal.{Refusal}

-- what a step says: packets, frames for every peer, how many observations were given to the cache, why
-- nothing more was done, and whether another open question is due
pub record OutcomeData : Type 0 where
  pub packets : List PacketData
  pub frames : List OctetList
  pub taken : ℕ
  pub refused : Option Refusal
  pub more : Bool

-- an outcome that says nothing
abbrev pub nothing : OutcomeData
nothing = record { packets = []; frames = []; taken = 0; refused = None; more = false }

-- an outcome that says nothing but a refusal
abbrev pub refusal : Refusal → OutcomeData
refusal r = record nothing { refused = Some r }

-- one packet: these octets to this address
abbrev pub packet_to : Addr → OctetList → List PacketData
packet_to addr octets = record { to = addr; octets = octets } ∷ []

-- an outcome of one packet, and nothing else
abbrev pub sends : Addr → OctetList → OutcomeData
sends addr octets = record nothing { packets = packet_to addr octets }
