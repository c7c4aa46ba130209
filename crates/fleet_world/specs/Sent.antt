-- What clients read in what servers send.
-- Serves laws `fresh`, `withdrawn`.
use Rattle.std.specs.Prelude.{ℕ, max, List}
use Rattle.fleet_name.specs.Types.{OctetList}
use Rattle.fleet_name.specs.Places.{At, Has}
use Rattle.fleet_wire.specs.Types.{Seconds}
use Rattle.fleet_wire.specs.Record.{RecordData}
use Rattle.fleet_observe.specs.Observation.{AreObservations}
use Rattle.fleet_site.specs.ConfigData.{ConfigData, IsAmong}
use Rattle.fleet_site.specs.PacketData.{PacketData}
use Rattle.fleet_site.specs.SiteModel.{SiteModel}
use Rattle.fleet_site.specs.Step.{datagram}
use Rattle.fleet_site.specs.server.Sending.{packets_of}
use Rattle.fleet_site.specs.server.Turn.{TurnStep, calling, TurnStepSays}
use Rattle.fleet_world.specs.FleetModel.{Replica, FleetModel, opening}
use Rattle.fleet_world.specs.Fresh.{IsFreshRecord, IsRelayed, OfRecords, ReadsOnly}
use Rattle.fleet_world.specs.Own.{AllGossipIsOwn}
use Rattle.fleet_world.specs.Run.{Run}
use Rattle.fleet_world.specs.Servers.{SiteAction, events_of, results_of}
use Rattle.fleet_world.specs.Withdrawn.{IsFreshAfter}
use Rattle.fleet_world.specs.declared.event.Event.TheVariants.{Datagram}

-- Of each record that is read in the octets: where a datagram from an upstream came, it is of that very
-- reply; where another datagram came, this holds of it, at the clock that the site has then; and with
-- any other step there is none.
abbrev pub SaysOnly : (A : Type 0) → (Seconds → RecordData → Type 0) → FleetModel → ℕ → Replica
    → TurnStep → OctetList → Type 0
SaysOnly A P m i a (calling (datagram now from octets word)) bytes =
    (IsAmong a.site.upstreams from
    → ReadsOnly (IsRelayed {A = A} m (Datagram i now from word octets) (max a.site.clock now)) bytes)
    × (¬ IsAmong a.site.upstreams from → ReadsOnly (P (max a.site.clock now)) bytes)
SaysOnly A P m i a step bytes = ReadsOnly (λ x. ⊥) bytes

-- Where what servers did up to a step is a run in which all gossip is the fleet's own, `SaysOnly` holds
-- of each packet of the step that goes to nobody's peer.
abbrev pub WhereSent : (A : Type 0) → OfRecords A → Type 0
WhereSent A P =
    (configs : List ConfigData) (before : List SiteAction) (m : FleetModel)
    (run : Run {A = A} (opening configs) (events_of before) (results_of 0 before) m)
    → AllGossipIsOwn configs (opening configs) (events_of before) (results_of 0 before) m run
    → (x : SiteAction) (a : Replica) → At m.sites x.site a
    → (next : SiteModel) → TurnStepSays a.site x.action.step x.action.answer next
    → AreObservations next.taken
    → (p : PacketData) → Has (packets_of a.site.peers x.action.answer) p
    → ¬ IsAmong a.site.peers p.to
    → SaysOnly A (P (opening configs) (events_of before) (results_of 0 before) m run a) m x.site a
    x.action.step p.octets

-- Where what servers did up to a step is a run in which all gossip is the fleet's own, what is read in
-- each packet of the step that goes to nobody's peer is of the very reply that came, or fresh.
abbrev pub SentAreFresh : Type 0 → Type 0
SentAreFresh A = WhereSent A (λ m es rs n run a t x. IsFreshRecord m es rs n run t x)

-- Where what servers did up to a step is a run in which all gossip is the fleet's own, what is read in
-- each packet of the step that goes to nobody's peer is of the very reply that came; or fresh, and came
-- in after the flushes that the site took in at its name or above.
abbrev pub SentAfter : Type 0 → Type 0
SentAfter A = WhereSent A (λ m es rs n run a t x. IsFreshAfter m es rs n run a.site.taken t x)
