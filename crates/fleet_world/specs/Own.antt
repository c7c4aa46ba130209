-- Gossip that is the fleet's own.
-- Serves laws `origin`, `fresh`, `withdrawn`.
use Rattle.std.specs.Prelude.{◌≡◌, ℕ, ◌⊎◌, List, [], ◌∷◌}
use Rattle.fleet_name.specs.Types.{OctetList}
use Rattle.fleet_name.specs.Places.{At, Has}
use Rattle.fleet_observe.specs.Observation.{ObservationData, Observations}
use Rattle.fleet_observe.specs.declared.observation.kind.Kind.TheVariants.{Flush}
use Rattle.fleet_gossip.specs.Frame.{SpellsFrame}
use Rattle.fleet_site.specs.ConfigData.{ConfigData}
use Rattle.fleet_world.specs.FleetModel.{Replica, FleetModel, opening}
use Rattle.fleet_world.specs.Deliveries.{IsFromPeer, AllGossipIsKept}
use Rattle.fleet_world.specs.Origin.{Stems, AreHonest}
use Rattle.fleet_world.specs.Run.{Results, Run}
use Rattle.fleet_world.specs.declared.event.Event.{Event}
use Rattle.fleet_world.specs.declared.event.Event.TheVariants.{Datagram, Frame}

-- o is in a frame that a site of the fleet sent, and that was kept
pub record WasSent (m : FleetModel) (o : ObservationData) : Type 0 where
  pub number : ℕ
  pub octets : OctetList
  pub kept : At m.frames number octets
  pub list : Observations
  pub spells : SpellsFrame octets list
  pub among : Has list o

-- where the octets are a frame: each observation in it has this property, or was sent in the fleet
-- before
abbrev pub BringsOnly : (ObservationData → Type 0) → FleetModel → OctetList → Type 0
BringsOnly C m octets = (list : Observations) → SpellsFrame octets list
    → (o : ObservationData) → Has list o → C o ⊎ WasSent m o

-- of octets that come in as a frame in this event each observation has this property, or was sent in
-- the fleet before
abbrev pub GossipBrings : {A : Type 0} → (ObservationData → Type 0) → List ConfigData → FleetModel
    → Event A → Type 0
GossipBrings C configs m (Frame site now bytes) = BringsOnly C m bytes
GossipBrings C configs m (Datagram site now from word bytes) =
    IsFromPeer configs site from → BringsOnly C m bytes
GossipBrings C configs m e = Unit {0}

-- of octets that come in as a frame in each event of a run each observation has this property, or was
-- sent in the fleet before
abbrev pub AllGossipBrings : {A : Type 0} → (ObservationData → Type 0) → List ConfigData
    → (m : FleetModel) (es : List (Event A)) (rs : Results A) (n : FleetModel) → Run m es rs n
    → Type 0
AllGossipBrings C configs m (e ∷ es) (r ∷ rs) n run =
    GossipBrings C configs m e × AllGossipBrings C configs run.0 es rs n run.2
AllGossipBrings C configs m [] [] n run = Unit {0}
AllGossipBrings C configs m [] (r ∷ rs) n run = Unit {0}
AllGossipBrings C configs m (e ∷ es) [] n run = Unit {0}

-- all gossip of a run is the fleet's own: what was sent in the fleet before, and flushes, whoever
-- made them
abbrev pub AllGossipIsOwn : {A : Type 0} → List ConfigData
    → (m : FleetModel) (es : List (Event A)) (rs : Results A) (n : FleetModel) → Run m es rs n
    → Type 0
AllGossipIsOwn = AllGossipBrings (λ o. o.kind ≡ Flush)

-- where what comes in as a frame is a kept one, all gossip is the fleet's own
abbrev pub KeptIsOwn : Type 0 → Type 0
KeptIsOwn A =
    (configs : List ConfigData) (events : List (Event A)) (results : Results A) (end : FleetModel)
    (run : Run (opening configs) events results end)
    → AllGossipIsKept configs (opening configs) events results end run
    → AllGossipIsOwn configs (opening configs) events results end run

-- where no gossip comes from outside, all gossip is the fleet's own
abbrev pub HonestIsOwn : Type 0 → Type 0
HonestIsOwn A =
    (configs : List ConfigData) (events : List (Event A)) (results : Results A) (end : FleetModel)
    (run : Run (opening configs) events results end) → AreHonest configs events
    → AllGossipIsOwn configs (opening configs) events results end run

-- where all gossip is the fleet's own, each member of what a site took in that is no flush is an
-- observation of a reply in the run
abbrev pub OwnStem : Type 0 → Type 0
OwnStem A =
    (configs : List ConfigData) (events : List (Event A)) (results : Results A) (end : FleetModel)
    (run : Run (opening configs) events results end)
    → AllGossipIsOwn configs (opening configs) events results end run
    → (i : ℕ) (a : Replica) → At end.sites i a
    → (o : ObservationData) → Has a.site.taken o → ¬ (o.kind ≡ Flush)
    → Stems (opening configs) events results end run o
