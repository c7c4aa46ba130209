-- Frames that come in as octets, read as the delivery of kept frames.
-- Serves law `deliveries`.
use Rattle.std.specs.Prelude.{◌≡◌, ℕ, ◌⊎◌, ◌≤◌, List, [], ◌∷◌}
use Rattle.std.specs.List.{AllZip}
use Rattle.fleet_name.specs.Types.{OctetList}
use Rattle.fleet_wire.specs.Types.{Seconds}
use Rattle.fleet_name.specs.Places.{At, Has}
use Rattle.fleet_observe.specs.Observation.{ObservationData, Observations}
use Rattle.fleet_gossip.specs.Frame.{SpellsFrame}
use Rattle.fleet_pending.specs.declared.addr.Addr.{Addr}
use Rattle.fleet_site.specs.Choice.{when◌then◌otherwise◌}
use Rattle.fleet_site.specs.ConfigData.{ConfigData, IsAmong}
use Rattle.fleet_world.specs.FleetModel.{Replica, SentSweep, FleetModel, opening}
use Rattle.fleet_world.specs.WorldData.{WorldData}
use Rattle.fleet_world.specs.StandsFor.{StandsFor}
use Rattle.fleet_world.specs.Run.{Results, Run}
use Rattle.fleet_world.specs.Origin.{Stems}
use Rattle.fleet_world.specs.Reaching.{RunsTo}
use Rattle.fleet_world.specs.declared.event.Event.{Event}
use Rattle.fleet_world.specs.declared.event.Event.TheVariants.{Datagram, Frame, Deliver}

-- what comes to a site from this address is a frame: the address is a peer's, and no upstream's
pub record IsFromPeer (configs : List ConfigData) (site : ℕ) (from : Addr) : Type 0 where
  pub config : ConfigData
  pub there : At configs site config
  pub peer : IsAmong config.peers from
  pub no_upstream : ¬ IsAmong config.upstreams from

-- the octets are those of a kept frame, and f is its delivery
pub record IsDeliveryOf {A : Type 0} (m : FleetModel) (site : ℕ) (now : Seconds) (octets : OctetList)
    (f : Event A) : Type 0 where
  pub number : ℕ
  pub kept : At m.frames number octets
  pub delivery : f ≡ Deliver site now number

-- An event arrives as it is; or, where it brings as a frame the octets of a frame kept by then, as the
-- delivery of that frame.
abbrev pub CountsAs : {A : Type 0} → List ConfigData → FleetModel → Event A → Event A → Type 0
CountsAs configs m (Datagram site now from word bytes) f =
    (f ≡ Datagram site now from word bytes)
    ⊎ (IsFromPeer configs site from × IsDeliveryOf m site now bytes f)
CountsAs configs m (Frame site now bytes) f =
    (f ≡ Frame site now bytes) ⊎ IsDeliveryOf m site now bytes f
CountsAs configs m e f = f ≡ e

-- the events of this very run arrive as these, one by one
abbrev pub CountAs : {A : Type 0} → List ConfigData
    → (m : FleetModel) (es : List (Event A)) (rs : Results A) (n : FleetModel) → Run m es rs n
    → List (Event A) → Type 0
CountAs configs m (e ∷ es) (r ∷ rs) n run (f ∷ fs) =
    CountsAs configs m e f × CountAs configs run.0 es rs n run.2 fs
CountAs configs m [] [] n run [] = Unit {0}
CountAs configs m es rs n run fs = ⊥

-- b is the same site as a, but that it may have had more delivered, and have heard of more
pub record HeardMore (a b : Replica) : Type 0 where
  pub site : b.site ≡ a.site
  pub heard : (o : ObservationData) → Has a.heard o → Has b.heard o
  pub delivered : (number : ℕ) → Has a.delivered number → Has b.delivered number
  pub horizon : a.horizon ≤ b.horizon

-- w is the same sweep as v, but that its sender may have heard of more
pub record SweptMore (v w : SentSweep) : Type 0 where
  pub numbers : w.numbers ≡ v.numbers
  pub heard : (o : ObservationData) → Has v.heard o → Has w.heard o
  pub horizon : v.horizon ≤ w.horizon

-- n is the same fleet as m, but that its sites may have had more delivered, and have heard of more
pub record IsAlike (m n : FleetModel) : Type 0 where
  pub sites : AllZip HeardMore m.sites n.sites
  pub frames : n.frames ≡ m.frames
  pub sweeps : AllZip SweptMore m.sweeps n.sweeps

-- However the events of a run arrive, there is a run of them as they arrive, with the same results. At
-- its end each site is the same, but that it may have had more delivered, and have heard of more.
abbrev pub CountAlike : Type 0 → Type 0
CountAlike A =
    (configs : List ConfigData) (m k : FleetModel) → RunsTo A (opening configs) m → IsAlike m k
    → (events : List (Event A)) (results : Results A) (n : FleetModel)
    (run : Run m events results n) (arrived : List (Event A))
    → CountAs configs m events results n run arrived
    → (l : FleetModel) × Run k arrived results l × IsAlike n l

-- a world that stands for a fleet stands for one that is alike
abbrev pub AlikeStand : Type 0
AlikeStand =
    (m n : FleetModel) → IsAlike m n → (w : WorldData) → StandsFor w m → StandsFor w n

-- the octets are those of a kept frame
abbrev pub IsKept : FleetModel → OctetList → Type 0
IsKept m octets = (number : ℕ) × At m.frames number octets

-- what comes in as a frame in this event, if anything does, is the octets of a frame that was kept by
-- then
abbrev pub GossipIsKept : {A : Type 0} → List ConfigData → FleetModel → Event A → Type 0
GossipIsKept configs m (Datagram site now from word bytes) =
    when IsFromPeer configs site from then IsKept m bytes otherwise Unit {0}
GossipIsKept configs m (Frame site now bytes) = IsKept m bytes
GossipIsKept configs m e = Unit {0}

-- what comes in as a frame in each event of a run is the octets of a frame that was kept by then
abbrev pub AllGossipIsKept : {A : Type 0} → List ConfigData
    → (m : FleetModel) (es : List (Event A)) (rs : Results A) (n : FleetModel) → Run m es rs n
    → Type 0
AllGossipIsKept configs m (e ∷ es) (r ∷ rs) n run =
    GossipIsKept configs m e × AllGossipIsKept configs run.0 es rs n run.2
AllGossipIsKept configs m es rs n run = Unit {0}

-- an event in which no octets come in as a frame
abbrev pub BringsNoOctets : {A : Type 0} → List ConfigData → Event A → Type 0
BringsNoOctets configs (Datagram site now from word bytes) = ¬ IsFromPeer configs site from
BringsNoOctets configs (Frame site now bytes) = ⊥
BringsNoOctets configs e = Unit {0}

-- events in none of which octets come in as a frame
abbrev pub BringNoOctets : {A : Type 0} → List ConfigData → List (Event A) → Type 0
BringNoOctets configs [] = Unit {0}
BringNoOctets configs (e ∷ es) = BringsNoOctets configs e × BringNoOctets configs es

-- Where what comes in as a frame is a kept one, the events arrive as some in which every frame is
-- delivered.
abbrev pub KeptCountAs : Type 0 → Type 0
KeptCountAs A =
    (configs : List ConfigData) (m : FleetModel) (events : List (Event A)) (results : Results A)
    (n : FleetModel) (run : Run m events results n) → AllGossipIsKept configs m events results n run
    → (arrived : List (Event A)) × CountAs configs m events results n run arrived
    × BringNoOctets configs arrived

-- o is an observation of the frame that these octets are, and no kept frame has these octets
pub record IsOfStrange (m : FleetModel) (octets : OctetList) (o : ObservationData) : Type 0 where
  pub strange : ¬ IsKept m octets
  pub list : Observations
  pub spelled : SpellsFrame octets list
  pub among : Has list o

-- o is an observation of octets that come in as a frame in this event, and are no kept frame's then
abbrev pub BringsForged : {A : Type 0} → List ConfigData → FleetModel → Event A → ObservationData
    → Type 0
BringsForged configs m (Datagram site now from word bytes) o =
    IsFromPeer configs site from × IsOfStrange m bytes o
BringsForged configs m (Frame site now bytes) o = IsOfStrange m bytes o
BringsForged configs m e o = ⊥

-- o is an observation of octets that came in as a frame in this run, and were no kept frame's then
abbrev pub IsForged : {A : Type 0} → List ConfigData
    → (m : FleetModel) (es : List (Event A)) (rs : Results A) (n : FleetModel) → Run m es rs n
    → ObservationData → Type 0
IsForged configs m (e ∷ es) (r ∷ rs) n run o =
    BringsForged configs m e o ⊎ IsForged configs run.0 es rs n run.2 o
IsForged configs m [] [] n run o = ⊥
IsForged configs m [] (r ∷ rs) n run o = ⊥
IsForged configs m (e ∷ es) [] n run o = ⊥

-- Each member of what a site took in is an observation of a reply, or the flush of an event, or of
-- octets that came in as a frame and were no kept frame's, in the run.
abbrev pub StemsOrForged : Type 0 → Type 0
StemsOrForged A =
    (configs : List ConfigData) (events : List (Event A)) (results : Results A) (end : FleetModel)
    (run : Run (opening configs) events results end) → (i : ℕ) (a : Replica) → At end.sites i a
    → (o : ObservationData) → Has a.site.taken o
    → Stems (opening configs) events results end run o
    ⊎ IsForged configs (opening configs) events results end run o

-- where what comes in as a frame is a kept one, each member of what a site took in is an observation of
-- a reply, or the flush of an event, in the run
abbrev pub StemsFromKept : Type 0 → Type 0
StemsFromKept A =
    (configs : List ConfigData) (events : List (Event A)) (results : Results A) (end : FleetModel)
    (run : Run (opening configs) events results end)
    → AllGossipIsKept configs (opening configs) events results end run
    → (i : ℕ) (a : Replica) → At end.sites i a
    → (o : ObservationData) → Has a.site.taken o → Stems (opening configs) events results end run o
