-- Servers side by side: what each of them did, as one run of the fleet.
-- Serves law `servers`.
use Rattle.std.specs.Prelude.{◌≡◌, ℕ, ◌+◌, ◌⊎◌, if◌then◌else◌, nat_eq, List, [], ◌∷◌, ◌++◌, length, Result, Ok, Err}
use Rattle.fleet_name.specs.Types.{OctetList}
use Rattle.fleet_name.specs.Places.{At, Has}
use Rattle.fleet_wire.specs.Types.{Seconds}
use Rattle.fleet_pending.specs.declared.addr.Addr.{Addr}
use Rattle.fleet_observe.specs.Observation.{AreObservations}
use Rattle.fleet_site.specs.ConfigData.{ConfigData}
use Rattle.fleet_site.specs.OutcomeData.{OutcomeData}
use Rattle.fleet_site.specs.PacketData.{PacketData}
use Rattle.fleet_site.specs.SiteModel.{SiteModel}
use Rattle.fleet_site.specs.SiteData.{SiteData}
use Rattle.fleet_site.specs.StandsFor.{opening as site_at_first, StandsFor as StandsForSite}
use Rattle.fleet_site.specs.Step.{Call, datagram, tick, frame, learn, flush}
use Rattle.fleet_site.specs.server.PortRecord.{Received, PacketSent}
use Rattle.fleet_site.specs.server.Sending.{packets_of}
use Rattle.fleet_site.specs.server.Served.{RunInput}
use Rattle.fleet_site.specs.server.Turn.{TurnStep, calling, sweeping, Action, TurnStepSays, ActionsLead, ServerState, Turns}
use Rattle.fleet_site.specs.declared.outcome.SiteFault.{SiteFault}
use Rattle.fleet_site.specs.declared.outcome.SiteFault.TheVariants.{OutOfMemory}
use Rattle.fleet_world.specs.FleetModel.{Replica, FleetModel, opening, numbers_from}
use Rattle.fleet_world.specs.Step.{stepped_of}
use Rattle.fleet_world.specs.StandsFor.{StandsForReplica}
use Rattle.fleet_world.specs.Run.{Results, Run}
use Rattle.fleet_world.specs.declared.event.Event.{Event}
use Rattle.fleet_world.specs.declared.event.Event.TheVariants.{Datagram, Tick, Sweep, Frame, Learn, Flush}
use Rattle.fleet_world.specs.declared.fault.WorldFault.TheVariants.{Memory}

-- a step that the server of a site took
pub record SiteAction : Type 0 where
  pub site : ℕ
  pub action : Action

-- what one of the servers did, in its order
abbrev pub actions_of : ℕ → List SiteAction → List Action
actions_of i [] = []
actions_of i (x ∷ xs) = if nat_eq x.site i then x.action ∷ actions_of i xs else actions_of i xs

-- the event that a call at a site is
abbrev pub event_of : {A : Type 0} → ℕ → Call → Event A
event_of i (datagram now from octets word) = Datagram i now from word octets
event_of i (tick now) = Tick i now
event_of i (frame now octets) = Frame i now octets
event_of i (learn now octets) = Learn i now octets
event_of i (flush now name) = Flush i now name

-- the event that an action is, before others; a sweep that ran out of memory changes nothing, and is
-- none
abbrev pub event_before : {A : Type 0} → ℕ → TurnStep → Result OutcomeData SiteFault
    → List (Event A) → List (Event A)
event_before i (calling c) answer es = event_of i c ∷ es
event_before i sweeping (Ok o) es = Sweep i ∷ es
event_before i sweeping (Err f) es = es

-- the events that what servers did are, in their order
abbrev pub events_of : {A : Type 0} → List SiteAction → List (Event A)
events_of [] = []
events_of (x ∷ xs) = event_before x.site x.action.step x.action.answer (events_of xs)

-- how many frames an action gave
abbrev pub frames_in : Result OutcomeData SiteFault → ℕ
frames_in (Ok o) = length o.frames
frames_in (Err f) = 0

-- the result of the event that an action is, before others, where n frames were kept before; each frame
-- is kept
abbrev pub result_before : {A : Type 0} → ℕ → TurnStep → Result OutcomeData SiteFault → Results A
    → Results A
result_before n step (Ok o) rs = Ok (stepped_of o (numbers_from n (length o.frames))) ∷ rs
result_before n (calling c) (Err (OutOfMemory count)) rs = Err (Memory count) ∷ rs
result_before n sweeping (Err f) rs = rs

-- the results of the events that what servers did are, where n frames were kept before; each frame is
-- kept
abbrev pub results_of : {A : Type 0} → ℕ → List SiteAction → Results A
results_of n [] = []
results_of n (x ∷ xs) =
    result_before n x.action.step x.action.answer
    (results_of (n + frames_in x.action.answer) xs)

-- the steps in a row lead from a model to one that the site stands for
abbrev pub Acts : SiteModel → List Action → SiteData → Type 0
Acts m actions d = (n : SiteModel) × ActionsLead m actions n × StandsForSite d n

-- what a server did between two states: the actions lead on from each model that its site stood for;
-- each datagram among them was received; and each packet that was sent since is one that some of them
-- gave
pub record HasDone (a b : ServerState) (actions : List Action) : Type 0 where
  pub leads : (m : SiteModel) → StandsForSite a.site m → Acts m actions b.site
  pub received : (x : Action) → Has actions x
      → (t : Seconds) (from : Addr) (octets : OctetList) (word : ℕ)
      → x.step ≡ calling (datagram t from octets word)
      → (asked : ℕ) × Has b.calls (Received asked from octets)
  pub sent : (p : PacketData) → Has b.calls (PacketSent p)
      → Has a.calls (PacketSent p)
      ⊎ ((x : Action) × Has actions x × Has (packets_of a.site.config.peers x.answer) p)

-- what the turns of a run do is actions of which `HasDone` holds
abbrev pub TurnsAct : Type 0
TurnsAct =
    (input : RunInput) (a b : ServerState)
    → Turns input.moments input.words input.every input.turns a b
    → (actions : List Action) × HasDone a b actions

-- Whatever servers of these configurations did, and in whatever order between them, is a run of the
-- fleet; and the site of each server stands for that of the fleet then.
abbrev pub ServersRun : Type 0 → Type 0
ServersRun A =
    (configs : List ConfigData) (all : List SiteAction) (sites : ℕ → SiteData)
    → ((x : SiteAction) → Has all x → (c : ConfigData) × At configs x.site c)
    → ((i : ℕ) (c : ConfigData) → At configs i c
    → Acts (site_at_first c.upstreams c.peers) (actions_of i all) (sites i))
    → (end : FleetModel)
    × Run {A = A} (opening configs) (events_of all) (results_of 0 all) end
    × ((i : ℕ) (c : ConfigData) → At configs i c
    → (a : Replica) × At end.sites i a × StandsForReplica (sites i) a)

-- What servers did before one action is a run of the fleet; and the action is a step of its site from
-- where the site stands then.
abbrev pub ServersStep : Type 0 → Type 0
ServersStep A =
    (configs : List ConfigData) (all : List SiteAction) (sites : ℕ → SiteData)
    → ((x : SiteAction) → Has all x → (c : ConfigData) × At configs x.site c)
    → ((i : ℕ) (c : ConfigData) → At configs i c
    → Acts (site_at_first c.upstreams c.peers) (actions_of i all) (sites i))
    → (before after : List SiteAction) (x : SiteAction) → all ≡ before ++ x ∷ after
    → (m : FleetModel) × Run {A = A} (opening configs) (events_of before) (results_of 0 before) m
    × (a : Replica) × At m.sites x.site a
    × (next : SiteModel) × TurnStepSays a.site x.action.step x.action.answer next
    × AreObservations next.taken
