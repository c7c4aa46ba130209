-- A run of a server is its turns, one after the other.
-- Serves `serve`.
use Rattle.std.specs.Prelude.{◌≡◌, ℕ, suc, zero, ◌+◌, ◌%◌, ◌<◌, ◌≤◌, Bool, true, false, List, [], ◌∷◌, ◌++◌, Option, Some, None, Result, Ok, Err, length}
use Rattle.std.specs.Option.{unwrap_or}
use Rattle.fleet_name.specs.Types.{OctetList}
use Rattle.fleet_wire.specs.Types.{Seconds}
use Rattle.rand_core.specs.Stream.{Stream, next_u32}
use Rattle.fleet_gossip.specs.declared.bounds.TheConstants.{LONGEST_FRAME}
use Rattle.fleet_pending.specs.declared.bounds.TheConstants.{MOST_ENTRIES}
use Rattle.fleet_pending.specs.declared.addr.Addr.{Addr}
use Rattle.fleet_site.specs.Choice.{when◌then◌otherwise◌}
use Rattle.fleet_site.specs.OutcomeData.{OutcomeData, nothing}
use Rattle.fleet_site.specs.SiteModel.{SiteModel}
use Rattle.fleet_site.specs.SiteData.{SiteData}
use Rattle.fleet_site.specs.StandsFor.{StandsFor}
use Rattle.fleet_site.specs.gossip.Sweep.{IsSweep}
use Rattle.fleet_site.specs.Step.{Call, datagram, tick, Step}
use Rattle.fleet_site.specs.server.PortRecord.{PortCall, Received, NoDatagram, Fault, PacketSent, PacketLost, HasRoomFor, one_more}
use Rattle.fleet_site.specs.server.Sending.{AreSent, packets_of, count_call, count_calls, count_step, goes_on}
use Rattle.fleet_site.specs.declared.outcome.SiteFault.{SiteFault}
use Rattle.fleet_site.specs.declared.outcome.SiteFault.TheVariants.{OutOfMemory}
use Rattle.fleet_site.specs.declared.report.Report.{Report}

-- a step of a turn: a call with a moment, or a sweep
pub data TurnStep : Type 0 where
  calling : Call → TurnStep
  sweeping : TurnStep

-- a sweep gives the frames of all that is held, and changes nothing; it may run out of memory
abbrev pub SweepSays : SiteModel → Result OutcomeData SiteFault → SiteModel → Type 0
SweepSays m (Ok e) n =
    (frames : List OctetList) × IsSweep m frames
    × (e ≡ record nothing { frames = frames }) × (n ≡ m)
SweepSays m (Err (OutOfMemory taken)) n = (taken ≡ 0) × (n ≡ m)

-- from m the step says this and leads to n
abbrev pub TurnStepSays : SiteModel → TurnStep → Result OutcomeData SiteFault → SiteModel → Type 0
TurnStepSays m (calling c) a n = Step m c a n
TurnStepSays m sweeping a n = SweepSays m a n

-- a step of a turn, what it said, and the calls of the port that sent what it gave
pub record Action : Type 0 where
  pub step : TurnStep
  pub answer : Result OutcomeData SiteFault
  pub calls : List PortCall

-- all calls of the port that sent what these steps gave
abbrev pub calls_of : List Action → List PortCall
calls_of [] = []
calls_of (a ∷ actions) = a.calls ++ calls_of actions

-- a report counts these steps and the calls that sent what they gave
abbrev pub count_actions : List Action → Report → Report
count_actions [] r = r
count_actions (a ∷ actions) r = count_actions actions (count_calls a.calls (count_step a.answer r))

-- all that these steps gave was sent or lost
abbrev pub AllSent : List Addr → List Action → Type 0
AllSent peers [] = Unit {0}
AllSent peers (a ∷ actions) = AreSent (packets_of peers a.answer) a.calls × AllSent peers actions

-- the steps in a row lead from m to n
abbrev pub ActionsLead : SiteModel → List Action → SiteModel → Type 0
ActionsLead m [] n = n ≡ m
ActionsLead m (a ∷ actions) n =
    (mid : SiteModel) × TurnStepSays m a.step a.answer mid × ActionsLead mid actions n

-- the site took these steps, and all that they gave was sent or lost
pub record HasActed (old new : SiteData) (actions : List Action) : Type 0 where
  pub steps : (m : SiteModel) → StandsFor old m
      → (n : SiteModel) × ActionsLead m actions n × StandsFor new n
  pub config : new.config ≡ old.config
  pub sent : AllSent old.config.peers actions

-- what a turn received is given to the site, and nothing where nothing was received
abbrev pub Given : Seconds → ℕ → PortCall → List Action → Type 0
Given t word (Received asked from octets) actions =
    (a : Action) × (actions ≡ a ∷ []) × (a.step ≡ calling (datagram t from octets word))
Given t word (NoDatagram asked) actions = actions ≡ []
Given t word (Fault asked) actions = actions ≡ []
Given t word (PacketSent s) actions = ⊥
Given t word (PacketLost s) actions = ⊥

-- ticks at a moment, each because the one before said that another question is due; and whether the
-- last one says so
pub data Ticks (t : Seconds) : List Action → Bool → Type 0 where
  no_tick : Ticks t [] true
  next_tick : {actions : List Action} (a : Action) → Ticks t actions true
      → a.step ≡ calling (tick t) → Ticks t (actions ++ a ∷ []) (goes_on a.answer)

-- it is time to sweep: this number of seconds has passed since a moment, and it is not 0
pub record IsSweepDue (every since t : Seconds) : Type 0 where
  pub some : 0 < every
  pub passed : since + every ≤ t

-- a sweep where it is time for one, and the moment that the next sweep is counted from
abbrev pub SweepsWhenDue : Seconds → Seconds → Seconds → List Action → ℕ → Type 0
SweepsWhenDue every since t actions last =
    when IsSweepDue every since t
    then ((a : Action) × (actions ≡ a ∷ []) × (a.step ≡ sweeping) × (last ≡ t)) otherwise
    ((actions ≡ []) × (last ≡ since))

-- a server between two turns: its site, the calls of its port so far, the moment that the next sweep is
-- counted from, and its report
pub record ServerState : Type 0 where
  pub site : SiteData
  pub calls : List PortCall
  pub swept : Option Seconds
  pub report : Report

-- how many octets a turn asks for: one more than the longest frame has, so that no frame is cut to one
-- that could be read
abbrev pub ROOM : ℕ
ROOM = LONGEST_FRAME + 1

-- One turn of a server, at a moment with a word: it receives at most one datagram, for which it asks
-- for ROOM octets, and gives it to the site; ticks, at most MOST_ENTRIES times; and sweeps if it is
-- time. What a step gives is sent before the next step.
pub record Turn (t : Seconds) (word : ℕ) (every : Seconds) (a b : ServerState) : Type 0 where
  pub arrival : PortCall
  pub given : List Action
  pub ticks : List Action
  pub sweep : List Action
  pub asks : HasRoomFor ROOM arrival
  pub is_given : Given t word arrival given
  pub are_ticks : Ticks t ticks false
  pub few : length ticks ≤ MOST_ENTRIES
  pub is_swept : (last : ℕ)
      × SweepsWhenDue every (unwrap_or a.swept t) t sweep last
      × (b.swept ≡ Some last)
  pub acted : HasActed a.site b.site (given ++ (ticks ++ sweep))
  pub calls : b.calls ≡ a.calls ++ arrival ∷ calls_of (given ++ (ticks ++ sweep))
  pub report : b.report
      ≡ count_actions (given ++ (ticks ++ sweep))
      (count_call arrival (record a.report { turns = one_more a.report.turns }))

-- what a generator has left after n words
abbrev pub left_after : ℕ → Stream → Stream
left_after zero s = s
left_after (suc n) s = (next_u32 (left_after n s)).1

-- the word of the turn with this number: the low 16 bits of what the generator gives then
abbrev pub word_of : Stream → ℕ → ℕ
word_of s n = (next_u32 (left_after n s)).0 % 65536

-- the moment of the turn with this number is the one that the clock gives, where its moments are known
abbrev pub IsMomentOfTurn : Option (ℕ → ℕ) → ℕ → Seconds → Type 0
IsMomentOfTurn None n t = Unit {0}
IsMomentOfTurn (Some moments) n t = t ≡ moments n

-- what a clock is going to give once this number of moments was read, where its moments are known
-- before
abbrev pub HasPassed : Option (ℕ → ℕ) → ℕ → Option (ℕ → ℕ) → Type 0
HasPassed None n now = Unit {0}
HasPassed (Some moments) n now =
    (rest : ℕ → ℕ) × (now ≡ Some rest) × ((k : ℕ) → rest k ≡ moments (n + k))

-- this number of turns in a row, each with its moment and its word
abbrev pub Turns : Option (ℕ → ℕ) → Stream → Seconds → ℕ → ServerState → ServerState → Type 0
Turns moments s every zero a b = b ≡ a
Turns moments s every (suc n) a b =
    (mid : ServerState) × (t : Seconds) × Turns moments s every n a mid
    × IsMomentOfTurn moments n t × Turn t (word_of s n) every mid b

-- a report that counted nothing yet
abbrev pub empty_report : Report
empty_report = record {
  turns = 0;
  received = 0;
  sent = 0;
  lost = 0;
  faults = 0;
  refused = 0;
  short = 0;
}

-- where a run of a server begins: this site, no call, no sweep, nothing counted
abbrev pub start_of : SiteData → ServerState
start_of site = record { site = site; calls = []; swept = None; report = empty_report }
