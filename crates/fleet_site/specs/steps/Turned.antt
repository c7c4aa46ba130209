-- What the parts of a turn of the server did.
-- Serves `serve`.
use Rattle.std.specs.Prelude.{◌≡◌, ℕ, ◌≤◌, false, List, [], ◌∷◌, Option, Some, length}
use Rattle.std.specs.Option.{unwrap_or}
use Rattle.fleet_name.specs.Types.{OctetList}
use Rattle.fleet_wire.specs.Types.{Seconds}
use Rattle.fleet_pending.specs.declared.bounds.TheConstants.{MOST_ENTRIES}
use Rattle.fleet_pending.specs.declared.addr.Addr.{Addr}
use Rattle.fleet_site.specs.SiteData.{SiteData}
use Rattle.fleet_site.specs.server.PortRecord.{PortCall, PortState, Made, HasRoomFor}
use Rattle.fleet_site.specs.server.Sending.{count_call}
use Rattle.fleet_site.specs.Step.{datagram}
use Rattle.fleet_site.specs.server.Turn.{Action, calling, HasActed, calls_of, count_actions, ROOM, Given, Ticks, SweepsWhenDue, Turn}
use Rattle.fleet_site.specs.declared.report.Report.{Report}

-- what the parts of a turn begin and end with
pub record LoopState : Type 0 where
  pub port : PortState
  pub site : SiteData
  pub report : Report

-- the state of these parts
abbrev pub loop_state : PortState → SiteData → Report → LoopState
loop_state port site report = record { port = port; site = site; report = report }

-- one turn was made; the next sweep is counted from the one moment before it, and from the other one
-- after it
pub record Turned (a b : LoopState) (t : Seconds) (word : ℕ) (every : Seconds)
    (since last : Option Seconds) : Type 0 where
  pub calls : List PortCall
  pub turn : Turn t word every
      (record { site = a.site; calls = []; swept = since; report = a.report })
      (record { site = b.site; calls = calls; swept = last; report = b.report })
  pub made : Made a.port b.port calls

-- steps were taken, carried out and counted
pub record Took (a b : LoopState) (actions : List Action) : Type 0 where
  pub acted : HasActed a.site b.site actions
  pub made : Made a.port b.port (calls_of actions)
  pub report : b.report ≡ count_actions actions a.report

-- a datagram was given to the site, and what that gave was carried out and counted
pub record GivenOne (a b : LoopState) (t : Seconds) (from : Addr) (octets : OctetList) (word : ℕ)
    : Type 0 where
  pub action : Action
  pub step : action.step ≡ calling (datagram t from octets word)
  pub took : Took a b (action ∷ [])

-- what was received was given to the site, and what that gave was carried out and counted
pub record ReceivedOne (a b : LoopState) (t : Seconds) (word : ℕ) : Type 0 where
  pub arrival : PortCall
  pub actions : List Action
  pub asks : HasRoomFor ROOM arrival
  pub given : Given t word arrival actions
  pub acted : HasActed a.site b.site actions
  pub made : Made a.port b.port (arrival ∷ calls_of actions)
  pub report : b.report ≡ count_actions actions (count_call arrival a.report)

-- the site ticked until no other entry was due, or a tick ran out of memory
pub record TickedAll (a b : LoopState) (t : Seconds) : Type 0 where
  pub actions : List Action
  pub ticks : Ticks t actions false
  pub few : length actions ≤ MOST_ENTRIES
  pub took : Took a b actions

-- the site swept where it was time, and what that gave was carried out and counted; the next sweep is
-- counted from the one moment before it, and from the other one after it
pub record SweptOnce (a b : LoopState) (every t : Seconds) (since last : Option Seconds)
    : Type 0 where
  pub actions : List Action
  pub swept : (moment : ℕ) × SweepsWhenDue every (unwrap_or since t) t actions moment
      × (last ≡ Some moment)
  pub took : Took a b actions
