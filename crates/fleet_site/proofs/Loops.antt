-- What the loops of a server keep.
-- Serves `give`, `receive`, `serve`, `sweep_if_due`, `take_turn`, `tick_all`, the laws
-- `own_replies`, `questions_answered`.
use Rattle.std.specs.Prelude.{◌≡◌, ℕ, ◌+◌, ◌<◌, ◌≤◌, max, Bool, true, false, List, length, Option, Result}
use Rattle.rand_core.specs.Stream.{Stream}
use Rattle.fleet_pending.specs.declared.bounds.TheConstants.{MOST_ENTRIES}
use Rattle.fleet_pending.specs.Due.{due_at}
use Rattle.fleet_site.specs.declared.bounds.TheConstants.{MOST_COUNTED}
use Rattle.fleet_site.specs.OutcomeData.{OutcomeData}
use Rattle.fleet_site.specs.SiteData.{SiteData}
use Rattle.fleet_site.specs.SiteModel.{SiteModel}
use Rattle.fleet_site.specs.StandsFor.{StandsFor}
use Rattle.fleet_site.specs.server.PortRecord.{PortState, Made}
use Rattle.fleet_site.specs.steps.Turned.{LoopState, Took}
use Rattle.fleet_site.specs.server.Turn.{Action, ServerState, TurnStep, TurnStepSays, Ticks, Turns, start_of}
use Rattle.fleet_site.specs.declared.outcome.SiteFault.{SiteFault}
use Rattle.fleet_site.specs.declared.report.Report.{Report}

-- for each model that the site stood for this is a step, and the site stands for the model
-- afterwards
pub record Stepped (x : TurnStep) (a : Result OutcomeData SiteFault) (old new : SiteData) : Type 0 where
  pub step : (m : SiteModel) → StandsFor old m → (n : SiteModel) × TurnStepSays m x a n × StandsFor new n
  pub config : new.config ≡ old.config

-- how many entries of a site are due at a moment, which raises its clock
abbrev pub due_by : SiteData → ℕ → ℕ
due_by s t = due_at s.pending (max s.clock t)

-- how many ticks there can be yet
abbrev pub room : Bool → ℕ → ℕ
room true due = max 1 due
room false due = 0

-- it falls with each tick
abbrev pub ticks_left : Bool → ℕ → ℕ
ticks_left true due = due + 1
ticks_left false due = 0

-- some ticks of a turn
pub record Ticking (a b : LoopState) (t : ℕ) (more : Bool) : Type 0 where
  pub actions : List Action
  pub ticks : Ticks t actions more
  pub few : length actions + room more (due_by b.site t) ≤ MOST_ENTRIES
  pub took : Took a b actions

-- some turns of a run
pub record Serves (old new : PortState) (moments : Option (ℕ → ℕ)) (s : Stream) (n every : ℕ)
    (site after : SiteData) (swept : Option ℕ) (report : Report) : Type 0 where
  pub end : ServerState
  pub run : Turns moments s every n (start_of site) end
  pub made : Made old new end.calls
  pub is_site : after ≡ end.site
  pub is_swept : swept ≡ end.swept
  pub is_report : report ≡ end.report

-- what a port counts as failures is what a report counts as lost and faults, where no count is at
-- its end
pub record CountsFailures (old new : ℕ) (r q : Report) : Type 0 where
  pub lost : q.lost < MOST_COUNTED → r.lost ≤ q.lost
  pub faults : q.faults < MOST_COUNTED → r.faults ≤ q.faults
  pub failed : new < MOST_COUNTED → old ≤ new
  pub sum : q.lost < MOST_COUNTED → q.faults < MOST_COUNTED
      → new < MOST_COUNTED → new + (r.lost + r.faults) ≡ old + (q.lost + q.faults)
