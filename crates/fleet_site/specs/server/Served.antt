-- What the loop of a server did, part by part.
-- Serves `serve`.
use Rattle.std.specs.Prelude.{◌≡◌, ℕ, List, Option}
use Rattle.fleet_wire.specs.Types.{Seconds}
use Rattle.rand_core.specs.Stream.{Stream}
use Rattle.fleet_site.specs.SiteData.{SiteData}
use Rattle.fleet_site.specs.SiteModel.{SiteModel}
use Rattle.fleet_site.specs.StandsFor.{StandsFor}
use Rattle.fleet_site.specs.server.PortRecord.{PortState, Made}
use Rattle.fleet_site.specs.server.Turn.{Action, ActionsLead, ServerState, Turns, start_of}
use Rattle.fleet_site.specs.declared.report.Report.{Report}

-- what a run of a server is given: the moments of its clock, where they are known, the words of its
-- generator, the number of its turns, and the seconds between two sweeps
pub record RunInput : Type 0 where
  pub moments : Option (ℕ → ℕ)
  pub words : Stream
  pub turns : ℕ
  pub every : Seconds

-- the run of a server is its turns, and where the port keeps its record, their calls are its last ones
pub record Served (old new : PortState) (site after : SiteData) (i : RunInput) (report : Report)
    : Type 0 where
  pub end : ServerState
  pub run : Turns i.moments i.words i.every i.turns (start_of site) end
  pub made : Made old new end.calls
  pub is_site : after ≡ end.site
  pub is_report : report ≡ end.report

-- over a run the site follows its model: for each one that it stood for there are steps, and it stands
-- for what comes after them
pub record FollowsSteps (old new : SiteData) : Type 0 where
  pub steps : (m : SiteModel) → StandsFor old m
      → (n : SiteModel) × (actions : List Action) × ActionsLead m actions n × StandsFor new n
