-- Runs in which nothing new comes in.
-- Serves laws `agreement`, `telling`.
use Rattle.std.specs.Prelude.{◌≡◌, ℕ, ◌≤◌, List, ◌∷◌, length, Result, Ok, Err}
use Rattle.fleet_name.specs.Places.{At, Has}
use Rattle.fleet_observe.specs.Observation.{ObservationData}
use Rattle.fleet_world.specs.FleetModel.{Replica, FleetModel}
use Rattle.fleet_world.specs.Run.{Results, Run}
use Rattle.fleet_world.specs.declared.event.Event.{Event}
use Rattle.fleet_world.specs.declared.event.Event.TheVariants.{Deliver, Merge}
use Rattle.fleet_world.specs.declared.stepped.Stepped.{Stepped}
use Rattle.fleet_world.specs.declared.fault.WorldFault.{WorldFault}
use Rattle.fleet_world.specs.declared.fault.WorldFault.TheVariants.{NoSite, NoFrame, Memory, FramesLost}

-- the event gave no observation to a cache
abbrev pub TakesNothing : {A : Type 0} → Result (Stepped A) (WorldFault A) → Type 0
TakesNothing (Ok s) = s.taken ≡ 0
TakesNothing (Err NoSite) = Unit {0}
TakesNothing (Err NoFrame) = Unit {0}
TakesNothing (Err (Memory taken)) = taken ≡ 0
TakesNothing (Err (FramesLost s)) = s.taken ≡ 0

-- the event is a merge, the delivery of a frame with this number or a later one, or another event that
-- takes nothing
abbrev pub BringsNoNews : {A : Type 0} → ℕ → Event A → Result (Stepped A) (WorldFault A) → Type 0
BringsNoNews first (Deliver site now frame) r = first ≤ frame
BringsNoNews first (Merge into from) r = Unit {0}
BringsNoNews first e r = TakesNothing r

-- each event of a run is a merge, the delivery of a frame with this number or a later one, or takes
-- nothing
abbrev pub BringNoNews : {A : Type 0} → ℕ → List (Event A) → Results A → Type 0
BringNoNews first (e ∷ es) (r ∷ rs) = BringsNoNews first e r × BringNoNews first es rs
BringNoNews first es rs = Unit {0}

-- events lead from m to n in which nothing new comes in: each of them is a merge, the delivery of a
-- frame that was kept since m, or another event that takes nothing
pub record RunsWithoutNews (A : Type 0) (m n : FleetModel) : Type 0 where
  pub events : List (Event A)
  pub results : Results A
  pub run : Run m events results n
  pub quiet : BringNoNews (length m.frames) events results

-- some site has heard of o
pub record IsKnown (m : FleetModel) (o : ObservationData) : Type 0 where
  pub site : ℕ
  pub replica : Replica
  pub there : At m.sites site replica
  pub heard : Has replica.heard o
