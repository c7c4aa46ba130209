-- What an event does at its site.
-- Serves `World::step` and `World::ask`.
use Rattle.std.specs.Prelude.{◌≡◌, ℕ, List, slice_set, Result, Ok, Err}
use Rattle.std.specs.List.{AllZip}
use Rattle.fleet_name.specs.Places.{At}
use Rattle.fleet_site.specs.Choice.{when◌then◌otherwise◌}
use Rattle.fleet_site.specs.OutcomeData.{OutcomeData}
use Rattle.fleet_site.specs.SiteModel.{SiteModel}
use Rattle.fleet_site.specs.SiteData.{SiteData}
use Rattle.fleet_site.specs.StandsFor.{Gathers}
use Rattle.fleet_site.specs.StandsFor.{StandsFor as StandsForSite}
use Rattle.fleet_site.specs.declared.looked.Looked.{Looked}
use Rattle.fleet_site.specs.declared.outcome.SiteFault.{SiteFault}
use Rattle.fleet_site.specs.declared.outcome.SiteFault.TheVariants.{OutOfMemory}
use Rattle.fleet_world.specs.Becomes.{Becomes}
use Rattle.fleet_world.specs.Event.{site_of}
use Rattle.fleet_world.specs.FleetModel.{Replica, FleetModel}
use Rattle.fleet_world.specs.StandsFor.{StandsForReplica}
use Rattle.fleet_world.specs.declared.event.Event.{Event}
use Rattle.fleet_world.specs.declared.fault.WorldFault.{WorldFault}
use Rattle.fleet_world.specs.declared.fault.WorldFault.TheVariants.{Memory}

-- the event gives this outcome or fault at its site, and the sites stand for those of the model
-- afterwards
pub record Happens {A : Type 0} (m : FleetModel) (e : Event A) (r : Result OutcomeData SiteFault)
    (sites : List SiteData) : Type 0 where
  pub old : Replica
  pub new : Replica
  pub there : At m.sites (site_of e) old
  pub becomes : Becomes m e r old new
  pub stands : AllZip StandsForReplica sites (slice_set m.sites (site_of e) new)

-- one of the sites takes in what another one holds, and the list has it then
pub record Merged (old : List SiteData) (into from : ℕ) (r : Result ℕ SiteFault)
    (new : List SiteData)
    : Type 0 where
  pub target : SiteData
  pub source : SiteData
  pub site : SiteData
  pub at_into : At old into target
  pub at_from : At old from source
  pub gathers : (m other : SiteModel) → StandsForSite target m → StandsForSite source other
      → Gathers m other r site
  pub set : new ≡ slice_set old into site

-- a site takes in what another one holds, and nothing of itself
abbrev pub MergesAt : List SiteData → ℕ → ℕ → Result ℕ SiteFault → List SiteData → Type 0
MergesAt old into from r new =
    when into ≡ from then ((r ≡ Ok 0) × (new ≡ old)) otherwise Merged old into from r new

-- a fault of a site, as one of a world
abbrev pub FailsAs : {A : Type 0} → SiteFault → WorldFault A → Type 0
FailsAs (OutOfMemory count) f = f ≡ Memory count

-- what asking a site gives, as what asking a world gives; it takes nothing
abbrev pub LooksAs : {A : Type 0} → Result (Looked A) SiteFault → Result (Looked A) (WorldFault A)
    → Type 0
LooksAs (Ok looked) r = r ≡ Ok looked
LooksAs (Err f) r = r ≡ Err (Memory 0)
