-- What an event makes of the site at which it happens.
-- Serves `World::step`.
use Rattle.std.specs.Prelude.{◌≡◌, ◌≢◌, ℕ, max, List, [], ◌++◌, Option, Some, None, Result, Ok, Err}
use Rattle.fleet_name.specs.Types.{OctetList}
use Rattle.fleet_wire.specs.Types.{Seconds}
use Rattle.fleet_observe.specs.Observation.{AreObservations, Observations}
use Rattle.fleet_name.specs.Places.{At}
use Rattle.fleet_cache.specs.Cached.{IsCached}
use Rattle.fleet_site.specs.Choice.{when◌then◌otherwise◌}
use Rattle.fleet_site.specs.OutcomeData.{OutcomeData, nothing}
use Rattle.fleet_site.specs.gossip.Merge.{Merges}
use Rattle.fleet_site.specs.SiteModel.{SiteModel}
use Rattle.fleet_site.specs.StandsFor.{opening as site_at_first}
use Rattle.fleet_site.specs.Step.{Call, datagram, tick, frame, learn, flush}
use Rattle.fleet_site.specs.Step.{Step as SiteStep}
use Rattle.fleet_site.specs.gossip.Sweep.{IsSweep}
use Rattle.fleet_site.specs.declared.outcome.Refusal.{Refusal}
use Rattle.fleet_site.specs.declared.outcome.SiteFault.{SiteFault}
use Rattle.fleet_site.specs.declared.outcome.SiteFault.TheVariants.{OutOfMemory}
use Rattle.fleet_world.specs.FleetModel.{Replica, SentSweep, FleetModel, new_replica, with_delivery}
use Rattle.fleet_world.specs.declared.event.Event.{Event}
use Rattle.fleet_world.specs.declared.event.Event.TheVariants.{Datagram, Tick, Sweep, Frame, Deliver, Learn, Flush, Merge, Restart}

-- what joins all that a site took in joins all that it heard of, so both only grow, and its horizon
-- rises with its floor
pub record BringsIn (a b : Replica) : Type 0 where
  pub brought : Observations
  pub observations : AreObservations brought
  pub taken : b.site.taken ≡ brought ++ a.site.taken
  pub heard : b.heard ≡ brought ++ a.heard
  pub delivered : b.delivered ≡ a.delivered
  pub horizon : b.horizon ≡ max a.horizon b.site.floor

-- a call at the site: a step of its model, and what it takes in joins what it heard of
pub record Calls (c : Call) (r : Result OutcomeData SiteFault) (a b : Replica)
    : Type 0 where
  pub step : SiteStep a.site c r b.site
  pub joins : BringsIn a b

-- the site after a kept frame came in: the frame is delivered unless it was refused
abbrev pub with_delivery_unless : Option Refusal → List SentSweep → ℕ → Replica → Replica
with_delivery_unless None sweeps number a = with_delivery sweeps number a
with_delivery_unless (Some refusal) sweeps number a = a

-- the site after a kept frame came in: the frame is delivered where its call was done whole, neither
-- refused nor stopped
abbrev pub with_delivery_by : Result OutcomeData SiteFault → List SentSweep → ℕ
    → Replica → Replica
with_delivery_by (Ok o) sweeps number a = with_delivery_unless o.refused sweeps number a
with_delivery_by (Err f) sweeps number a = a

-- the kept frame with this number comes in at the site
pub record Delivers (m : FleetModel) (now : Seconds) (number : ℕ)
    (r : Result OutcomeData SiteFault) (a b : Replica) : Type 0 where
  pub octets : OctetList
  pub kept : At m.frames number octets
  pub read : Replica
  pub calls : Calls (frame now octets) r a read
  pub delivered : b ≡ with_delivery_by r m.sweeps number read

-- the frames of all that the site holds go out, and nothing else is said
pub record Sweeps (o : OutcomeData) (a : Replica) : Type 0 where
  pub sweep : IsSweep a.site o.frames
  pub says : o ≡ record nothing { frames = o.frames }

-- the site holds something: a sweep of a site that holds nothing needs no memory
pub record HoldsSome (a : Replica) : Type 0 where
  pub items : Observations
  pub cached : IsCached a.site.taken a.site.floor items
  pub some : items ≢ []

-- all that another site took in and heard of joins, and that many of its items were given
pub record MergesAll (m : FleetModel) (from count : ℕ) (a b : Replica) : Type 0 where
  pub other : Replica
  pub there : At m.sites from other
  pub merges : Merges a.site other.site (Ok count) b.site
  pub heard : b.heard ≡ other.heard ++ a.heard
  pub delivered : b.delivered ≡ a.delivered
  pub horizon : b.horizon ≡ max a.horizon other.horizon

-- a merge ran out of memory: only that many of the other site's items join, the first ones
pub record MergesFirst (m : FleetModel) (from count : ℕ) (a b : Replica) : Type 0 where
  pub other : Replica
  pub there : At m.sites from other
  pub merges : Merges a.site other.site (Err (OutOfMemory count)) b.site
  pub joins : BringsIn a b

-- the site as it was at first, with the same upstreams and peers
abbrev pub site_again : SiteModel → SiteModel
site_again s = site_at_first s.upstreams s.peers

-- what one event makes of its site: its call, delivery, sweep, merge or restart is done whole with this
-- outcome, or runs out of memory
abbrev pub Becomes : {A : Type 0} → FleetModel → Event A → Result OutcomeData SiteFault → Replica
    → Replica → Type 0
Becomes m (Datagram site now from word bytes) r a b = Calls (datagram now from bytes word) r a b
Becomes m (Tick site now) r a b = Calls (tick now) r a b
Becomes m (Frame site now bytes) r a b = Calls (frame now bytes) r a b
Becomes m (Learn site now bytes) r a b = Calls (learn now bytes) r a b
Becomes m (Flush site now name) r a b = Calls (flush now name) r a b
Becomes m (Deliver site now number) r a b = Delivers m now number r a b
Becomes m (Sweep site) (Ok o) a b = Sweeps o a × (b ≡ a)
Becomes m (Sweep site) (Err (OutOfMemory count)) a b = (count ≡ 0) × (b ≡ a) × HoldsSome a
Becomes m (Merge into from) (Ok o) a b =
    when into ≡ from then (o ≡ nothing) × (b ≡ a) otherwise
    (MergesAll m from o.taken a b × (o ≡ record nothing { taken = o.taken }))
Becomes m (Merge into from) (Err (OutOfMemory count)) a b =
    (into ≢ from) × MergesFirst m from count a b
Becomes m (Restart site) (Ok o) a b = (o ≡ nothing)
    × (b ≡ new_replica (site_again a.site))
Becomes m (Restart site) (Err (OutOfMemory count)) a b = ⊥
