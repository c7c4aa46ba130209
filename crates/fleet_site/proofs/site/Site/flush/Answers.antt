use Rattle.std.proofs.Common.{ℕ, List, refl, sym, subst, arith}
use Rattle.fleet_observe.specs.Observation.{ObservationData}
use Rattle.fleet_site.specs.steps.Carried.{DoesOrStops}
use Rattle.fleet_site.specs.gossip.Flush.{Flushed}
use Rattle.fleet_site.specs.SiteModel.{SiteModel}
use Rattle.fleet_site.specs.StandsFor.{Follows}
use Rattle.fleet_site.specs.SiteData.{IsSiteData, site_data}
use Rattle.fleet_site.specs.Step.{flush}
use Rattle.fleet_site.proofs.Following.{model_of, for_model, follows_carried}
use Rattle.fleet_site.proofs.site.Site.flush.Goals as goal

pub returns-clause-follows : goal.returns-clause-follows
returns-clause-follows g c =
    let i = c.self.inside in
    let old = site_data i.config i.cache i.clock i.pending in
    let new = site_data i.config c.flush_name.new.cache c.later-self-inside.result
    i.pending in
    let call = flush c.args.now c.args.name.now in
    let P : SiteModel → Type 0 = λ m. Follows m call c.flush_name.result new in
    let kept : IsSiteData new =
    record {
      config = c.self.invariant.config;
      reached = omega (
        arith,
        c.self.invariant.reached,
        c.flush_name.ensures.floor,
        c.later-self-inside.ensures,
      );
      questions = c.self.invariant.questions;
    } in
    let R : List ObservationData → ℕ → Type 0 =
    λ taken t. DoesOrStops (Flushed i.pending c.args.name.now t) (Unit {0})
    (record { taken = taken; asking = i.pending }) c.flush_name.result
    (record { cache = c.flush_name.new.cache; asking = i.pending }) in
    for_model P old c.args.self.now c.self.view_is (λ taken cached.
    follows_carried (model_of old taken) call c.flush_name.result new
    (record {
      upstreams = refl;
      peers = refl;
      floor = sym c.flush_name.ensures.floor;
      clock = sym c.later-self-inside.ensures;
      state = kept;
    })
    (subst (R taken) c.later-self-inside.ensures
    (c.flush_name.ensures.flushed i.pending taken cached)))
