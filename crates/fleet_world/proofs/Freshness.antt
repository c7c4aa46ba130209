-- Each part of an answer is fresh.
-- Serves the laws `fresh`, `withdrawn`.
use Rattle.std.proofs.Common.{ℕ, ◌+◌, ◌-◌, ◌<◌, min, List, ap, subst, ◌∙◌}
use Rattle.fleet_name.specs.Places.{Has}
use Rattle.fleet_observe.specs.Observation.{ObservationData, expires}
use Rattle.fleet_cache.specs.Answer.{ShownData}
use Rattle.fleet_cache.specs.Laws.{TestsLive}
use Rattle.fleet_world.specs.FleetModel.{FleetModel, opening}
use Rattle.fleet_world.specs.Run.{Results, Run}
use Rattle.fleet_world.specs.Fresh.{IsFreshPart, AnswersAreFresh}
use Rattle.fleet_world.specs.declared.event.Event.{Event}
use Rattle.fleet_world.proofs.Packs.{OneList}
use Rattle.fleet_world.proofs.Parts.{IsPart, parts}
use Rattle.fleet_world.proofs.Sources.{dated, IsSourced, sourced}
use Rattle.fleet_world.proofs.Stems.{own_stem}

module _ {A : Type 0} (m : FleetModel) (es : List (Event A)) (rs : Results A) (n : FleetModel)
    (run : Run m es rs n) (live : TestsLive) where
  -- a part of an answer of what stems from replies
  pub fresh_part : (s : List ObservationData) (t : ℕ) (p : ShownData) → IsPart s t p
      → IsSourced m es rs n run p.observation → IsFreshPart m es rs n run t p
  fresh_part s t p part source =
      let o : ObservationData = p.observation in
      let q = source.observed in
      let d = dated source.reply source.moment q.digest o q.meaning
      (subst (λ xs. Has xs o) q.are source.among) in
      let lives : t < expires o = ((live s t o).0 part.live).0 in record {
        reply = source.reply;
        moment = source.moment;
        came_in = source.came_in;
        observations = source.observations;
        observed = q;
        among = source.among;
        stamped = d.stamped;
        ttl = o.life;
        allowed = d.allowed;
        in_time = subst (λ k. t < k + o.life) d.stamped lives;
        shown = part.ttl ∙ ap (λ k. min (k + o.life - t) o.life) d.stamped;
      }

pub answers_fresh : {A : Type 0} → OneList → TestsLive → AnswersAreFresh A
answers_fresh one live configs events results end run own i a there t name rtype part h =
    let p = parts a.site.taken t rtype name part h in
    fresh_part (opening configs) events results end run live a.site.taken t part p
    (sourced (opening configs) events results end run part.observation p.other
    (own_stem one configs events results end run own i a there part.observation p.member p.other))
