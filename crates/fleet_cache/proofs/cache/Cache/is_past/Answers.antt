use Rattle.std.proofs.Common.{◌↔◌, IsTrue, sym, ◌∙◌, subst}
use Rattle.fleet_cache.specs.Cached.{CacheData, IsPast}
use Rattle.fleet_cache.proofs.Holdings.{past_test}
use Rattle.fleet_cache.proofs.Memories.{lent_view}
use Rattle.fleet_cache.proofs.cache.Cache.is_past.Goals as goal

pub returns-clause-past : goal.returns-clause-past
returns-clause-past g c =
    let items = c.held.result.now in
    let floor = c.floor.result in
    let view = lent_view c.self.inside.memory c.args.self.now items floor c.self.view_is c.held.ensures
    c.floor.ensures in
    let o = c.args.observation.now in
    let known = past_test items floor o c.is_past.ensures.own.lawful c.is_past.ensures.lawful in
    subst (λ (v : CacheData). IsTrue c.is_past.result ↔ IsPast v.floor v.items o) view (
      (λ e. known.0 (sym c.is_past.ensures.past ∙ e)),
      λ p. c.is_past.ensures.past ∙ known.1 p,
    )
