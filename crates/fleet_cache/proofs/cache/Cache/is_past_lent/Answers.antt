use Rattle.std.proofs.Common.{◌↔◌, IsTrue, inl, sym, ◌∙◌, subst}
use Rattle.fleet_cache.specs.Cached.{CacheData, IsPast}
use Rattle.fleet_cache.proofs.Caches.{cached_needless}
use Rattle.fleet_cache.proofs.Holdings.{past_test}
use Rattle.fleet_cache.proofs.Memories.{lent_view}
use Rattle.fleet_cache.proofs.cache.Cache.is_past_lent.Goals as goal

pub returns-clause-past : goal.returns-clause-past
returns-clause-past g c = λ o is lawful.
    let items = c.held.result.now in
    let floor = c.floor.result in
    let view = lent_view c.self.inside.memory c.args.self.now items floor c.self.view_is c.held.ensures
    c.floor.ensures in
    let test = c.is_past_lent.ensures.past o is lawful in
    let known = past_test items floor o c.is_past_lent.ensures.own.lawful lawful in
    subst (λ (v : CacheData). IsTrue c.is_past_lent.result ↔ IsPast v.floor v.items o)
    view ((λ e. known.0 (sym test ∙ e)), λ p. test ∙ known.1 p)

pub returns-clause-taken : goal.returns-clause-taken
returns-clause-taken g c = λ o s is lawful told cached.
    let items = c.held.result.now in
    let floor = c.floor.result in
    let view = lent_view c.self.inside.memory c.args.self.now items floor c.self.view_is c.held.ensures
    c.floor.ensures in
    let test = c.is_past_lent.ensures.past o is lawful in
    let known = past_test items floor o c.is_past_lent.ensures.own.lawful lawful in
    cached_needless s c.args.self.now.items c.args.self.now.floor o lawful cached
    (inl (subst (λ (v : CacheData). IsPast v.floor v.items o) view
    (known.0 (sym test ∙ told))))
