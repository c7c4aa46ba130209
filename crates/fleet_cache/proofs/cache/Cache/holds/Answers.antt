use Rattle.std.proofs.Common.{sym, subst, refl}
use Rattle.fleet_name.proofs.Lemmas.{Has-filter}
use Rattle.fleet_observe.specs.Members.{Has}
use Rattle.fleet_observe.specs.declared.observation.kind.Kind.TheVariants.{Flush}
use Rattle.fleet_cache.specs.Live.{is_live}
use Rattle.fleet_cache.specs.Cached.{CacheData, IsNeedless}
use Rattle.fleet_cache.proofs.Caches.{cached_needless}
use Rattle.fleet_cache.proofs.LentItems.{are_apart, held_needless, lent_held, held_lent}
use Rattle.fleet_cache.proofs.Memories.{lent_view}
use Rattle.fleet_cache.proofs.cache.Cache.holds.Goals as goal

pub has_lent-requires-clause-in_rows : goal.has_lent-requires-clause-in_rows
has_lent-requires-clause-in_rows g c =
    (c.at.ensures.of_name c.requires.name Flush c.requires.whole).in_rows

pub has_lent-requires-clause-apart : goal.has_lent-requires-clause-apart
has_lent-requires-clause-apart g c = are_apart c.held.result.now c.at.result.now c.requires.name Flush
    c.at.ensures.own (c.at.ensures.of_name c.requires.name Flush c.requires.whole)

pub returns-clause-needless : goal.returns-clause-needless
returns-clause-needless g c = λ o is told.
    let items = c.held.result.now in
    let floor = c.self.inside.memory.floor in
    let view = lent_view c.self.inside.memory c.args.self.now items floor c.self.view_is c.held.ensures
    refl in
    let has = lent_held items c.at.result.now c.args.lent.now c.has_lent.result
    c.at.ensures.of_name c.has_lent.ensures o is told in
    subst (λ (v : CacheData). IsNeedless v.floor v.items o) view
    (held_needless items floor o c.at.ensures.own.lawful has)

pub returns-clause-taken : goal.returns-clause-taken
returns-clause-taken g c = λ o s is told cached.
    let items = c.held.result.now in
    let floor = c.self.inside.memory.floor in
    let view = lent_view c.self.inside.memory c.args.self.now items floor c.self.view_is c.held.ensures
    refl in
    let has = lent_held items c.at.result.now c.args.lent.now c.has_lent.result
    c.at.ensures.of_name c.has_lent.ensures o is told in
    cached_needless s c.args.self.now.items c.args.self.now.floor o
    (c.at.ensures.own.lawful o has) cached
    (subst (λ (v : CacheData). IsNeedless v.floor v.items o) view
    (held_needless items floor o c.at.ensures.own.lawful has))

pub returns-clause-items : goal.returns-clause-items
returns-clause-items g c = λ o is there.
    let items = c.held.result.now in
    let floor = c.self.inside.memory.floor in
    let view = lent_view c.self.inside.memory c.args.self.now items floor c.self.view_is c.held.ensures
    refl in
    held_lent items c.at.result.now c.args.lent.now c.has_lent.result
    c.at.ensures.of_name c.has_lent.ensures o is
    (Has-filter (is_live items floor) items o
    (subst (λ (v : CacheData). Has v.items o) (sym view) there)).0
