use Rattle.std.proofs.Common.{◌≡◌, Bool, true, false, not, ◌↔◌, IsTrue, refl, sym, subst, ◌∙◌}
use mathlib.Core.Bool.{false≢true}
use Rattle.fleet_cache.specs.Live.{live_of}
use Rattle.fleet_cache.specs.Cached.{CacheData, IsPast, IsNeedless}
use Rattle.fleet_cache.proofs.Holdings.{needless_test}
use Rattle.fleet_cache.proofs.Memories.{lent_view}
use Rattle.fleet_cache.proofs.cache.Cache.needs.Goals as goal

-- a test turned round
turned : {P : Type 0} (b : Bool) → IsTrue b ↔ P → (not b ≡ false) ↔ P
turned true t = ((λ e. t.0 refl), λ p. refl)
turned false t = ((λ e. absurd (false≢true (sym e))), λ p. absurd (false≢true (t.1 p)))

pub returns-then-not-is_past-clause-needless : goal.returns-then-not-is_past-clause-needless
returns-then-not-is_past-clause-needless g c =
    let items = c.held.result.now in
    let floor = c.self.inside.memory.floor in
    let view = lent_view c.self.inside.memory c.args.self.now items floor c.self.view_is c.held.ensures
    refl in
    let o = c.args.observation.now in
    let current : ¬ IsPast floor (live_of items floor) o =
    λ p. false≢true (sym c.if-not-is_past.true ∙ c.is_past.ensures.past.1
    (subst (λ (v : CacheData). IsPast v.floor v.items o) view p)) in
    let there = needless_test items floor o c.covers.ensures.own.lawful
    c.is_past.ensures.lawful current in
    let test = turned c.covers.result c.covers.ensures.covered in (
      (λ e. subst (λ v. IsNeedless v.floor v.items o) view (there.0 (test.0 e))),
      λ n. test.1 (there.1 (subst (λ v. IsNeedless v.floor v.items o) (sym view) n)),
    )
