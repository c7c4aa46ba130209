use Rattle.std.proofs.Common.{◌≡◌, ◌∷◌, Bool, false, ◌↔◌, Result, Ok, Err, IfOk, OnOk, IsTrue, inl, sym, subst, ◌∙◌, arith}
use mathlib.Core.Bool.{false≢true}
use Rattle.fleet_cache.specs.Live.{live_of}
use Rattle.fleet_cache.specs.Cached.{CacheData, IsCached, IsPast, IsNeedless}
use Rattle.fleet_cache.proofs.Caches.{cached_needless}
use Rattle.fleet_cache.proofs.Holdings.{taken_cached, needless_test}
use Rattle.fleet_front.proofs.Lemmas.{on_err}
use Rattle.fleet_cache.proofs.cache.Cache.take.Goals as goal

pub returns-then-is_past-clause-taken : goal.returns-then-is_past-clause-taken
returns-then-is_past-clause-taken g c s cached = cached_needless s c.args.self.now.items
    c.args.self.now.floor c.args.observation c.is_past.ensures.lawful cached
    (inl (c.is_past.ensures.past.0 c.if-is_past.true))

-- what the test does not find does not hold
not_passed : {P Q : Type 0} (b : Bool) → IsTrue b ↔ P → b ≡ false → (Q → P) → ¬ Q
not_passed b test e into q = false≢true (sym e ∙ test.1 (into q))

pub returns-clause-taken : goal.returns-clause-taken
returns-clause-taken g c s cached =
    let m = c.self.inside.memory in
    let n = c.take.new.self in
    let t = c.in_ok-kept.ensures.taken in
    subst (λ v. IsCached (c.args.observation ∷ s) v (live_of n.items v)) (sym c.take.ensures.floor)
    (subst (IsCached (c.args.observation ∷ s) m.floor) (sym t.2.live_still)
    (taken_cached m.items t.0 c.args.observation c.take.ensures.own
    c.is_past.ensures.lawful t.1.front s m.floor
    (subst (λ v. IsCached s v.floor v.items) (sym c.self.view_is) cached)))

pub returns-clause-kept : goal.returns-clause-kept
returns-clause-kept g c =
    let i = c.self.inside.memory in
    let o = c.args.observation in
    let current : ¬ IsPast i.floor (live_of i.items i.floor) o =
    not_passed c.is_past.result c.is_past.ensures.past c.if-is_past.false
    (λ p. subst (λ (v : CacheData). IsPast v.floor v.items o) c.self.view_is p) in
    let there = needless_test i.items i.floor o c.take.ensures.own.lawful
    c.is_past.ensures.lawful current in
    let taken = c.in_ok-kept.ensures.taken.1 in
    subst (λ (v : CacheData). (c.in_ok-kept.kept ≡ false) ↔ IsNeedless v.floor v.items o)
    c.self.view_is ((λ e. there.0 (taken.needless.0 e)), λ n. taken.needless.1 (there.1 n))

pub invariant_of-self-2 : goal.invariant_of-self-2
invariant_of-self-2 g c =
    let t = c.in_ok-kept.ensures.taken in
    omega (arith, t.1.size, t.2.size, c.self.invariant)

-- what is said of a value holds where there is one
on_ok_from : {E P Q : Type 0} (r : Result Bool E) → IfOk r (λ kept. (kept ≡ false) × P) → (P → Q)
    → OnOk r Q
on_ok_from (Ok kept) p f = f p.1
on_ok_from (Err e) p f = tt

pub returns-then-self-clause-taken : goal.returns-then-self-clause-taken
returns-then-self-clause-taken g c s cached =
    on_ok_from c.take_uncounted.result c.take_uncounted.ensures.needless
    (λ needless. cached_needless s c.args.self.now.items c.args.self.now.floor
    c.args.observation c.is_past.ensures.lawful cached needless)

pub returns-in_err-kept-clause-memory : goal.returns-in_err-kept-clause-memory
returns-in_err-kept-clause-memory g c =
    let i = c.self.inside.memory in
    let o = c.args.observation in
    let current : ¬ IsPast i.floor (live_of i.items i.floor) o =
    not_passed c.is_past.result c.is_past.ensures.past c.if-is_past.false
    (λ p. subst (λ (v : CacheData). IsPast v.floor v.items o) c.self.view_is p) in
    let there = needless_test i.items i.floor o c.take.ensures.own.lawful
    c.is_past.ensures.lawful current in
    let needed : ¬ IsNeedless c.args.self.now.floor c.args.self.now.items o =
    λ n. c.in_err-kept.ensures.memory (there.1
    (subst (λ (v : CacheData). IsNeedless v.floor v.items o) (sym c.self.view_is) n)) in
    on_err _ needed
