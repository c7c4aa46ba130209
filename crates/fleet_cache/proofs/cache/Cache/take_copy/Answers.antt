use Rattle.std.proofs.Common.{◌≡◌, false, ◌↔◌, IfOk, OnErr, subst}
use Rattle.fleet_cache.specs.Cached.{IsNeedless}
use Rattle.fleet_cache.proofs.Caches.{cached_needless}
use Rattle.fleet_cache.proofs.cache.Cache.take_copy.Goals as goal

pub returns-then-not-needs-clause-taken : goal.returns-then-not-needs-clause-taken
returns-then-not-needs-clause-taken g c s cached =
    cached_needless s c.args.self.now.items c.args.self.now.floor c.args.observation.now
    c.needs.ensures.lawful cached (c.needs.ensures.needless.0 c.if-not-needs.true)

pub returns-clause-memory : goal.returns-clause-memory
returns-clause-memory g c = subst (λ v. OnErr c.take.result
    (¬ IsNeedless c.args.self.now.floor c.args.self.now.items v)) c.in_ok-try_clone.ensures
    c.take.ensures.memory

pub returns-clause-kept : goal.returns-clause-kept
returns-clause-kept g c = subst (λ v. IfOk c.take.result (λ kept.
    (kept ≡ false) ↔ IsNeedless c.args.self.now.floor c.args.self.now.items v))
    c.in_ok-try_clone.ensures c.take.ensures.kept
