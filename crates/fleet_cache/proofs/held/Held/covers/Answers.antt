use Rattle.std.proofs.Common.{IsTrue, ◌↔◌, subst}
use Rattle.fleet_cache.specs.Cached.{IsCovered}
use Rattle.fleet_cache.specs.steps.Held.{IsHeld}
use Rattle.fleet_cache.proofs.held.Held.covers.Goals as goal

pub returns-clause-covered : goal.returns-clause-covered
returns-clause-covered g c = subst (λ v. IsTrue c.covers.result ↔ IsCovered v c.args.observation.now)
    c.self.view_is c.covers.ensures

pub returns-clause-own : goal.returns-clause-own
returns-clause-own g c = subst IsHeld c.self.view_is c.self.invariant.0
