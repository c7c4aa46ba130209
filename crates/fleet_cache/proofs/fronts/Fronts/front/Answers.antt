use Rattle.std.proofs.Common.{MatchOption, subst}
use Rattle.fleet_cache.specs.steps.Keyed.{HasNoKey, IsOfKey}
use Rattle.fleet_cache.proofs.Both.{look_short, look_long}
use Rattle.fleet_cache.proofs.fronts.Fronts.front.Goals as goal

pub returns-in-Some : goal.returns-in-Some
returns-in-Some g c =
    let q = c.args.words.now in
    let i = c.self.invariant in
    subst (λ v. MatchOption c.get.result (HasNoKey v q) (λ f. IsOfKey v q f.now)) c.self.view_is
    (look_short (λ k. k.items) c.self.inside.short.entries c.self.inside.long.entries i.0 i.1 i.2
    c.in-Some.key q c.in-Some.ensures c.get.result c.get.ensures.value)

pub returns : goal.returns
returns g c =
    let q = c.args.words.now in
    let i = c.self.invariant in
    subst (λ v. MatchOption c.get-2.result (HasNoKey v q) (λ f. IsOfKey v q f.now)) c.self.view_is
    (look_long (λ k. k.items) c.self.inside.short.entries c.self.inside.long.entries i.0 i.1 i.2 q
    c.in_default.ensures c.get-2.result c.get-2.ensures.value)
