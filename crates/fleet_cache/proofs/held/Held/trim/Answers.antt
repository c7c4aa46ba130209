use Rattle.std.proofs.Common.{subst}
use Rattle.fleet_cache.specs.steps.Reclaimed.{IsTrimmed, IsCleared}
use Rattle.fleet_cache.proofs.Both.{trimmed_among}
use Rattle.fleet_cache.proofs.held.Held.trim.Goals as goal

pub invariant_of-self : goal.invariant_of-self
invariant_of-self g c =
    let i = c.self.invariant in
    let among = trimmed_among {m = c.self.inside.fronts} {m' = c.trim.new.self} c.deref.result.now
    c.args.cut.now c.trim.ensures.trimmed in
    (c.trim.ensures.held, λ o h. i.1 o (among o h), λ o h. i.2 o (among o h))

pub returns-clause-trimmed : goal.returns-clause-trimmed
returns-clause-trimmed g c =
    subst (λ w. IsTrimmed w c.args.cut.now c.args.self.now c.trim.new.self) c.deref.ensures.value
    (subst (λ v. IsTrimmed c.deref.result.now c.args.cut.now v c.trim.new.self) c.self.view_is
    c.trim.ensures.trimmed)

pub returns-clause-cleared : goal.returns-clause-cleared
returns-clause-cleared g c = subst (λ w. IsCleared w c.args.cut.now c.trim.new.self)
    c.deref.ensures.value c.trim.ensures.cleared
