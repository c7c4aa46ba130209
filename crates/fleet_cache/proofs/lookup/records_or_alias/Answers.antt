use Rattle.std.proofs.Common.{◌⊎◌, inl, inr, subst, sym}
use Rattle.fleet_wire.specs.declared.rtype.TheConstants.{CNAME}
use Rattle.fleet_observe.specs.declared.observation.kind.Kind.TheVariants.{Positive}
use Rattle.fleet_cache.specs.steps.Best.{IsBest, IsOn, referent}
use Rattle.fleet_cache.proofs.Best.{best_or, best_same}
use Rattle.fleet_cache.proofs.lookup.records_or_alias.Goals as goal

pub returns-then-rtype-eq-CNAME : goal.returns-then-rtype-eq-CNAME
returns-then-rtype-eq-CNAME g c items n lives of shows =
    let q = c.args.rtype in
    best_same (IsOn lives n Positive q) (λ o. IsOn lives n Positive q o ⊎ IsOn lives n Positive CNAME o)
    items (referent c.preferred_of-records.result)
    (λ o h k. inl k)
    (λ o h k. elim k [
      | inl here ↦ here
      | inr alias ↦
          subst (λ v. IsOn lives n Positive v o) (sym c.if-rtype-eq-CNAME.true) alias
    ])
    (c.preferred_of-records.ensures items n lives of shows)

pub returns : goal.returns
returns g c items n lives of shows =
    let q = c.args.rtype in
    subst (IsBest (λ o. IsOn lives n Positive q o ⊎ IsOn lives n Positive CNAME o)
    items) (sym c.better_of.ensures)
    (best_or (IsOn lives n Positive q) (IsOn lives n Positive CNAME)
    items _ _ (c.preferred_of-records.ensures items n lives of shows)
    (c.preferred_of.ensures items n lives of shows))
