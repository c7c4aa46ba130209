use Rattle.std.proofs.Common.{slice_index_or, subst}
use Rattle.fleet_cache.specs.steps.Listed.{ListsFronts, IsLongAfter}
use Rattle.fleet_cache.proofs.Both.{found_long}
use Rattle.fleet_cache.proofs.ListedFronts.{lists_long}
use Rattle.fleet_cache.proofs.fronts.Fronts.long_behind.Goals as goal

pub returns : goal.returns
returns g c =
    let i = c.self.invariant in
    let ss = c.self.inside.short.entries in
    let ls = c.self.inside.long.entries in
    subst (λ v. ListsFronts (λ w. w.items) v (IsLongAfter c.args.key.now.items) c.range.result)
    c.self.view_is
    (lists_long (λ w. w.items) ss ls i.0 i.1 i.2 c.args.key.now.items c.range.result
    (c.range.ensures.between tt)
    (λ k d within. let e = slice_index_or c.range.result k d in
    found_long (λ w. w.items) ss ls i.0 i.1 i.2 e.0 e.1
    ((c.range.ensures.in_range tt).0 k d within).1))
