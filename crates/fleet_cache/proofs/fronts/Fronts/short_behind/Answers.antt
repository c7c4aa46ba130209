use Rattle.std.proofs.Common.{slice_index_or, subst}
use Rattle.fleet_cache.specs.steps.Listed.{ListsFronts, IsShortAfter}
use Rattle.fleet_cache.specs.steps.Packed.{short_words}
use Rattle.fleet_cache.proofs.Both.{found_short}
use Rattle.fleet_cache.proofs.ListedFronts.{lists_short, lists_all_short}
use Rattle.fleet_cache.proofs.fronts.Fronts.short_behind.Goals as goal

pub returns : goal.returns
returns g c =
    let i = c.self.invariant in
    let ss = c.self.inside.short.entries in
    let ls = c.self.inside.long.entries in
    subst (λ v. ListsFronts short_words v (IsShortAfter c.args.words.now) c.range-2.result) c.self.view_is
    (lists_short (λ w. w.items) ss ls i.0 i.1 i.2 c.in-Some.key c.args.words.now c.in-Some.ensures
    c.range-2.result (c.range-2.ensures.between tt)
    (λ k d within. let e = slice_index_or c.range-2.result k d in
    found_short (λ w. w.items) ss ls i.0 i.1 i.2 e.0 e.1
    ((c.range-2.ensures.in_range tt).0 k d within).1))

pub returns-in_default : goal.returns-in_default
returns-in_default g c =
    let i = c.self.invariant in
    let ss = c.self.inside.short.entries in
    let ls = c.self.inside.long.entries in
    subst (λ v. ListsFronts short_words v (IsShortAfter c.args.words.now) c.range.result) c.self.view_is
    (lists_all_short (λ w. w.items) ss ls i.0 i.1 i.2 c.args.words.now c.in_default.ensures
    c.range.result (c.range.ensures.between tt)
    (λ k d within. let e = slice_index_or c.range.result k d in
    found_short (λ w. w.items) ss ls i.0 i.1 i.2 e.0 e.1
    ((c.range.ensures.in_range tt).0 k d within).1))
