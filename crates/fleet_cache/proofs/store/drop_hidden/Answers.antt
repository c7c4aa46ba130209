use Rattle.std.proofs.Common.{◌≡◌, ◌≢◌, length, sym, ap, subst, arith, ◌∙◌}
use Rattle.std.proofs.lemmas.Bool.Decides.{nat_tests}
use Rattle.fleet_observe.specs.Members.{Has}
use Rattle.fleet_cache.specs.steps.Slots.{items_of}
use Rattle.fleet_cache.proofs.Looked.{look_none}
use Rattle.fleet_cache.proofs.Reclaiming.{trim_laid, trim_thinned}
use Rattle.fleet_cache.proofs.Trimming.{is_zero, kept, dropped, kept_clear, dropped_clear}
use Rattle.fleet_cache.proofs.store.drop_hidden.Goals as goal

pub returns-then-is_empty-clause-laid : goal.returns-then-is_empty-clause-laid
returns-then-is_empty-clause-laid g c =
    let none : length c.drop_hidden.new.self ≡ 0 = sym (ap length c.items.ensures.items)
    ∙ is_zero (length c.items.result.now) c.is_empty.result c.is_empty.ensures c.if-is_empty.true in
    trim_laid (λ k. k.items) c.args.words.now c.args.cut.now c.args.fronts.now.entries
    c.remove.new.self.entries
    (dropped (λ k. k.items) c.args.words.now c.args.cut.now c.args.fronts.now.entries
    (c.get_mut.follows.lender c.drop_hidden.new.self).entries c.in-Some.front.now
    c.drop_hidden.new.self c.requires c.in-Some.ensures.value c.drop_hidden.ensures.items
    (c.get_mut.follows.holds c.drop_hidden.new.self).0 c.remove.new.self.entries
    c.remove.ensures.entries none)
    c.requires

pub returns-then-is_empty-clause-trimmed : goal.returns-then-is_empty-clause-trimmed
returns-then-is_empty-clause-trimmed g c lives decides =
    let none : length c.drop_hidden.new.self ≡ 0 = sym (ap length c.items.ensures.items)
    ∙ is_zero (length c.items.result.now) c.is_empty.result c.is_empty.ensures c.if-is_empty.true in
    trim_thinned (λ k. k.items) c.args.words.now c.args.cut.now c.args.fronts.now.entries
    c.remove.new.self.entries
    (dropped (λ k. k.items) c.args.words.now c.args.cut.now c.args.fronts.now.entries
    (c.get_mut.follows.lender c.drop_hidden.new.self).entries c.in-Some.front.now
    c.drop_hidden.new.self c.requires c.in-Some.ensures.value c.drop_hidden.ensures.items
    (c.get_mut.follows.holds c.drop_hidden.new.self).0 c.remove.new.self.entries
    c.remove.ensures.entries none)
    lives decides

pub returns-else-is_empty-clause-laid : goal.returns-else-is_empty-clause-laid
returns-else-is_empty-clause-laid g c =
    let some : length c.drop_hidden.new.self ≢ 0 =
    λ e. (let same : length c.items.result.now ≡ 0 = ap length c.items.ensures.items ∙ e
    in grind (arith, nat_tests, c.is_empty.ensures, c.if-is_empty.false, same)) in
    trim_laid (λ k. k.items) c.args.words.now c.args.cut.now c.args.fronts.now.entries
    (c.get_mut.follows.lender c.drop_hidden.new.self).entries
    (kept (λ k. k.items) c.args.words.now c.args.cut.now c.args.fronts.now.entries
    (c.get_mut.follows.lender c.drop_hidden.new.self).entries c.in-Some.front.now
    c.drop_hidden.new.self c.requires c.in-Some.ensures.value c.drop_hidden.ensures.items
    (c.get_mut.follows.holds c.drop_hidden.new.self).0 some)
    c.requires

pub returns-else-is_empty-clause-trimmed : goal.returns-else-is_empty-clause-trimmed
returns-else-is_empty-clause-trimmed g c lives decides =
    let some : length c.drop_hidden.new.self ≢ 0 =
    λ e. (let same : length c.items.result.now ≡ 0 = ap length c.items.ensures.items ∙ e
    in grind (arith, nat_tests, c.is_empty.ensures, c.if-is_empty.false, same)) in
    trim_thinned (λ k. k.items) c.args.words.now c.args.cut.now c.args.fronts.now.entries
    (c.get_mut.follows.lender c.drop_hidden.new.self).entries
    (kept (λ k. k.items) c.args.words.now c.args.cut.now c.args.fronts.now.entries
    (c.get_mut.follows.lender c.drop_hidden.new.self).entries c.in-Some.front.now
    c.drop_hidden.new.self c.requires c.in-Some.ensures.value c.drop_hidden.ensures.items
    (c.get_mut.follows.holds c.drop_hidden.new.self).0 some)
    lives decides

pub returns-then-is_empty-clause-cleared : goal.returns-then-is_empty-clause-cleared
returns-then-is_empty-clause-cleared g c =
    let none : length c.drop_hidden.new.self ≡ 0 = sym (ap length c.items.ensures.items)
    ∙ is_zero (length c.items.result.now) c.is_empty.result c.is_empty.ensures c.if-is_empty.true in
    dropped_clear (λ k. k.items) c.args.words.now c.args.cut.now c.args.fronts.now.entries
    (c.get_mut.follows.lender c.drop_hidden.new.self).entries c.in-Some.front.now
    c.drop_hidden.new.self c.requires c.in-Some.ensures.value c.drop_hidden.ensures.items
    (c.get_mut.follows.holds c.drop_hidden.new.self).0 c.remove.new.self.entries
    c.remove.ensures.entries none

pub returns-else-is_empty-clause-cleared : goal.returns-else-is_empty-clause-cleared
returns-else-is_empty-clause-cleared g c =
    let some : length c.drop_hidden.new.self ≢ 0 =
    λ e. (let same : length c.items.result.now ≡ 0 = ap length c.items.ensures.items ∙ e
    in grind (arith, nat_tests, c.is_empty.ensures, c.if-is_empty.false, same)) in
    kept_clear (λ k. k.items) c.args.words.now c.args.cut.now c.args.fronts.now.entries
    (c.get_mut.follows.lender c.drop_hidden.new.self).entries c.in-Some.front.now
    c.drop_hidden.new.self c.requires c.in-Some.ensures.value c.drop_hidden.ensures.items
    (c.get_mut.follows.holds c.drop_hidden.new.self).0 some

pub returns-in_default-clause-cleared : goal.returns-in_default-clause-cleared
returns-in_default-clause-cleared g c o h key = absurd (look_none (λ k. k.items)
    c.args.words.now c.args.fronts.now.entries c.requires (sym c.in_default.ensures.value) o
    (subst (λ v. Has (items_of v.entries) o) c.get_mut.follows.holds-at-none h) key)
