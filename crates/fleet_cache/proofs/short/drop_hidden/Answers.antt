use Rattle.std.proofs.Common.{◌≡◌, ◌≢◌, length, sym, ap, subst, arith, ◌∙◌}
use Rattle.std.proofs.lemmas.Bool.Decides.{nat_tests}
use Rattle.fleet_observe.specs.Members.{Has}
use Rattle.std.specs.Map.{lookup, set_value, remove_entry}
use Rattle.fleet_cache.specs.steps.Packed.{short_words}
use Rattle.fleet_cache.specs.steps.Slots.{items_of}
use Rattle.fleet_cache.proofs.ShortKeys.{same_test}
use Rattle.fleet_cache.proofs.Looked.{look_none}
use Rattle.fleet_cache.proofs.Reclaiming.{trim_laid, trim_thinned}
use Rattle.fleet_cache.proofs.Trimming.{is_zero, kept, dropped, kept_clear, dropped_clear}
use Rattle.fleet_cache.proofs.short.drop_hidden.Goals as goal

pub returns-then-is_empty-clause-laid : goal.returns-then-is_empty-clause-laid
returns-then-is_empty-clause-laid g c =
    let none : length c.drop_hidden.new.self ≡ 0 = sym (ap length c.items.ensures.items)
    ∙ is_zero (length c.items.result.now) c.is_empty.result c.is_empty.ensures c.if-is_empty.true in
    trim_laid short_words (short_words c.args.key.now) c.args.cut.now c.args.fronts.now.entries
    c.remove.new.self.entries
    (dropped short_words (short_words c.args.key.now) c.args.cut.now c.args.fronts.now.entries
    (c.get_mut.follows.lender c.drop_hidden.new.self).entries c.in-Some.front.now
    c.drop_hidden.new.self c.requires
    (c.in-Some.ensures.value
    ∙ ap (λ t. lookup t c.args.fronts.now.entries) (same_test c.args.key.now))
    c.drop_hidden.ensures.items
    ((c.get_mut.follows.holds c.drop_hidden.new.self).0
    ∙ ap (λ t. set_value t c.args.fronts.now.entries c.drop_hidden.new.self)
    (same_test c.args.key.now)) c.remove.new.self.entries
    (c.remove.ensures.entries
    ∙ ap (λ t. remove_entry t (c.get_mut.follows.lender c.drop_hidden.new.self).entries)
    (same_test c.args.key.now)) none)
    c.requires

pub returns-then-is_empty-clause-trimmed : goal.returns-then-is_empty-clause-trimmed
returns-then-is_empty-clause-trimmed g c lives decides =
    let none : length c.drop_hidden.new.self ≡ 0 = sym (ap length c.items.ensures.items)
    ∙ is_zero (length c.items.result.now) c.is_empty.result c.is_empty.ensures c.if-is_empty.true in
    trim_thinned short_words (short_words c.args.key.now) c.args.cut.now c.args.fronts.now.entries
    c.remove.new.self.entries
    (dropped short_words (short_words c.args.key.now) c.args.cut.now c.args.fronts.now.entries
    (c.get_mut.follows.lender c.drop_hidden.new.self).entries c.in-Some.front.now
    c.drop_hidden.new.self c.requires
    (c.in-Some.ensures.value
    ∙ ap (λ t. lookup t c.args.fronts.now.entries) (same_test c.args.key.now))
    c.drop_hidden.ensures.items
    ((c.get_mut.follows.holds c.drop_hidden.new.self).0
    ∙ ap (λ t. set_value t c.args.fronts.now.entries c.drop_hidden.new.self)
    (same_test c.args.key.now)) c.remove.new.self.entries
    (c.remove.ensures.entries
    ∙ ap (λ t. remove_entry t (c.get_mut.follows.lender c.drop_hidden.new.self).entries)
    (same_test c.args.key.now)) none)
    lives decides

pub returns-else-is_empty-clause-laid : goal.returns-else-is_empty-clause-laid
returns-else-is_empty-clause-laid g c =
    let some : length c.drop_hidden.new.self ≢ 0 =
    λ e. (let same : length c.items.result.now ≡ 0 = ap length c.items.ensures.items ∙ e
    in grind (arith, nat_tests, c.is_empty.ensures, c.if-is_empty.false, same)) in
    trim_laid short_words (short_words c.args.key.now) c.args.cut.now c.args.fronts.now.entries
    (c.get_mut.follows.lender c.drop_hidden.new.self).entries
    (kept short_words (short_words c.args.key.now) c.args.cut.now c.args.fronts.now.entries
    (c.get_mut.follows.lender c.drop_hidden.new.self).entries c.in-Some.front.now
    c.drop_hidden.new.self c.requires
    (c.in-Some.ensures.value
    ∙ ap (λ t. lookup t c.args.fronts.now.entries) (same_test c.args.key.now))
    c.drop_hidden.ensures.items
    ((c.get_mut.follows.holds c.drop_hidden.new.self).0
    ∙ ap (λ t. set_value t c.args.fronts.now.entries c.drop_hidden.new.self)
    (same_test c.args.key.now)) some)
    c.requires

pub returns-else-is_empty-clause-trimmed : goal.returns-else-is_empty-clause-trimmed
returns-else-is_empty-clause-trimmed g c lives decides =
    let some : length c.drop_hidden.new.self ≢ 0 =
    λ e. (let same : length c.items.result.now ≡ 0 = ap length c.items.ensures.items ∙ e
    in grind (arith, nat_tests, c.is_empty.ensures, c.if-is_empty.false, same)) in
    trim_thinned short_words (short_words c.args.key.now) c.args.cut.now c.args.fronts.now.entries
    (c.get_mut.follows.lender c.drop_hidden.new.self).entries
    (kept short_words (short_words c.args.key.now) c.args.cut.now c.args.fronts.now.entries
    (c.get_mut.follows.lender c.drop_hidden.new.self).entries c.in-Some.front.now
    c.drop_hidden.new.self c.requires
    (c.in-Some.ensures.value
    ∙ ap (λ t. lookup t c.args.fronts.now.entries) (same_test c.args.key.now))
    c.drop_hidden.ensures.items
    ((c.get_mut.follows.holds c.drop_hidden.new.self).0
    ∙ ap (λ t. set_value t c.args.fronts.now.entries c.drop_hidden.new.self)
    (same_test c.args.key.now)) some)
    lives decides

pub returns-then-is_empty-clause-cleared : goal.returns-then-is_empty-clause-cleared
returns-then-is_empty-clause-cleared g c =
    let none : length c.drop_hidden.new.self ≡ 0 = sym (ap length c.items.ensures.items)
    ∙ is_zero (length c.items.result.now) c.is_empty.result c.is_empty.ensures c.if-is_empty.true in
    dropped_clear short_words (short_words c.args.key.now) c.args.cut.now c.args.fronts.now.entries
    (c.get_mut.follows.lender c.drop_hidden.new.self).entries c.in-Some.front.now
    c.drop_hidden.new.self c.requires
    (c.in-Some.ensures.value
    ∙ ap (λ t. lookup t c.args.fronts.now.entries) (same_test c.args.key.now))
    c.drop_hidden.ensures.items
    ((c.get_mut.follows.holds c.drop_hidden.new.self).0
    ∙ ap (λ t. set_value t c.args.fronts.now.entries c.drop_hidden.new.self)
    (same_test c.args.key.now)) c.remove.new.self.entries
    (c.remove.ensures.entries
    ∙ ap (λ t. remove_entry t (c.get_mut.follows.lender c.drop_hidden.new.self).entries)
    (same_test c.args.key.now)) none

pub returns-else-is_empty-clause-cleared : goal.returns-else-is_empty-clause-cleared
returns-else-is_empty-clause-cleared g c =
    let some : length c.drop_hidden.new.self ≢ 0 =
    λ e. (let same : length c.items.result.now ≡ 0 = ap length c.items.ensures.items ∙ e
    in grind (arith, nat_tests, c.is_empty.ensures, c.if-is_empty.false, same)) in
    kept_clear short_words (short_words c.args.key.now) c.args.cut.now c.args.fronts.now.entries
    (c.get_mut.follows.lender c.drop_hidden.new.self).entries c.in-Some.front.now
    c.drop_hidden.new.self c.requires
    (c.in-Some.ensures.value
    ∙ ap (λ t. lookup t c.args.fronts.now.entries) (same_test c.args.key.now))
    c.drop_hidden.ensures.items
    ((c.get_mut.follows.holds c.drop_hidden.new.self).0
    ∙ ap (λ t. set_value t c.args.fronts.now.entries c.drop_hidden.new.self)
    (same_test c.args.key.now)) some

pub returns-in_default-clause-cleared : goal.returns-in_default-clause-cleared
returns-in_default-clause-cleared g c o h key = absurd (look_none short_words
    (short_words c.args.key.now) c.args.fronts.now.entries c.requires (sym (c.in_default.ensures.value
    ∙ ap (λ t. lookup t c.args.fronts.now.entries) (same_test c.args.key.now))) o
    (subst (λ v. Has (items_of v.entries) o) c.get_mut.follows.holds-at-none h) key)
