use Rattle.std.proofs.Common.{◌≡◌, false, List, ◌∷◌, ◌↔◌, None, IfOk, OnOk, OnErr, sym, ap, ◌∙◌, subst}
use Rattle.std.specs.Map.{lookup, set_value}
use Rattle.std.specs.Ordering.{is_eq}
use Rattle.std.proofs.lemmas.Result.{on_err_weaker}
use Rattle.fleet_front.specs.Front.{IsFront as IsFrontOf, IsCovered as IsCoveredBy}
use Rattle.fleet_observe.specs.Observation.{ObservationData}
use Rattle.fleet_cache.specs.steps.Packed.{words_of}
use Rattle.fleet_observe.specs.Preference.{octets_cmp}
use Rattle.fleet_cache.specs.Dominates.{dominates}
use Rattle.fleet_cache.specs.steps.Row.{row}
use Rattle.std.specs.BTreeMap.{insert_entry}
use Rattle.fleet_cache.specs.steps.Packed.{short_words}
use Rattle.fleet_cache.proofs.ShortKeys.{same_order, same_test}
use Rattle.fleet_cache.proofs.Slots.{put_entered}
use Rattle.fleet_cache.proofs.Storing.{put_in_place, put_nothing}
use Rattle.fleet_cache.proofs.Looked.{none_covers, covered_there}
use Rattle.fleet_front.proofs.Lemmas.{on_err}
use Rattle.fleet_cache.proofs.short.store.Goals as goal

pub returns-in-Some-clause-put : goal.returns-in-Some-clause-put
returns-in-Some-clause-put g c = put_in_place short_words c.args.fronts.now.entries
    (c.get_mut.follows.lender c.take.new.self).entries c.in-Some.front.now c.take.new.self
    c.args.observation (short_words c.args.key) c.requires.of_name c.requires.packable
    c.requires.laid ((c.get_mut.follows.holds c.take.new.self).0
    ∙ ap (λ t. set_value t c.args.fronts.now.entries c.take.new.self) (same_test c.args.key)) (c.in-Some.ensures.value
    ∙ ap (λ t. lookup t c.args.fronts.now.entries) (same_test c.args.key)) c.take.result
    (subst (λ v. (s : List ObservationData) → IsFrontOf row dominates s c.in-Some.front.now
    → OnOk c.take.result (IsFrontOf row dominates (v ∷ s) c.take.new.self)) c.new.ensures
    c.take.ensures.taken) (subst (λ v. IfOk c.take.result
    (λ kept. (kept ≡ false) ↔ IsCoveredBy dominates c.in-Some.front.now v)) c.new.ensures
    c.take.ensures.kept) c.take.ensures.size

pub returns-in-Some-clause-err : goal.returns-in-Some-clause-err
returns-in-Some-clause-err g c = put_nothing short_words c.args.fronts.now.entries
    (c.get_mut.follows.lender c.take.new.self).entries c.in-Some.front.now c.take.new.self
    c.args.observation (short_words c.args.key) c.requires.of_name c.requires.packable
    c.requires.laid ((c.get_mut.follows.holds c.take.new.self).0
    ∙ ap (λ t. set_value t c.args.fronts.now.entries c.take.new.self) (same_test c.args.key)) (c.in-Some.ensures.value
    ∙ ap (λ t. lookup t c.args.fronts.now.entries) (same_test c.args.key)) c.take.result
    c.take.ensures.err

pub returns-clause-put : goal.returns-clause-put
returns-clause-put g c =
    let none : c.get_mut.follows.lender-at-none ≡ c.args.fronts.now =
    c.get_mut.follows.holds-at-none in
    let same : (short_words c.args.key) ≡ words_of c.args.observation = c.requires.of_name in
    let gone : lookup (λ k. is_eq (octets_cmp (words_of c.args.observation) (short_words k)))
    c.args.fronts.now.entries ≡ None = rw (← same) (sym (c.in_default.ensures.value
    ∙ ap (λ t. lookup t c.args.fronts.now.entries) (same_test c.args.key))) in
    put_entered short_words c.args.fronts.now.entries c.insert.new.self.entries
    c.in_ok-front.front c.args.observation c.args.key c.requires.of_name c.requires.laid gone
    (rw (← none) (c.in_ok-insert.ensures.entries
    ∙ ap (λ r. insert_entry r c.get_mut.follows.lender-at-none.entries c.args.key c.in_ok-front.front)
    same_order)) c.requires.packable c.in_ok-front.ensures.front c.in_ok-front.ensures.size

-- what the front of a key does not cover, the items do not
pub returns-in-Some-clause-memory : goal.returns-in-Some-clause-memory
returns-in-Some-clause-memory g c =
    let es = c.args.fronts.now.entries in
    let f = c.in-Some.front.now in
    let o = c.args.observation in
    let same : (short_words c.args.key) ≡ words_of o = c.requires.of_name in
    let there = covered_there short_words (short_words c.args.key) es f c.requires.laid
    (sym (c.in-Some.ensures.value
    ∙ ap (λ t. lookup t c.args.fronts.now.entries) (same_test c.args.key))) o same in
    on_err_weaker c.take.result (λ free k. free (there.1 k))
    (subst (λ v. OnErr c.take.result (¬ IsCoveredBy dominates f v)) c.new.ensures
    c.take.ensures.memory)

pub returns-in_err-front-clause-memory : goal.returns-in_err-front-clause-memory
returns-in_err-front-clause-memory g c = on_err _
    (none_covers short_words (short_words c.args.key) c.args.fronts.now.entries c.args.observation
    (c.requires.of_name) c.requires.laid
    (sym (c.in_default.ensures.value
    ∙ ap (λ t. lookup t c.args.fronts.now.entries) (same_test c.args.key))))

pub returns-in_err-insert-clause-memory : goal.returns-in_err-insert-clause-memory
returns-in_err-insert-clause-memory g c = on_err _
    (none_covers short_words (short_words c.args.key) c.args.fronts.now.entries c.args.observation
    (c.requires.of_name) c.requires.laid
    (sym (c.in_default.ensures.value
    ∙ ap (λ t. lookup t c.args.fronts.now.entries) (same_test c.args.key))))
