use Rattle.std.proofs.Common.{◌≡◌, refl, length, List, ◌∷◌, ap, sym, ◌∙◌, subst, arith, not}
use Rattle.std.specs.List.{filter, insert}
use Rattle.fleet_front.specs.Front.{IsFront, is_covered, count_above}
use mathlib.Core.Bool.{false≢true}
use Rattle.fleet_front.proofs.Lemmas.{front_itself, on_err}
use Rattle.fleet_front.proofs.Fronts.{covered_from, uncovered_from, front_covered, front_inserted, insert-count_above, insert_by}
use Rattle.fleet_front.proofs.Front.take.Goals as goal

pub returns-then-covers-clause-taken : goal.returns-then-covers-clause-taken
returns-then-covers-clause-taken g c s front =
    let r = g.T.Ranked in
    front_covered g.met.T.Ranked.laws c.args.value s c.args.self.now
    (ap (is_covered r.order r.dominates c.args.value) (sym (c.deref.ensures.value ∙ c.self.view_is))
    ∙ sym c.if-covers.ensures)
    front

pub returns-clause-taken : goal.returns-clause-taken
returns-clause-taken g c s front =
    let r = g.T.Ranked in
    let old = c.deref.ensures.value ∙ c.self.view_is in
    let dropped = λ (xs : List _). filter (λ y. not (r.dominates c.args.value y)) xs in
    let kept : c.drop_dominated.new.items.items ≡ dropped c.args.self.now =
    c.drop_dominated.ensures.items ∙ ap dropped (c.make_room.ensures.items ∙ c.self.view_is) in
    let at : c.insertion_index-at.result ≡ count_above r.order c.args.value c.drop_dominated.new.items.items =
    c.insertion_index-at.ensures.count ∙ ap (count_above r.order c.args.value) c.deref-2.ensures.value in
    let new : c.insert.new.self.items
    ≡ insert_by r.order c.args.value c.drop_dominated.new.items.items =
    c.in_ok-insert.ensures.items
    ∙ ap (λ n. insert c.drop_dominated.new.items.items n c.args.value) at
    ∙ insert-count_above r.order c.args.value c.drop_dominated.new.items.items in
    subst (IsFront r.order r.dominates (c.args.value ∷ s))
    (sym (new ∙ ap (insert_by r.order c.args.value) kept))
    (front_inserted g.met.T.Ranked.laws c.args.value s c.args.self.now
    (ap (is_covered r.order r.dominates c.args.value) (sym old) ∙ sym c.if-covers.ensures)
    front)

pub returns-then-covers-clause-kept : goal.returns-then-covers-clause-kept
returns-then-covers-clause-kept g c =
    let r = g.T.Ranked in
    let cov =
    ap (is_covered r.order r.dominates c.args.value) (sym (c.deref.ensures.value ∙ c.self.view_is))
    ∙ sym c.if-covers.ensures in
    ((λ e. covered_from g.met.T.Ranked.laws c.args.value c.args.self.now cov), λ n. refl)

pub returns-clause-kept : goal.returns-clause-kept
returns-clause-kept g c =
    let r = g.T.Ranked in
    let unc =
    ap (is_covered r.order r.dominates c.args.value) (sym (c.deref.ensures.value ∙ c.self.view_is))
    ∙ sym c.if-covers.ensures in (
      (λ e. absurd (false≢true (sym e))),
      λ n. absurd (uncovered_from g.met.T.Ranked.laws c.args.value c.args.self.now unc n),
    )

pub invariant_of-self-2 : goal.invariant_of-self-2
invariant_of-self-2 g c =
    front_itself g.met.T.Ranked.laws _ _
    (returns-clause-taken g c c.args.self.now
    (subst (λ v. IsFront g.T.Ranked.order g.T.Ranked.dominates v v) c.self.view_is
    c.self.invariant))

pub returns-clause-size : goal.returns-clause-size
returns-clause-size g c =
    let old : length c.self.inside.items.items ≡ length c.args.self.now =
    ap length c.self.view_is in
    omega (
      arith,
      old,
      c.in_ok-insert.ensures.len,
      c.drop_dominated.ensures.shorter,
      c.make_room.ensures.len,
      c.insert.new.self.ok,
      c.self.inside.items.ok,
    )

pub returns-in_err-make_room-clause-memory : goal.returns-in_err-make_room-clause-memory
returns-in_err-make_room-clause-memory g c =
    let r = g.T.Ranked in
    let unc =
    ap (is_covered r.order r.dominates c.args.value) (sym (c.deref.ensures.value ∙ c.self.view_is))
    ∙ sym c.if-covers.ensures in
    on_err c.from_residual.result
    (uncovered_from g.met.T.Ranked.laws c.args.value c.args.self.now unc)
