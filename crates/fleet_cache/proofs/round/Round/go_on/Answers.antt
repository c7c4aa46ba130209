use Rattle.std.proofs.Common.{◌≡◌, ◌∙◌, inl, inr, sym, subst, arith}
use mathlib.Core.Bool.{false≢true}
use Rattle.fleet_cache.specs.steps.Rounds.{HasSoonest, IsRound, IsBounded}
use Rattle.fleet_cache.proofs.Rounds.{unended_on, unended_all, round_goes, round_next, round_over, round_unended, reclaimed_on}
use Rattle.fleet_cache.proofs.round.Round.go_on.Goals as goal

pub returns-then-self-lt-BATCH-clause-bounded : goal.returns-then-self-lt-BATCH-clause-bounded
returns-then-self-lt-BATCH-clause-bounded g c most begun enough r small few =
    ((r, omega (arith, c.if-self-lt-BATCH.true)), λ none. inl none)

pub returns-then-value-self-clause-bounded : goal.returns-then-value-self-clause-bounded
returns-then-value-self-clause-bounded g c most begun enough r small few = (
  round_unended most begun c.args.floor c.args.held.now c.args.self.now.cursor.key.items
      (λ o h. let ends = c.requires.unended.all o h in
      omega (arith, c.if-value-self.true, c.value.ensures.value, ends)) few (omega (arith, enough)),
  λ none. inl none,
)

pub returns-then-is_at_start-clause-unended : goal.returns-then-is_at_start-clause-unended
returns-then-is_at_start-clause-unended g c =
    let step = c.step-left in
    unended_all c.args.floor c.loop-left.held step.new.held c.loop-left.self.cursor.key.items
    step.new.self.cursor.key.items c.loop-left.self.soonest_passed step.new.self.soonest_passed
    step.ensures.gone step.ensures.passed c.loop-left.self.soonest 18446744073709551615
    (c.is_at_start.ensures.start.0 c.if-is_at_start.true) c.loop-left.invariant.1

pub returns-then-is_at_start-clause-bounded : goal.returns-then-is_at_start-clause-bounded
returns-then-is_at_start-clause-bounded g c most begun enough r small few =
    let step = c.step-left in
    let none : step.new.self.owed ≡ 0 = step.ensures.owed ∙ c.loop-left.invariant.4 in
    let start = c.is_at_start.ensures.start.0 c.if-is_at_start.true in
    let round = c.loop-left.invariant.2 most begun r in (
      subst (IsBounded most begun c.args.floor step.new.held step.new.self.cursor.key.items) (sym none)
          (round_next c.args.floor c.loop-left.held step.new.held c.loop-left.self.cursor.key.items
          step.new.self.cursor.key.items c.loop-left.self.soonest_passed step.new.self.soonest_passed
          step.ensures.gone step.ensures.passed most begun c.loop-left.left start few enough round),
      λ back. inr (round_over c.args.floor c.loop-left.held step.new.held
          c.loop-left.self.cursor.key.items step.new.self.cursor.key.items
          c.loop-left.self.soonest_passed step.new.self.soonest_passed step.ensures.gone
          step.ensures.passed most begun c.loop-left.left start round),
    )

pub loop-left-preserved : goal.loop-left-preserved
loop-left-preserved g c =
    let step = c.step-left in
    let items = c.loop-left.held in
    let at = c.loop-left.self.cursor.key.items in
    let to = step.new.self.cursor.key.items in (
      reclaimed_on c.args.floor c.args.held.now items step.new.held c.loop-left.invariant.0
          step.ensures.gone.reclaimed,
      subst (λ v. HasSoonest v step.new.self.soonest_passed to step.new.held)
          (sym step.ensures.soonest)
          (unended_on c.args.floor items step.new.held at to c.loop-left.self.soonest_passed
          step.new.self.soonest_passed step.ensures.gone step.ensures.passed c.loop-left.self.soonest
          c.loop-left.invariant.1),
      λ most begun r. elim step.ensures.looked [
        | inl none ↦ absurd (false≢true (sym c.if-is_at_start.false
            ∙ c.is_at_start.ensures.start.1 none))
        | inr looked ↦ round_goes c.args.floor items step.new.held at to
            c.loop-left.self.soonest_passed step.new.self.soonest_passed step.ensures.gone
            step.ensures.passed most begun c.loop-left.left step.result looked
            (c.loop-left.invariant.2 most begun r)
      ],
      step.ensures.room,
      step.ensures.owed ∙ c.loop-left.invariant.4,
      λ none. absurd (false≢true (sym c.if-is_at_start.false ∙ c.is_at_start.ensures.start.1 none)),
    )

pub returns-clause-bounded : goal.returns-clause-bounded
returns-clause-bounded g c most begun enough r small few =
    let none = c.loop-left.invariant.4 in
    let same : c.loop-left.left ≡ c.loop-left.self.owed = omega (arith, none) in (
      (
        subst (IsRound most begun c.args.floor c.loop-left.held c.loop-left.self.cursor.key.items) same
            (c.loop-left.invariant.2 most begun r),
        omega (arith, none),
      ),
      λ back. inl (c.loop-left.invariant.5 back),
    )
