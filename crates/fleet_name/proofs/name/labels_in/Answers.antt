use Rattle.std.proofs.Common.{◌≡◌, ℕ, ◌<◌, List, ◌∷◌, length, get_or, drop, refl, sym, ap, ◌∙◌, arith, drop-cons}
use Rattle.std.proofs.lemmas.Bool.Decides.{nat_tests}
use mathlib.Core.Bool.{false≢true}
use Rattle.fleet_name.proofs.Whole.{none_left, zero_inside, read, long_label, cut_label, no_capital, label_read}
use Rattle.fleet_name.proofs.name.labels_in.Goals as goal
use Rattle.fleet_name.proofs.name.labels_in.Goals.{then-count-gt-LONGEST_LABEL-via-then-count-gt-LONGEST_LABEL, then-count-gt-LONGEST_LABEL-via-else-count-gt-LONGEST_LABEL+then-others-count}

-- what is not empty begins with its first octet
rest_cons : (rest others : List ℕ) → 0 < length rest → others ≡ drop 1 rest
    → rest ≡ get_or rest 0 0 ∷ others
rest_cons rest others some e =
    drop-cons rest 0 0 some ∙ ap (λ (x : List ℕ). get_or rest 0 0 ∷ x) (sym e)

pub loop-rest-init : goal.loop-rest-init
loop-rest-init c =
    record {
      counted = omega arith;
      found = λ m all e. (m, all, e, omega arith);
      only = λ n all e. (n, all, e);
    }

pub returns-then-is_empty : goal.returns-then-is_empty
returns-then-is_empty c =
    read _ _ _ c.loop-rest.invariant _ _
    (rest_cons c.loop-rest.rest.now c.split_at.result.1.now (omega arith) c.split_at.ensures.back)
    c.if-count-eq0.true
    (grind (arith, nat_tests, c.is_empty-then-count-eq0.ensures, c.if-is_empty.true)) (omega arith)

pub returns-else-is_empty : goal.returns-else-is_empty
returns-else-is_empty c =
    zero_inside _ _ _ c.loop-rest.invariant _ _
    (rest_cons c.loop-rest.rest.now c.split_at.result.1.now (omega arith) c.split_at.ensures.back)
    c.if-count-eq0.true
    (grind (arith, nat_tests, c.is_empty-then-count-eq0.ensures, c.if-is_empty.false))

pub returns-then-count-gt-LONGEST_LABEL : goal.returns-then-count-gt-LONGEST_LABEL
returns-then-count-gt-LONGEST_LABEL c =
    let is =
    rest_cons c.loop-rest.rest.now c.split_at.result.1.now (omega arith) c.split_at.ensures.back in
    elim c.then-count-gt-LONGEST_LABEL.branch [
      | then-count-gt-LONGEST_LABEL-via-then-count-gt-LONGEST_LABEL w ↦
          long_label _ _ _ c.loop-rest.invariant _ _ is (omega (arith, c.if-count-eq0.false))
          w.if-count-gt-LONGEST_LABEL.true
      | then-count-gt-LONGEST_LABEL-via-else-count-gt-LONGEST_LABEL+then-others-count w ↦
          cut_label _ _ _ c.loop-rest.invariant _ _ is (omega (arith, c.if-count-eq0.false))
          w.if-others-count.true
    ]

pub returns-then-not-is_lower : goal.returns-then-not-is_lower
returns-then-not-is_lower c =
    let is =
    rest_cons c.loop-rest.rest.now c.split_at.result.1.now (omega arith) c.split_at.ensures.back in
    no_capital _ _ _ c.loop-rest.invariant _ _ is (omega (arith, c.if-count-eq0.false))
    c.split_at-in-loop-rest.result.0.now c.split_at-in-loop-rest.result.1.now
    c.split_at-in-loop-rest.ensures.front c.split_at-in-loop-rest.ensures.back
    (λ h. false≢true ((rw c.if-not-is_lower.true at c.is_lower.ensures).1 h))

pub loop-rest-preserved : goal.loop-rest-preserved
loop-rest-preserved c =
    let is =
    rest_cons c.loop-rest.rest.now c.split_at.result.1.now (omega arith) c.split_at.ensures.back in
    label_read _ _ _ c.loop-rest.invariant _ _ is (omega (arith, c.if-count-eq0.false))
    c.split_at-in-loop-rest.result.0.now c.split_at-in-loop-rest.result.1.now
    c.split_at-in-loop-rest.ensures.front c.split_at-in-loop-rest.ensures.back
    ((rw c.if-not-is_lower.false at c.is_lower.ensures).0 refl) (omega arith) (omega arith)

pub returns : goal.returns
returns c =
    none_left _ _ _ c.loop-rest.invariant
    (grind (arith, nat_tests, c.is_empty.ensures, c.loop-rest-test.false))
