use Rattle.std.proofs.Common.{ℕ, zero, suc, ◌≡◌, ◌<◌, Bool, true, List, [], ◌∷◌, length, get_or, drop, sym, ap, ◌∙◌, arith}
use Rattle.std.specs.List.{filter}
use Rattle.fleet_observe.specs.Observation.{ObservationData}
use Rattle.fleet_cache.specs.steps.Keyed.{is_shown_of}
use Rattle.fleet_cache.proofs.lookup.first_of.Goals as goal

-- what passes is the next of those that do
next_passed : (test : ObservationData → Bool) (xs : List ObservationData) (i : ℕ)
    (x : ObservationData) → i < length xs → x ≡ get_or xs i x → test x ≡ true
    → filter test (drop i xs) ≡ x ∷ filter test (drop (suc i) xs)
next_passed test [] i x within is yea = absurd (omega (arith, within))
next_passed test (y ∷ xs) zero x within is yea =
    let same : x ≡ y = is in
    let first : test y ≡ true = ap test (sym same) ∙ yea in
    rw first (ap (λ v. v ∷ filter test xs) (sym same))
next_passed test (y ∷ xs) (suc i) x within is yea =
    next_passed test xs i x (omega (arith, within)) is yea

pub returns-then-is_shown : goal.returns-then-is_shown
returns-then-is_shown g c =
    let test : ObservationData → Bool = is_shown_of c.args.kind c.args.rtype c.args.cut.now in (
      filter test (drop (suc c.loop-item.item-index) c.args.items.now),
      c.loop-item.invariant.1 ∙ next_passed test c.args.items.now c.loop-item.item-index
          c.item-item.result c.loop-item-test.true c.item-item.is
          (sym c.is_shown.ensures ∙ c.if-is_shown.true),
    )
