use Rattle.std.proofs.Common.{◌≡◌, ℕ, List, [], inl, inr, Option, Some, None, Bor, MatchOption}
use Rattle.fleet_name.specs.Name.{wire}
use Rattle.fleet_observe.specs.Observation.{ObservationData}
use Rattle.fleet_cache.specs.steps.Best.{IsParent}
use Rattle.fleet_cache.specs.steps.Noted.{HasNoneAbove}
use Rattle.fleet_cache.proofs.Climbing.{root_alone, above_longer}
use Rattle.fleet_cache.proofs.lookup.next_above.Goals as goal

-- the root has none above it
up_from : (items : List ObservationData) (name : List ℕ) (r : Option (Bor (List ℕ)))
    → MatchOption r ((n : List (List ℕ)) → name ≡ wire n → n ≡ [])
    (λ above. (n : List (List ℕ)) → name ≡ wire n → IsParent n above.now)
    → MatchOption r ((n : List (List ℕ)) → name ≡ wire n → HasNoneAbove items n)
    (λ above. (n : List (List ℕ)) → name ≡ wire n → IsParent n above.now)
up_from items name None root = λ n e o h head under. root_alone n o.name (root n e) under
up_from items name (Some above) parent = parent

pub returns-then-may_deny_above-clause-up : goal.returns-then-may_deny_above-clause-up
returns-then-may_deny_above-clause-up g c =
    up_from c.args.held.now c.args.name.now c.parent.result c.parent.ensures

pub returns-then-may_flush_above-clause-up : goal.returns-then-may_flush_above-clause-up
returns-then-may_flush_above-clause-up g c = up_from c.args.held.now c.args.name.now
    c.parent-then-may_flush_above.result c.parent-then-may_flush_above.ensures

pub returns-clause-up : goal.returns-clause-up
returns-clause-up g c n e o h head under = above_longer n o.name c.args.name.now e under
    (elim head [
      | inl denial ↦ c.may_deny_above.ensures.none c.if-may_deny_above.false o h denial
      | inr flush ↦ c.may_flush_above.ensures.none c.if-may_flush_above.false o h flush
    ])
