use Rattle.std.proofs.Common.{rules, ◌≡◌, ◌<◌, false, length, sym, ◌∙◌, subst, arith}
use Rattle.std.specs.Ordering.{is_gt}
use Rattle.std.proofs.lemmas.Bool.Decides.{nat_tests}
use Rattle.std.proofs.lemmas.List.Sorted.{IsPartitionPoint-from_clause}
use mathlib.Core.Bool.{false≢true}
use Rattle.fleet_observe.specs.Lent.{IsLent}
use Rattle.fleet_cache.specs.steps.Row.{lent_row}
use Rattle.fleet_cache.proofs.LentItems.{has_at, none_behind, parted, after_before, only_first}
use Rattle.fleet_cache.proofs.lent.has_lent.Goals as goal

pub returns-in-Some : goal.returns-in-Some
returns-in-Some g c =
    let items = c.args.items.now in
    let lent = c.args.lent.now in
    let before = c.partition_point-before.result in
    let item = c.in-Some.item.now in
    let point = IsPartitionPoint-from_clause (λ o. is_gt (lent_row o lent)) _ _
    c.partition_point-before.ensures.partitioned (parted items lent c.requires.in_rows)
    (λ a r q k. search rules) in
    let within : before < length items = grind (arith, nat_tests, c.in-Some.ensures.lookup.0) in
    let level : is_gt (lent_row item lent) ≡ false =
    subst (λ v. is_gt (lent_row v lent) ≡ false) (sym c.in-Some.ensures.lookup.1)
    (point.1 before item (omega arith) within) in (
      λ told. (
        item,
        has_at items before item within c.in-Some.ensures.lookup.1,
        subst (IsLent lent) c.observation.ensures (c.equals.ensures.equal.0 told),
      ),
      λ some. c.equals.ensures.equal.1 (subst (IsLent lent) (sym (c.observation.ensures
          ∙ only_first items before item some.0 lent c.requires.in_rows c.requires.apart within
          c.in-Some.ensures.lookup.1 level some.2 (after_before items before lent some.0
          (λ i d first there. point.0 i d (omega arith) first) some.2 some.1))) some.2),
    )

pub returns-in-None : goal.returns-in-None
returns-in-None g c =
    let items = c.args.items.now in
    let lent = c.args.lent.now in
    let before = c.partition_point-before.result in
    let point = IsPartitionPoint-from_clause (λ o. is_gt (lent_row o lent)) _ _
    c.partition_point-before.ensures.partitioned (parted items lent c.requires.in_rows)
    (λ a r q k. search rules) in (
      (λ e. absurd (false≢true e)),
      λ some. absurd (none_behind items before some.0
          (grind (arith, nat_tests, c.in-None.ensures.lookup.0))
          (after_before items before lent some.0
          (λ i d first there. point.0 i d (omega arith) first) some.2 some.1)),
    )
