use Rattle.std.proofs.Common.{◌≡◌, ◌∙◌, sym, ap, subst, arith, rules, length, IsTrue}
use Rattle.std.proofs.Common.{ℕ, List}
use Rattle.fleet_name.specs.Name.{wire, IsUnder}
use Rattle.fleet_name.proofs.Lemmas.{wire_some, wire_exact}
use Rattle.fleet_gossip.proofs.IsUnder.{drop_first, name_behind, under_behind, under_before, under_same, under_self}
use Rattle.fleet_gossip.proofs.name.is_under.Goals as goal

pub loop-rest-init : goal.loop-rest-init
loop-rest-init c =
    let name = c.requires.name in
    record {
      left = name.name;
      whole = name.whole;
      named = name.named;
      same = λ n a named is is'.
          let one = wire_exact n name.name (sym is ∙ name.whole) in (
            (λ u. subst (λ (x : List (List ℕ)). IsUnder x a) one u),
            (λ u. subst (λ (x : List (List ℕ)). IsUnder x a) (sym one) u),
          );
    }

pub split_at-requires : goal.split_at-requires
split_at-requires c =
    let i = c.loop-rest.invariant in let other = c.requires.ancestor in
    (drop_first _ _ c.from.ensures i.left i.whole
    (omega (arith, c.loop-rest-test.true, ap length other.whole, wire_some other.name))).within

pub loop-rest-preserved : goal.loop-rest-preserved
loop-rest-preserved c =
    let i = c.loop-rest.invariant in let other = c.requires.ancestor in
    let cut = drop_first _ _ c.from.ensures i.left i.whole
    (omega (arith, c.loop-rest-test.true, ap length other.whole, wire_some other.name)) in
    record {
      left = cut.behind;
      whole = c.split_at.ensures.back ∙ cut.cut;
      named = name_behind i.left cut.label cut.behind cut.left_is i.named;
      same = λ n a named is is'.
          let same = i.same n a named is is' in (
            (λ u. under_behind i.left cut.label cut.behind a cut.left_is
                (omega (arith, c.loop-rest-test.true, ap length i.whole, ap length is'))
                (same.0 u)),
            (λ u. same.1 (under_before i.left cut.label cut.behind a cut.left_is u)),
          );
    }

pub returns : goal.returns
returns c n a named named' is is' =
    let i = c.loop-rest.invariant in
    let yes : IsTrue c.eq.result → c.loop-rest.rest.now ≡ c.args.ancestor.now = search rules in
    let no : c.loop-rest.rest.now ≡ c.args.ancestor.now → IsTrue c.eq.result = search rules in
    let same = i.same n a named is is' in (
      λ t. same.1 (under_self i.left a (sym i.whole ∙ (yes t ∙ is'))),
      λ u. no (i.whole ∙ (ap wire (under_same i.left a
          (omega (arith, c.loop-rest-test.false, ap length i.whole, ap length is')) (same.0 u))
          ∙ sym is')),
    )
