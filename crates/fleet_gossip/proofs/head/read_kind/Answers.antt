use mathlib.Core.Bool.{false≢true}
use Rattle.std.proofs.Common.{refl, sym, subst, ◌∙◌}
use Rattle.fleet_observe.specs.declared.observation.kind.Kind.{Kind}
use Rattle.fleet_observe.proofs.Lemmas.{kind_exact}
use Rattle.fleet_gossip.specs.Entry.{IsKindIn}
use Rattle.fleet_gossip.specs.Faults.{refused}
use Rattle.fleet_gossip.proofs.head.read_kind.Goals as goal

pub returns-in_default : goal.returns-in_default
returns-in_default c = refused _ _ c.in_ok-number.ensures (λ l. c.in_default.ensures l.0 l.1) refl

pub returns-then-not-is_kind_in : goal.returns-then-not-is_kind_in
returns-then-not-is_kind_in c = refused _ _ c.in_ok-number.ensures
    (λ l. false≢true (rw c.if-not-is_kind_in.true at (c.is_kind_in.ensures.1
    (subst (λ (k : Kind). IsKindIn c.args.version k)
    (kind_exact l.0 _ (sym l.1 ∙ c.in-Some.ensures)) l.2)))) refl
