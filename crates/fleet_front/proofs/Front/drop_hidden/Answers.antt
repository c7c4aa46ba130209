use Rattle.std.proofs.Common.{ap, sym, ◌∙◌, subst}
use Rattle.fleet_front.specs.Front.{IsFront, without_hidden}
use Rattle.fleet_front.proofs.Lemmas.{front_shown, front_itself}
use Rattle.fleet_front.proofs.Front.drop_hidden.Goals as goal

pub returns-clause-front : goal.returns-clause-front
returns-clause-front g c s front =
    subst (IsFront g.T.Ranked.order g.T.Ranked.dominates (without_hidden g.T.Ranked.hidden
    c.args.cut.now s))
    (sym (c.give_room_back.ensures ∙ c.keep_shown.ensures
    ∙ ap (without_hidden g.T.Ranked.hidden c.args.cut.now) c.self.view_is))
    (front_shown g.met.T.Ranked.laws c.args.cut.now s c.args.self.now front)

pub invariant_of-self : goal.invariant_of-self
invariant_of-self g c =
    front_itself g.met.T.Ranked.laws _ _
    (returns-clause-front g c c.args.self.now
    (subst (λ v. IsFront g.T.Ranked.order g.T.Ranked.dominates v v) c.self.view_is
    c.self.invariant))
