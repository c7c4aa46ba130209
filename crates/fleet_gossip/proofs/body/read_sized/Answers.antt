use Rattle.std.proofs.lemmas.Result.{MatchResult-weaker}
use Rattle.fleet_gossip.proofs.BodySteps.{sized_taken, sized_cut}
use Rattle.fleet_gossip.proofs.body.read_sized.Goals as goal

pub returns : goal.returns
returns c =
    MatchResult-weaker c.take.result c.take.ensures
    (λ r h. sized_taken _ _ _ _ c.in_ok-size.ensures c.from.ensures _ _ h)
    (λ f h. sized_cut _ _ _ _ c.in_ok-size.ensures c.from.ensures f h)
