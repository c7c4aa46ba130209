use mathlib.Core.Bool.{false≢true}
use Rattle.std.proofs.Common.{refl}
use Rattle.std.proofs.lemmas.Result.{MatchResult-weaker}
use Rattle.fleet_gossip.specs.Faults.{refused, behind}
use Rattle.fleet_gossip.proofs.BodySteps.{positive_found}
use Rattle.fleet_gossip.proofs.body.positive_size.Goals as goal

pub returns-then-not-is_count_of : goal.returns-then-not-is_count_of
returns-then-not-is_count_of c =
    refused _ _ (rw c.new-reader.ensures at c.in_ok-count.ensures)
    (λ l. false≢true (rw c.if-not-is_count_of.true at
    (c.is_count_of.ensures.1 (rw c.from.ensures l)))) refl

pub returns : goal.returns
returns c =
    let is = rw c.new-reader.ensures at c.in_ok-count.ensures in let counted =
    rw c.from.ensures at (c.is_count_of.ensures.0 c.if-not-is_count_of.false) in
    MatchResult-weaker c.read_rdatas.result c.read_rdatas.ensures
    (λ size h. positive_found _ _ _ _ _ _ is counted h) (λ f h. behind _ _ is counted h)
