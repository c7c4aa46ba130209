use Rattle.std.proofs.lemmas.Result.{err_from_is_err_and, MatchResult-weaker}
use Rattle.fleet_name.specs.Name.{IsWire}
use Rattle.fleet_gossip.proofs.Parts.{part_taken, part_uncut}
use Rattle.fleet_gossip.proofs.name.read_name.Goals as goal

pub returns-in_err-size : goal.returns-in_err-size
returns-in_err-size c =
    let p = err_from_is_err_and c.from_residual.result c.from_residual.ensures.1 in
    rw (p.1, p.2) (rw c.rest.ensures at c.in_err-size.ensures)

pub returns : goal.returns
returns c =
    let found = rw c.rest.ensures at c.in_ok-size.ensures in
    MatchResult-weaker c.take.result c.take.ensures (λ r h. part_taken IsWire _ _ found _ _ h)
    (λ f h. absurd (part_uncut IsWire _ _ found f h))
