use mathlib.Core.Bool.{false≢true}
use Rattle.std.proofs.lemmas.Result.{err_from_is_err_and}
use Rattle.fleet_gossip.specs.Faults.{owner_fails}
use Rattle.fleet_gossip.proofs.BodySteps.{owner_stranger}
use Rattle.fleet_gossip.proofs.body.read_owner.Goals as goal

pub returns-then-not-is_under : goal.returns-then-not-is_under
returns-then-not-is_under c n named is =
    let at = c.in_ok-owner.ensures in
    owner_stranger n _ _ _ at (λ under. false≢true
    (rw c.if-not-is_under.true at ((c.is_under.ensures n at.lawful.name named at.lawful.named is
    at.lawful.whole).1 under)))

pub returns-in_err-owner : goal.returns-in_err-owner
returns-in_err-owner c n named is =
    let p = err_from_is_err_and c.from_residual.result c.from_residual.ensures.1 in
    rw (p.1, p.2) (owner_fails c.in_err-owner.ensures)
