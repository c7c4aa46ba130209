use Rattle.fleet_pending.specs.Waiter.{SameAsker}
use Rattle.fleet_pending.proofs.Placed.{NoneBefore}
use Rattle.fleet_pending.proofs.waiters.is_among.Given as goal

abbrev pub invariant-loop-other : goal.invariant-loop-other
invariant-loop-other g l = NoneBefore (λ v. SameAsker v l.waiter) l.waiters l.other-index
