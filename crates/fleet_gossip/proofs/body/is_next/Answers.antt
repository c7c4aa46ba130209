use mathlib.Core.Bool.{false≢true}
use Rattle.fleet_gossip.proofs.BodySteps.{above_from, next_from, next_plain}
use Rattle.fleet_gossip.proofs.body.is_next.Goals as goal

pub returns-then-not-is_above : goal.returns-then-not-is_above
returns-then-not-is_above c before ends first size = (
  λ t. absurd (false≢true t),
  λ l. rw c.if-not-is_above.true at
      ((c.is_above.ensures before ends).1 (above_from _ _ l.ascending)),
)

pub returns : goal.returns
returns c before ends first size = (
  λ t. next_from _ _ _ _ first size ((c.is_above.ensures before ends).0 c.if-not-is_above.false)
      (c.plain_rdata.ensures.0 t) c.if-size-rdata-gt-LONGEST_BODY.false,
  λ l. c.plain_rdata.ensures.1 (next_plain _ _ _ l),
)
