use Rattle.std.proofs.Common.{◌∙◌}
use Rattle.fleet_site.proofs.Working.{sent_both}
use Rattle.fleet_site.proofs.bursts.Bursts.send_more.Goals as goal

pub returns-in-Ok-false-clause-worked : goal.returns-in-Ok-false-clause-worked
returns-in-Ok-false-clause-worked g c = sent_both _ _ _ c.loop.invariant.0 c.send_next.ensures.worked

pub returns-in-Err-clause-worked : goal.returns-in-Err-clause-worked
returns-in-Err-clause-worked g c = sent_both _ _ _ c.loop.invariant.0 c.send_next.ensures.worked

pub loop-preserved : goal.loop-preserved
loop-preserved g c = (
  sent_both _ _ _ c.loop.invariant.0 c.send_next.ensures.worked,
  c.in-Ok-true.ensures.failed ∙ c.loop.invariant.1,
)
