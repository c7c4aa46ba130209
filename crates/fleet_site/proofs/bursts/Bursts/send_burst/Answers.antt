use Rattle.fleet_site.proofs.Working.{sent_both}
use Rattle.fleet_site.proofs.bursts.Bursts.send_burst.Goals as goal

pub returns-in-Ok-true-clause-worked : goal.returns-in-Ok-true-clause-worked
returns-in-Ok-true-clause-worked g c = sent_both _ _ _ c.send_next.ensures.worked c.send_more.ensures.worked
