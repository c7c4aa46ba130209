use Rattle.fleet_pending.proofs.WaitersKept.{each_as_often}
use Rattle.fleet_pending.proofs.laws.waiters_kept.Goals as goal

pub returns : goal.returns
returns c = each_as_often
