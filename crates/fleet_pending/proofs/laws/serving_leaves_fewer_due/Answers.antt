use Rattle.fleet_pending.proofs.DueCount.{counts_all}
use Rattle.fleet_pending.proofs.laws.serving_leaves_fewer_due.Goals as goal

pub returns : goal.returns
returns c = counts_all
