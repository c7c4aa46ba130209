use Rattle.fleet_pending.proofs.WaitersStay.{waiters_stay}
use Rattle.fleet_pending.proofs.laws.waiters_stay.Goals as goal

pub returns : goal.returns
returns c = waiters_stay
