use Rattle.fleet_pending.proofs.RefusalsAreExact.{refuses_exactly}
use Rattle.fleet_pending.proofs.laws.refusals_are_exact.Goals as goal

pub returns : goal.returns
returns c = refuses_exactly
