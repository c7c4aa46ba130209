use Rattle.fleet_cache.proofs.Rounds.{follows}
use Rattle.fleet_cache.proofs.laws.memory_follows.Goals as goal

pub returns : goal.returns
returns c = follows
