use Rattle.fleet_cache.proofs.Rounds.{falls}
use Rattle.fleet_cache.proofs.laws.memory_falls.Goals as goal

pub returns : goal.returns
returns c = falls
