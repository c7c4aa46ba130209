use Rattle.fleet_cache.proofs.Existence.{cache_of}
use Rattle.fleet_cache.proofs.laws.caches_exist.Goals as goal

pub returns : goal.returns
returns c = cache_of
