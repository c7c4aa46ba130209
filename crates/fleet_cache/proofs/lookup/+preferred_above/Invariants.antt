use Rattle.std.proofs.Common.{length}
use Rattle.fleet_cache.proofs.lookup.+preferred_above.Given as goal

abbrev pub decreases-preferred_above : goal.decreases-preferred_above
decreases-preferred_above g l = length l.name.now
