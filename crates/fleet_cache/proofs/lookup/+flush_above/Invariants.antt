use Rattle.std.proofs.Common.{length}
use Rattle.fleet_cache.proofs.lookup.+flush_above.Given as goal

abbrev pub decreases-flush_above : goal.decreases-flush_above
decreases-flush_above g l = length l.name.now
