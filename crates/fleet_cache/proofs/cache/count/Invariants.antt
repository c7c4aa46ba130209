use Rattle.std.proofs.Common.{◌≡◌, ◌+◌, length}
use Rattle.fleet_cache.proofs.cache.count.Given as goal

abbrev pub invariant-loop-items : goal.invariant-loop-items
invariant-loop-items g l = l.count + length l.items ≡ length l.initial.items

abbrev pub decreases-loop-items : goal.decreases-loop-items
decreases-loop-items g l = length l.items
