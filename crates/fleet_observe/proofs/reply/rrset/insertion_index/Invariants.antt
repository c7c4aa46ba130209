use Rattle.std.proofs.Common.{length, ◌-◌, ◌≡◌, ◌≤◌, ◌+◌, drop}
use Rattle.fleet_observe.specs.RrSet.{count_below}
use Rattle.fleet_observe.proofs.reply.rrset.insertion_index.Given as goal

abbrev pub invariant-loop-at : goal.invariant-loop-at
invariant-loop-at g l = (l.at ≤ length l.rdatas)
    × (count_below l.rdata l.rdatas ≡ l.at + count_below l.rdata (drop l.at l.rdatas))

abbrev pub decreases-loop-at : goal.decreases-loop-at
decreases-loop-at g l = length l.rdatas - l.at
