use Rattle.std.proofs.Common.{length, ◌-◌, ◌≡◌, ◌≤◌, ◌+◌, drop}
use Rattle.fleet_front.specs.Front.{count_above}
use Rattle.fleet_front.proofs.insertion_index.Given as goal

abbrev pub invariant-loop-at : goal.invariant-loop-at
invariant-loop-at g l =
    (l.at ≤ length l.items)
    × (count_above g.T.Ranked.order l.value l.items
    ≡ l.at + count_above g.T.Ranked.order l.value (drop l.at l.items))

abbrev pub decreases-loop-at : goal.decreases-loop-at
decreases-loop-at g l = length l.items - l.at
