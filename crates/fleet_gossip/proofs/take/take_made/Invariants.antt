use Rattle.std.proofs.Common.{◌≡◌, List, length}
use Rattle.std.specs.Vec.Iter.{into_iter_items, into_iter_len}
use Rattle.fleet_observe.specs.Observation.{ObservationData}
use Rattle.fleet_gossip.specs.steps.Taking.{AreMade}
use Rattle.fleet_gossip.proofs.Taking.{IsUnderway}
use Rattle.fleet_gossip.proofs.take.take_made.Given as goal

abbrev pub invariant-loop-place : goal.invariant-loop-place
invariant-loop-place g l =
    ((list : List ObservationData) → AreMade l.fn.cache 0 list l.fn.made.items
    → IsUnderway l.fn.cache l.cache list (into_iter_items l.place-iterator))
    × (into_iter_len l.place-iterator ≡ length (into_iter_items l.place-iterator))
    × (l.cache.floor ≡ l.fn.cache.floor)
