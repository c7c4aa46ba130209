use Rattle.std.proofs.Common.{length, ◌≡◌, ◌≤◌, drop}
use Rattle.std.specs.List.{filter}
use Rattle.fleet_cache.specs.steps.Keyed.{is_shown_of}
use Rattle.fleet_cache.proofs.lookup.first_of.Given as goal

abbrev pub invariant-loop-item : goal.invariant-loop-item
invariant-loop-item g l =
    (l.item-index ≤ length l.items)
    × (filter (is_shown_of l.kind l.rtype l.cut) l.items
    ≡ filter (is_shown_of l.kind l.rtype l.cut) (drop l.item-index l.items))
