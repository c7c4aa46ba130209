use Rattle.std.proofs.Common.{◌≡◌, ◌≤◌, vec_len, vec_capacity}
use Rattle.fleet_world.specs.FleetModel.{numbers_from}
use Rattle.fleet_world.proofs.keeping.make_room.Given as goal

abbrev pub invariant-loop-at : goal.invariant-loop-at
invariant-loop-at g l = (l.all.items ≡ numbers_from l.first l.at) × (vec_len l.all ≡ l.at)
    × (l.count ≤ vec_capacity l.all)
