use Rattle.std.proofs.Common.{◌≡◌, ◌++◌, take}
use Rattle.fleet_observe.specs.Observations.{ns_observations}
use Rattle.fleet_observe.proofs.reply.observations.put_ns.Given as goal

abbrev pub invariant-loop-set : goal.invariant-loop-set
invariant-loop-set g l = l.out.items ≡ l.fn.out.items ++ ns_observations l.stamp
    (take l.set-index l.set-items)
