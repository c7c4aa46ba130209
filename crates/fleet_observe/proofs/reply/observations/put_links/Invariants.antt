use Rattle.std.proofs.Common.{◌≡◌, ◌++◌, take}
use Rattle.fleet_observe.specs.Observations.{link_observations}
use Rattle.fleet_observe.proofs.reply.observations.put_links.Given as goal

abbrev pub invariant-loop-link : goal.invariant-loop-link
invariant-loop-link g l = l.out.items ≡ l.fn.out.items ++ link_observations l.digest.aa
    l.digest.name l.stamp (take l.link-index l.link-items)
