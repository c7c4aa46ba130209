use Rattle.std.proofs.Common.{arith}
use Rattle.fleet_observe.specs.declared.observation.kind.Kind.TheVariants.{Flush}
use Rattle.fleet_cache.specs.Live.{lasts}
use Rattle.fleet_cache.specs.steps.Best.{referent}
use Rattle.fleet_cache.proofs.Climbing.{parent_wired, parent_shorter, above_longer, at_top, at_root, one_up}
use Rattle.fleet_cache.proofs.lookup.+flush_above.Goals as goal

pub returns-then-not-may_flush_above-clause-best : goal.returns-then-not-may_flush_above-clause-best
returns-then-not-may_flush_above-clause-best g k c n e =
    at_top (lasts c.args.now) Flush c.args.held.now n (referent c.flush_at-here.result)
    (λ o h of_kind under. above_longer n o.name c.args.name.now e under
    (c.may_flush_above.ensures.none c.if-not-may_flush_above.true o h of_kind))
    (c.flush_at-here.ensures.best n e)

pub returns-in_default-clause-best : goal.returns-in_default-clause-best
returns-in_default-clause-best g k c n e =
    at_root (lasts c.args.now) Flush c.args.held.now n (referent c.flush_at-here.result)
    (c.in_default.ensures n e) (c.flush_at-here.ensures.best n e)

pub flush_above-requires : goal.flush_above-requires
flush_above-requires g k c κs within =
    let w = c.requires in
    let up = c.in-Some.ensures w.name w.whole in
    let less = parent_shorter c.args.name.now w.name c.in-Some.above.now w.whole up in
    (omega (arith, less, c.decreases), (within, parent_wired w.name c.in-Some.above.now up))

pub returns-clause-best : goal.returns-clause-best
returns-clause-best g k c n e =
    let p = c.in-Some.ensures n e in
    one_up (lasts c.args.now) Flush c.args.held.now n c.in-Some.above.now p
    (referent c.flush_at-here.result) (referent c.flush_above.result) (referent c.better_of.result)
    c.better_of.ensures (c.flush_at-here.ensures.best n e) (c.flush_above.ensures.best p.rest p.whole)
