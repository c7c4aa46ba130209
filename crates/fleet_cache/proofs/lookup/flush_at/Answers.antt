use Rattle.std.proofs.Common.{length, ap, sym}
use Rattle.fleet_observe.specs.declared.observation.kind.Kind.TheVariants.{Flush}
use Rattle.fleet_cache.specs.Live.{lasts}
use Rattle.fleet_cache.proofs.Looked.{none_noted}
use Rattle.fleet_cache.proofs.Past.{moment_shows}
use Rattle.fleet_cache.proofs.lookup.flush_at.Goals as goal

pub returns-then-not-may_flush-clause-best : goal.returns-then-not-may_flush-clause-best
returns-then-not-may_flush-clause-best g c n e =
    none_noted (lasts c.args.now) n Flush (length c.args.name.now) c.args.held.now
    (c.may_flush.ensures.none c.if-not-may_flush.true) (sym (ap length e))

pub returns-clause-best : goal.returns-clause-best
returns-clause-best g c n e =
    c.preferred_of.ensures c.args.held.now n (lasts c.args.now) (c.at.ensures.of_name n Flush e)
    (moment_shows c.args.now c.args.held.now n c.at-2.result c.at-2.ensures)
