use Rattle.std.proofs.Common.{sym, subst}
use Rattle.fleet_cache.specs.steps.CutAt.{IsCutAt}
use Rattle.fleet_cache.specs.steps.Best.{referent}
use Rattle.fleet_cache.proofs.Past.{cut_of_flush}
use Rattle.fleet_cache.proofs.lookup.cut_at.Goals as goal

pub returns-clause-cut : goal.returns-clause-cut
returns-clause-cut g c n e =
    subst (IsCutAt c.args.held.now c.args.now n) (sym c.cut_by.ensures)
    (cut_of_flush c.args.now c.args.held.now n (referent c.flush_above.result)
    c.flush_above.ensures.own.lawful (c.flush_above.ensures.best n e))
