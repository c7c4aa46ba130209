use Rattle.std.proofs.Common.{◌⊎◌}
use Rattle.fleet_wire.specs.declared.rtype.TheConstants.{CNAME}
use Rattle.fleet_observe.specs.declared.observation.kind.Kind.TheVariants.{NameError, NoData, Positive, Flush}
use Rattle.fleet_cache.specs.Live.{is_live}
use Rattle.fleet_cache.specs.steps.Best.{IsOn, IsAbove, referent}
use Rattle.fleet_cache.proofs.Best.{best_or}
use Rattle.fleet_cache.proofs.Past.{flush_shows}
use Rattle.fleet_cache.proofs.lookup.decider.Goals as goal

pub returns-clause-best : goal.returns-clause-best
returns-clause-best g c n e =
    let items = c.args.held.now in
    let lives = is_live items c.args.now in
    let q = c.args.rtype in
    let shows = flush_shows c.args.now items n (referent c.preferred_above-above.result.flush)
    c.cut_by-cut.result c.preferred_above-above.ensures.own.lawful c.cut_by-cut.ensures
    (c.preferred_above-above.ensures.flush n e (c.at-here.ensures.of_name n Flush e)) in
    rw (c.better_of.ensures, c.better_of-negative.ensures)
    (best_or (λ o. IsOn lives n Positive q o ⊎ IsOn lives n Positive CNAME o)
    (λ o. IsOn lives n NoData q o ⊎ IsAbove lives NameError n o) items _ _
    (c.records_or_alias-positive.ensures items n lives (c.at-here.ensures.of_name n Positive e) shows)
    (best_or (IsOn lives n NoData q) (IsAbove lives NameError n) items _ _
    (c.preferred_of-none.ensures items n lives (c.at-here.ensures.of_name n NoData e) shows)
    (c.preferred_above-above.ensures.denial n e (c.at-here.ensures.of_name n Flush e)
    (c.at-here.ensures.of_name n NameError e))))
