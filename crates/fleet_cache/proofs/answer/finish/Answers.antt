use Rattle.fleet_cache.specs.Shown.{shown_parts}
use Rattle.fleet_cache.proofs.Follow.{finish_found, finish_no_data, finish_denied, finish_flush}
use Rattle.fleet_cache.proofs.answer.finish.Goals as goal

pub returns-in-Positive-clause-answer : goal.returns-in-Positive-clause-answer
returns-in-Positive-clause-answer g c =
    rw (← c.last.view_is) (finish_found (shown_parts c.args.chain.items) _
    c.in-Positive.ensures.value)

pub returns-in-NoData-clause-answer : goal.returns-in-NoData-clause-answer
returns-in-NoData-clause-answer g c =
    rw (← c.last.view_is) (finish_no_data (shown_parts c.args.chain.items) _
    c.in-NoData.ensures.value)

pub returns-in-NameError-clause-answer : goal.returns-in-NameError-clause-answer
returns-in-NameError-clause-answer g c = rw (← c.last.view_is)
    (finish_denied (shown_parts c.args.chain.items) _ c.in-NameError.ensures.value)

pub returns-in-Flush-clause-answer : goal.returns-in-Flush-clause-answer
returns-in-Flush-clause-answer g c = rw (← c.last.view_is)
    (finish_flush (shown_parts c.args.chain.items) _ c.in-Flush.ensures.value)
