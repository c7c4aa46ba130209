use Rattle.fleet_observe.proofs.Kept.{positive_some}
use Rattle.fleet_observe.proofs.Results.{if_err}
use Rattle.fleet_observe.proofs.reply.observations.put_set.Goals as goal

pub returns-in_err-push-clause-memory : goal.returns-in_err-push-clause-memory
returns-in_err-push-clause-memory g c = if_err _ _ (positive_some c.args.set.now c.args.rank
    c.args.stamp (c.is_observed.ensures.0 c.if-not-is_observed.false))
