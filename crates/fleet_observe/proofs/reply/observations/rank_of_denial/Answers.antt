use Rattle.std.proofs.Common.{◌<◌, length, sym, arith}
use Rattle.fleet_observe.proofs.Kept.{rank_some}
use Rattle.fleet_observe.proofs.reply.observations.rank_of_denial.Goals as goal

pub returns-in-len1-up-clause-rank : goal.returns-in-len1-up-clause-rank
returns-in-len1-up-clause-rank g c =
    let some : 0 < length c.args.chain.now = omega arith in
    sym (rank_some c.args.aa c.args.chain.now some)
