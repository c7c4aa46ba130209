use Rattle.std.proofs.lemmas.Result.{err_from_is_err_and}
use Rattle.fleet_wire.proofs.Records.{reply_or_fault, reply_no_memory}
use Rattle.fleet_wire.proofs.reply.read_reply.Goals as goal

pub returns-in_err-header-clause-only : goal.returns-in_err-header-clause-only
returns-in_err-header-clause-only g c r is =
    absurd (reply_or_fault c.args.message.now r _ is c.in_err-header.ensures.fault)

pub returns-in_err-header-clause-memory : goal.returns-in_err-header-clause-memory
returns-in_err-header-clause-memory g c =
    let r = c.from_residual in let p = err_from_is_err_and r.result r.ensures.1 in
    rw (p.1, p.2) (λ e. absurd (reply_no_memory _ _ c.in_err-header.ensures.fault e))
