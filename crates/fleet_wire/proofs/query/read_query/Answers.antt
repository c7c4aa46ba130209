use mathlib.Core.Logic.{inr}
use Rattle.std.proofs.lemmas.Result.{err_from_is_err_and}
use Rattle.fleet_wire.proofs.Records.{query_or_fault, question_no_memory}
use Rattle.fleet_wire.proofs.query.read_query.Goals as goal

pub returns-in_err-spelled-clause-only : goal.returns-in_err-spelled-clause-only
returns-in_err-spelled-clause-only g c h q past is =
    absurd (query_or_fault c.args.message.now h q past _ is
    (inr (is.counted, c.in_err-spelled.ensures.fault)))

pub returns-in_err-spelled-clause-memory : goal.returns-in_err-spelled-clause-memory
returns-in_err-spelled-clause-memory g c =
    let r = c.from_residual-in_err-spelled in let p = err_from_is_err_and r.result r.ensures.1 in
    rw (p.1, p.2) (λ e. absurd (question_no_memory _ _ _ c.in_err-spelled.ensures.fault e))
