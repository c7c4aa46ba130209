use mathlib.Core.Bool.{false≢true}
use Rattle.std.proofs.Common.{arith}
use Rattle.std.proofs.lemmas.Result.{err_from_is_err_and}
use Rattle.fleet_gossip.proofs.BodySteps.{next_cut, next_refused}
use Rattle.fleet_gossip.proofs.body.read_rdatas.Goals as goal

pub returns-in_err-rdata : goal.returns-in_err-rdata
returns-in_err-rdata c =
    let p = err_from_is_err_and c.from_residual.result c.from_residual.ensures.1 in let i =
    c.loop.invariant in
    rw (p.1, p.2) (next_cut c.args.rtype c.args.count _ c.loop.reader i.before i.first i.whole
    (omega (arith, i.counted)) _ c.in_err-rdata.ensures)

pub returns-then-not-is_next : goal.returns-then-not-is_next
returns-then-not-is_next c =
    let i = c.loop.invariant in
    next_refused c.args.rtype c.args.count _ c.loop.reader i.before i.first i.whole
    (omega (arith, i.counted)) _ _ c.in_ok-rdata.ensures
    (λ l. false≢true (rw c.if-not-is_next.true at
    ((c.is_next.ensures i.before i.ends i.first i.size).1 l)))
