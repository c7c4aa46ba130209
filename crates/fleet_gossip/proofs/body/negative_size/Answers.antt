use mathlib.Core.Bool.{false≢true}
use Rattle.std.proofs.Common.{arith}
use Rattle.std.proofs.lemmas.Result.{err_from_is_err_and}
use Rattle.fleet_gossip.proofs.BodySteps.{soa_cut, soa_refused, negative_found}
use Rattle.fleet_gossip.proofs.body.negative_size.Goals as goal

pub returns-in_err-rdata : goal.returns-in_err-rdata
returns-in_err-rdata c n named is =
    let r = c.from_residual-in_err-rdata in let p = err_from_is_err_and r.result r.ensures.1
    in let at = c.in_ok-owner.ensures n named is in
    rw (p.1, p.2) (rw c.new-reader.ensures at (soa_cut n _ _ _ at _ c.in_err-rdata.ensures))

pub returns-then-not-plain_rdata : goal.returns-then-not-plain_rdata
returns-then-not-plain_rdata c n named is =
    let at = c.in_ok-owner.ensures n named is in
    rw c.new-reader.ensures at (soa_refused n _ _ _ at _ _ c.in_ok-rdata.ensures
    (λ l. false≢true (rw c.if-not-plain_rdata.true at (c.plain_rdata.ensures.1 l))))

pub returns : goal.returns
returns c n named is =
    let at = rw c.new-reader.ensures at (c.in_ok-owner.ensures n named is) in
    negative_found n _ _ _ at _ _ _ c.in_ok-rdata.ensures
    (c.plain_rdata.ensures.0 c.if-not-plain_rdata.false) (omega arith)
