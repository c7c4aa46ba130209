use Rattle.std.proofs.Common.{◌++◌, ◌∷◌, [], refl, arith, length-append}
use Rattle.std.proofs.lemmas.Result.{err_from_is_err_and}
use Rattle.fleet_wire.proofs.Records.{records_more}
use Rattle.fleet_wire.proofs.record.records_end.Goals as goal

pub loop-init : goal.loop-init
loop-init c = record { before = []; found = refl; counted = refl }

pub returns-in_err-at-clause-fault : goal.returns-in_err-at-clause-fault
returns-in_err-at-clause-fault c =
    let r = c.from_residual in let p = err_from_is_err_and r.result r.ensures.1 in
    let i = c.loop.invariant in
    rw (p.1, p.2)
    (i.before, c.loop.at, i.found, omega (arith, i.counted), c.in_err-at.ensures.fault)

pub loop-preserved : goal.loop-preserved
loop-preserved c =
    let i = c.loop.invariant in let one = c.in_ok-at.ensures.found in
    record {
      before = i.before ++ one.0 ∷ [];
      found = records_more _ _ _ _ i.before one.0 i.found one.1;
      counted = rw (length-append i.before (one.0 ∷ [])) (omega (arith, i.counted));
    }
