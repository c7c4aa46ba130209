use Rattle.std.proofs.Common.{inr, arith}
use Rattle.std.proofs.lemmas.Result.{err_from_is_err_and}
use Rattle.fleet_gossip.proofs.FrameSteps.{entries_fail}
use Rattle.fleet_gossip.proofs.frame.read_frame.Goals as goal

pub returns-in_err-opening : goal.returns-in_err-opening
returns-in_err-opening c =
    let p = err_from_is_err_and c.from_residual.result c.from_residual.ensures.1 in
    rw (p.1, p.2) (inr (omega arith, rw c.new-reader.ensures at c.in_err-opening.ensures))

pub returns-in_err-check_entries : goal.returns-in_err-check_entries
returns-in_err-check_entries c =
    let r = c.from_residual-in_err-check_entries in let p = err_from_is_err_and r.result r.ensures.1
    in
    rw (p.1, p.2) (entries_fail _ _ _ _ _ (rw c.new-reader.ensures at c.in_ok-opening.ensures)
    (omega arith) (rw c.rest.ensures at c.in_err-check_entries.ensures))

pub returns : goal.returns
returns c = record {
  opened = rw c.rest.ensures (rw c.new-reader.ensures at c.in_ok-opening.ensures);
  fits = omega arith;
  are_entries = c.in_ok-check_entries.ensures;
}
