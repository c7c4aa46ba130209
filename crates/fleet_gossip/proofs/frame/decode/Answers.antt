use Rattle.std.proofs.Common.{inr}
use Rattle.std.proofs.lemmas.Result.{err_from_is_err_and}
use Rattle.fleet_gossip.proofs.FrameSteps.{spells_frame, has_entries, if_err}
use Rattle.fleet_gossip.proofs.Frames.{list_or_fault}
use Rattle.fleet_gossip.proofs.DecodeLemmas.{fault_other}
use Rattle.fleet_gossip.proofs.frame.decode.Goals as goal

pub returns-in_err-entries-clause-fault : goal.returns-in_err-entries-clause-fault
returns-in_err-entries-clause-fault g c =
    let p = err_from_is_err_and c.from_residual.result c.from_residual.ensures.1 in
    rw (p.1, p.2) (inr c.in_err-entries.ensures)

pub returns-in_err-entries-clause-only : goal.returns-in_err-entries-clause-only
returns-in_err-entries-clause-only g c list is =
    absurd (list_or_fault c.args.octets.now list _ is c.in_err-entries.ensures)

pub returns-in_err-entries-clause-memory : goal.returns-in_err-entries-clause-memory
returns-in_err-entries-clause-memory g c =
    let p = err_from_is_err_and c.from_residual.result c.from_residual.ensures.1 in
    rw (p.1, p.2) (λ e. absurd (fault_other c.args.octets.now _ c.in_err-entries.ensures e))

pub returns-in_err-observations-clause-memory : goal.returns-in_err-observations-clause-memory
returns-in_err-observations-clause-memory g c =
    let of = c.in_ok-entries.ensures in
    if_err c.from_residual-in_err-observations.result _
    (λ f e. has_entries _ _ _ _ of.are_entries.list of.opened of.fits of.are_entries.are
    c.in_err-observations.ensures.memory)

pub returns-clause-found : goal.returns-clause-found
returns-clause-found g c =
    let of = c.in_ok-entries.ensures in
    spells_frame _ _ _ _ _ of.opened of.fits c.in_ok-observations.ensures.found
