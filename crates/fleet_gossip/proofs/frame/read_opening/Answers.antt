use mathlib.Core.Bool.{false≢true}
use Rattle.std.proofs.lemmas.Result.{err_from_is_err_and}
use Rattle.fleet_gossip.proofs.FrameSteps.{bad_magic, version_cut, bad_version, count_cut, opening_read}
use Rattle.fleet_gossip.proofs.frame.read_opening.Goals as goal

pub returns-then-magic-ne-MAGIC : goal.returns-then-magic-ne-MAGIC
returns-then-magic-ne-MAGIC c = bad_magic _ _ _ c.in_ok-magic.ensures c.if-magic-ne-MAGIC.true

pub returns-in_err-version : goal.returns-in_err-version
returns-in_err-version c =
    let r = c.from_residual-in_err-version in let p = err_from_is_err_and r.result r.ensures.1 in
    rw (p.1, p.2) (version_cut _ _ _ c.in_ok-magic.ensures c.if-magic-ne-MAGIC.false _
    c.in_err-version.ensures)

pub returns-then-not-is_version : goal.returns-then-not-is_version
returns-then-not-is_version c = bad_version _ _ _ c.in_ok-magic.ensures
    c.if-magic-ne-MAGIC.false _ _ c.in_ok-version.ensures
    (λ l. false≢true (rw c.if-not-is_version.true at (c.is_version.ensures.1 l)))

pub returns-in_err-count : goal.returns-in_err-count
returns-in_err-count c =
    let r = c.from_residual-in_err-count in let p = err_from_is_err_and r.result r.ensures.1 in
    rw (p.1, p.2) (count_cut _ _ _ c.in_ok-magic.ensures c.if-magic-ne-MAGIC.false _ _
    c.in_ok-version.ensures (c.is_version.ensures.0 c.if-not-is_version.false) _
    c.in_err-count.ensures)

pub returns : goal.returns
returns c = opening_read _ _ _ c.in_ok-magic.ensures c.if-magic-ne-MAGIC.false _ _
    c.in_ok-version.ensures (c.is_version.ensures.0 c.if-not-is_version.false) _ _
    c.in_ok-count.ensures
