use Rattle.std.proofs.lemmas.Result.{err_from_is_err_and}
use Rattle.fleet_site.proofs.Hearing.{learns, unread_learnt, undigested_learnt}
use Rattle.fleet_site.proofs.learn.read_observations.Goals as goal

pub returns-in_err-message-clause-refused : goal.returns-in_err-message-clause-refused
returns-in_err-message-clause-refused g c =
    let p = err_from_is_err_and c.from_residual.result c.from_residual.ensures.1 in
    rw (p.1, p.2) (λ o. unread_learnt o _ _ _ c.in_err-message.ensures.refused)

pub returns-in_err-digest-clause-refused : goal.returns-in_err-digest-clause-refused
returns-in_err-digest-clause-refused g c =
    let r = c.from_residual-in_err-digest in let p = err_from_is_err_and r.result r.ensures.1 in
    rw (p.1, p.2)
    (λ o. undigested_learnt o _ _ _ _ c.in_ok-message.ensures.read c.in_err-digest.ensures.refused)

pub returns-in-Ok-clause-learnt : goal.returns-in-Ok-clause-learnt
returns-in-Ok-clause-learnt g c = λ o.
    rw c.in-Ok.ensures.observed (learns o _ _ _ _ c.in_ok-message.ensures.read
    c.in_ok-digest.ensures.meaning c.in_ok-digest.ensures.sound)
