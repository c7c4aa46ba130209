use Rattle.std.proofs.Common.{Some, None}
use Rattle.std.proofs.lemmas.Result.{err_from_is_err_and}
use Rattle.fleet_site.proofs.Hearing.{finds_for, hears_relay, refuses_unmatched, undigested_reply, unread_reply}
use Rattle.fleet_site.proofs.relay.relay_of_reply.Goals as goal

pub returns-in_err-message-clause-refused : goal.returns-in_err-message-clause-refused
returns-in_err-message-clause-refused g c =
    let p = err_from_is_err_and c.from_residual.result c.from_residual.ensures.1 in
    rw (p.1, p.2) (unread_reply _ _ _ _ _ c.requires c.in_err-message.ensures.refused)

pub returns-in-None-clause-refused : goal.returns-in-None-clause-refused
returns-in-None-clause-refused g c =
    let m = c.in_ok-message.message in
    refuses_unmatched _ _ _ _ m c.requires c.in_ok-message.ensures.read
    (finds_for c.args.pending.now c.args.upstream c.header-id.result m.header
    c.question-question.result.now m.question None c.header-id.ensures.header
    c.question-question.ensures.question c.in-None.ensures.finds)

pub returns-in_err-digest-clause-refused : goal.returns-in_err-digest-clause-refused
returns-in_err-digest-clause-refused g c =
    let r = c.from_residual-in_err-digest in let p = err_from_is_err_and r.result r.ensures.1 in
    let m = c.in_ok-message.message in
    rw (p.1, p.2) (undigested_reply _ _ _ _ m c.in-Some.entry.now _ c.requires
    c.in_ok-message.ensures.read (finds_for c.args.pending.now c.args.upstream c.header-id.result
    m.header c.question-question.result.now m.question (Some c.in-Some.entry.now)
    c.header-id.ensures.header c.question-question.ensures.question c.in-Some.ensures.finds)
    c.in_err-digest.ensures.refused)

pub returns-in-Ok-clause-relayed : goal.returns-in-Ok-clause-relayed
returns-in-Ok-clause-relayed g c =
    let m = c.in_ok-message.message in
    hears_relay c.settling_gives_its_entry.ensures _ _ _ _ m _ c.in-Some.entry.now _ c.requires
    c.in_ok-message.ensures.read c.in-Some.ensures.lawful (finds_for c.args.pending.now
    c.args.upstream c.header-id.result m.header c.question-question.result.now m.question
    (Some c.in-Some.entry.now) c.header-id.ensures.header c.question-question.ensures.question
    c.in-Some.ensures.finds) c.in_ok-digest.ensures.meaning c.in_ok-digest.ensures.sound
    c.in-Ok.ensures
