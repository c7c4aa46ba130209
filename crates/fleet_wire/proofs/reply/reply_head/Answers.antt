use Rattle.std.proofs.Common.{refl, []}
use Rattle.std.proofs.lemmas.Result.{err_from_is_err_and}
use Rattle.fleet_wire.specs.Question.{spelled_question_data}
use Rattle.fleet_wire.specs.Message.{message_data}
use Rattle.fleet_wire.proofs.Lawful.{query_read, cut_reply, whole_reply}
use Rattle.fleet_wire.proofs.Records.{answer_fails, authority_fails}
use Rattle.fleet_wire.proofs.reply.reply_head.Goals as goal

pub returns-then-header-clause-whole : goal.returns-then-header-clause-whole
returns-then-header-clause-whole c =
    let is = query_read _ _ _ _ c.in_ok-header.ensures c.in_ok-question.ensures.found in (
      message_data c.in_ok-header.header (spelled_question_data c.in_ok-question.question) [] [],
      cut_reply _ _ _ _ is c.if-header.true _ _ refl refl,
    )

pub returns-in_err-middle-clause-fault : goal.returns-in_err-middle-clause-fault
returns-in_err-middle-clause-fault c =
    let r = c.from_residual-in_err-middle in let p = err_from_is_err_and r.result r.ensures.1 in
    let is = query_read _ _ _ _ c.in_ok-header.ensures c.in_ok-question.ensures.found in
    rw (p.1, p.2) (answer_fails _ _ _ _ _ is c.if-header.false _ refl c.in_err-middle.ensures.fault)

pub returns-in_err-records_end-clause-fault : goal.returns-in_err-records_end-clause-fault
returns-in_err-records_end-clause-fault c =
    let r = c.from_residual-in_err-records_end in
    let p = err_from_is_err_and r.result r.ensures.1 in
    let is = query_read _ _ _ _ c.in_ok-header.ensures c.in_ok-question.ensures.found in
    let a = c.in_ok-middle.ensures.found in
    rw (p.1, p.2)
    (authority_fails _ _ _ _ _ is c.if-header.false _ _ _ a.0 refl refl a.1 a.2
    c.in_err-records_end.ensures.fault)

pub returns-clause-whole : goal.returns-clause-whole
returns-clause-whole c =
    let is = query_read _ _ _ _ c.in_ok-header.ensures c.in_ok-question.ensures.found in
    let a = c.in_ok-middle.ensures.found in let b = c.in_ok-records_end.ensures.found in (
      message_data c.in_ok-header.header (spelled_question_data c.in_ok-question.question) a.0 b.0,
      whole_reply _ _ _ _ is c.if-header.false _ _ _ _ a.1 a.2 b.1 b.2,
    )
