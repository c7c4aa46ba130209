use Rattle.std.proofs.Common.{refl}
use Rattle.fleet_wire.proofs.Lawful.{cut_read, cut_reply, whole_read, whole_reply}
use Rattle.fleet_wire.proofs.Records.{answer_lies, authority_lies}
use Rattle.fleet_wire.proofs.reply.message_of.Goals as goal

pub of_parts-requires : goal.of_parts-requires
of_parts-requires g c =
    let is = rw (← c.in_ok-question.ensures) at c.requires.query in
    cut_read _ _ _ _ is c.if-header.true _ _ c.new-answer.ensures.items
    c.new-authority.ensures.items

pub returns-then-header : goal.returns-then-header
returns-then-header g c =
    let is = rw (← c.in_ok-question.ensures) at c.requires.query in
    rw c.of_parts.ensures
    (cut_reply _ _ _ _ is c.if-header.true _ _ c.new-answer.ensures.items
    c.new-authority.ensures.items)

pub records_of-requires-clause-found : goal.records_of-requires-clause-found
records_of-requires-clause-found g c =
    answer_lies _ _ _ _ c.requires.query c.if-header.false _ refl c.requires.whole

pub records_of-requires-2-clause-found : goal.records_of-requires-2-clause-found
records_of-requires-2-clause-found g c =
    let a = c.in_ok-answer.ensures in
    authority_lies _ _ _ _ c.requires.query c.if-header.false _ _ _ _ refl refl a.found a.counted
    c.requires.whole

pub of_parts-requires-2 : goal.of_parts-requires-2
of_parts-requires-2 g c =
    let is = rw (← c.in_ok-question.ensures) at c.requires.query in
    whole_read _ _ _ _ is c.if-header.false _ _ _ _ c.in_ok-answer.ensures.found
    c.in_ok-authority.ensures.found

pub returns : goal.returns
returns g c =
    let is = rw (← c.in_ok-question.ensures) at c.requires.query in
    rw c.of_parts-2.ensures
    (whole_reply _ _ _ _ is c.if-header.false _ _ _ _ c.in_ok-answer.ensures.found
    c.in_ok-answer.ensures.counted c.in_ok-authority.ensures.found
    c.in_ok-authority.ensures.counted)
