use Rattle.std.proofs.Common.{◌++◌, ◌∙◌, List, Bool, Option, length, ap, arith}
use Rattle.fleet_wire.specs.Question.{QuestionData}
use Rattle.fleet_wire.specs.Record.{RecordData}
use Rattle.fleet_wire.specs.Outline.{OutlineData, header_octets, question_octets_if_any, section_octets}
use Rattle.fleet_wire.proofs.Outlines.{rows_fit, whole_pieces}
use Rattle.fleet_wire.proofs.writer.push_whole.Goals as goal

pub len-answers-requires : goal.len-answers-requires
len-answers-requires g c =
    rw (ap (λ (x : OutlineData). x.answer) c.outline.view_is)
    (rows_fit c.args.outline.now c.requires).0

pub len-authorities-requires : goal.len-authorities-requires
len-authorities-requires g c =
    rw (ap (λ (x : OutlineData). x.authority) c.outline.view_is)
    (rows_fit c.args.outline.now c.requires).1

pub overflow_cast-answers : goal.overflow_cast-answers
overflow_cast-answers g c =
    omega (
      arith,
      c.len-answers.ensures,
      ap (λ (x : OutlineData). length x.answer) c.outline.view_is,
      (rows_fit c.args.outline.now c.requires).0,
    )

pub overflow_cast-authorities : goal.overflow_cast-authorities
overflow_cast-authorities g c =
    omega (
      arith,
      c.len-authorities.ensures,
      ap (λ (x : OutlineData). length x.authority) c.outline.view_is,
      (rows_fit c.args.outline.now c.requires).1,
    )

pub returns : goal.returns
returns g c =
    let o = c.args.outline.now in
    let v = c.outline.view_is in
    let start = c.args.out.now.items in
    let one = c.push_header.new.out.items in
    let two = c.push_question.new.out.items in
    let three = c.push_section.new.out.items in
    let an = c.len-answers.result in
    let ns = c.len-authorities.result in
    let answer = ap (λ (x : OutlineData). x.answer) v in
    let authority = ap (λ (x : OutlineData). x.authority) v in
    whole_pieces o start one two three c.push_section-2.new.out.items an ns
    (c.len-answers.ensures ∙ ap length answer) (c.len-authorities.ensures ∙ ap length authority)
    (c.in_ok-push_header.ensures
    ∙ ap (λ (t : Bool). start ++ header_octets o t an ns) (ap (λ (x : OutlineData). x.tc) v))
    (c.in_ok-push_question.ensures
    ∙ ap (λ (q : Option QuestionData). one ++ question_octets_if_any q)
    (ap (λ (x : OutlineData). x.question) v))
    (c.in_ok-push_section.ensures
    ∙ ap (λ (rs : List RecordData). two ++ section_octets rs) answer)
    (c.in_ok-push_section-2.ensures
    ∙ ap (λ (rs : List RecordData). three ++ section_octets rs) authority)
