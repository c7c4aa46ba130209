use Rattle.std.proofs.Common.{◌<◌, ◌≤◌, ◌∷◌, [], length, take, take_all, map, arith, ap, sym, ◌∙◌}
use Rattle.std.proofs.lemmas.List.{take_more, take-map, length-map}
use Rattle.fleet_wire.specs.Outline.{line}
use Rattle.fleet_observe.specs.Relay.{with_answer_lines, HasFirstOf}
use Rattle.fleet_observe.proofs.Lines.{more_answers, lines-push}
use Rattle.fleet_observe.proofs.reply.lent_rrset.add_rrset.Goals as goal

pub loop-rdata-preserved : goal.loop-rdata-preserved
loop-rdata-preserved g c =
    let xs = c.args.lent.rdatas.now in let i = c.loop-rdata.rdata-index in
    let item = c.rdata-item.result in let lent = c.args.lent in
    let within : i < length xs = omega arith in
    let done = map (line lent.name.now lent.rtype lent.ttl) (take i xs) in
    rw (
      take_more xs i item within,
      ← c.rdata-item.is,
      lines-push lent.name.now lent.rtype lent.ttl
          (take i xs) item,
      c.in-Ok.ensures.ok,
      c.as_slice.ensures,
      c.loop-rdata.invariant,
    )
    (more_answers c.args.outline.now done (line lent.name.now lent.rtype lent.ttl item ∷ []))

pub returns-in-Err-clause-err : goal.returns-in-Err-clause-err
returns-in-Err-clause-err g c =
    let xs = c.args.lent.rdatas.now in let i = c.loop-rdata.rdata-index in let lent = c.args.lent in
    let within : i < length xs = omega arith in
    let f = line lent.name.now lent.rtype lent.ttl in
    let short : i < length (map f xs) = rw length-map within in
    let kept = c.in-Err.ensures.err ∙ c.loop-rdata.invariant in
    let first : HasFirstOf c.args.outline.now (map f xs) c.answer.new.self =
    (i, short, kept ∙ ap (with_answer_lines c.args.outline.now) (sym (take-map f i xs))) in
    first

pub returns-clause-ok : goal.returns-clause-ok
returns-clause-ok g c =
    let xs = c.args.lent.rdatas.now in let i = c.loop-rdata.rdata-index in
    let all : length xs ≤ i = omega arith in
    rw (take_all i xs all) at c.loop-rdata.invariant
