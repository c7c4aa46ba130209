use Rattle.std.proofs.Common.{◌<◌, ◌≤◌, ◌∙◌, ◌≡◌, [], length, take, arith, sym, ap, refl, Some}
use Rattle.fleet_observe.specs.RrSet.{RrSetData}
use Rattle.fleet_observe.specs.Relay.{code_of, is_cut, set_lines, chain_lines, with_answer_lines}
use Rattle.std.proofs.lemmas.List.{take_more, take_all}
use Rattle.fleet_observe.proofs.Lines.{no_answers, more_answers, chain_lines-push, sketch_with, sketch_is, code_short}
use Rattle.fleet_observe.proofs.reply.relay.outline_of.Goals as goal

pub new-outline-requires-clause-rcode : goal.new-outline-requires-clause-rcode
new-outline-requires-clause-rcode g c =
    let is = c.end-end.ensures in
    rw (c.code_of_end-rcode.ensures, is.end) (code_short _ c.args.digest.now.end is.lawful.end_is)

pub loop-link-init : goal.loop-link-init
loop-link-init g c = sym (no_answers c.new-outline.result)

pub loop-link-preserved : goal.loop-link-preserved
loop-link-preserved g c =
    let xs = c.chain-link-items.result.now in let i = c.loop-link.link-index in
    let item = c.link-item.result in
    let within : i < length xs = omega arith in
    let added : c.add_rrset.new.outline ≡ with_answer_lines c.loop-link.outline (set_lines item) =
    c.in_ok-add_rrset.ensures.ok ∙ ap (λ (x : RrSetData). with_answer_lines c.loop-link.outline
    (set_lines x)) c.lend.ensures in
    rw (
      added,
      c.loop-link.invariant,
      take_more xs i item within,
      ← c.link-item.is,
      chain_lines-push (take i xs) item,
    )
    (more_answers c.new-outline.result (chain_lines (take i xs)) (set_lines item))

pub returns : goal.returns
returns g c =
    let xs = c.chain-link-items.result.now in let i = c.loop-link.link-index in
    let all : length xs ≤ i = omega arith in
    let d = c.args.digest.now in let end = c.end-end.ensures.end in
    let made = c.new-outline.ensures in
    let start : c.new-outline.result ≡ sketch_with c.args.id 0 (code_of d.end) c.args.rd
    (is_cut d.end) (Some c.args.question.now) [] [] =
    sketch_is c.new-outline.result c.args.id 0 (code_of d.end) c.args.rd (is_cut d.end)
    c.args.question.now
    made.header.0 made.header.1 made.header.2 (made.header.3 ∙ (c.code_of_end-rcode.ensures
    ∙ ap code_of end)) (made.header.4 ∙ (c.is_cut_off-tc.ensures ∙ ap is_cut end))
    made.question made.empty.0 made.empty.1 in
    rw (
      c.in_ok-put_end.ensures,
      c.loop-link.invariant,
      take_all i xs all,
      c.chain-link-items.ensures.chain,
      end,
      start,
    ) refl
