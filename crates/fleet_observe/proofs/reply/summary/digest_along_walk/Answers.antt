use Rattle.std.proofs.Common.{◌∙◌, ap}
use Rattle.fleet_wire.specs.Question.{QuestionData}
use Rattle.fleet_wire.specs.declared.header.Header.{Header}
use Rattle.fleet_observe.specs.Digest.{end_data}
use Rattle.fleet_observe.specs.DigestOf.{WalkEndsAs}
use Rattle.fleet_name.proofs.Lemmas.{labels_of-spelled}
use Rattle.fleet_observe.proofs.Spelling.{spells}
use Rattle.fleet_observe.proofs.LawfulMeanings.{all_plain, lawful_meaning, meaning_along_walk}
use Rattle.fleet_observe.proofs.reply.summary.digest_along_walk.Goals as goal

pub follow-requires-clause-spelled : goal.follow-requires-clause-spelled
follow-requires-clause-spelled g c = spells c.octets-name.result.now c.question.inside.name
    c.octets-name.ensures.named c.octets-name.ensures.octets

pub follow-requires-clause-plain : goal.follow-requires-clause-plain
follow-requires-clause-plain g c =
    all_plain _ (rw c.answer.ensures.answer c.answer.ensures.read.answer)

pub follow-requires-clause-walk : goal.follow-requires-clause-walk
follow-requires-clause-walk g c =
    let q = c.question.view_is ∙ c.question-question.ensures.question in
    let o = c.octets-name.ensures in
    let is = labels_of-spelled c.octets-name.result.now c.question.inside.name o.named.labels
    o.octets ∙ ap (λ (x : QuestionData). x.name) q in
    rw (c.answer.ensures.answer, ap (λ (x : QuestionData). x.rtype) q, is) c.requires.walk

pub invariant_of-result : goal.invariant_of-result
invariant_of-result g c =
    let m = c.args.message.now in
    let q = c.question.view_is ∙ c.question-question.ensures.question in
    let o = c.octets-name.ensures in
    let is = labels_of-spelled c.octets-name.result.now c.question.inside.name o.named.labels
    o.octets ∙ ap (λ (x : QuestionData). x.name) q in
    let rtype = ap (λ (x : QuestionData). x.rtype) q in
    let f = rw (c.answer.ensures.answer, rtype, is) at c.in_ok-chain.ensures in
    let ends_as : WalkEndsAs m c.in_ok-chain.field-0.chain.items (end_data c.in_ok-end.end) =
    record {
      asks = c.requires.asks;
      later = f.later;
      walk = f.walk;
      links = f.links;
      end_is = rw f.at_last at c.in_ok-end.ensures;
    } in
    lawful_meaning m _ c.header.ensures.read
    (meaning_along_walk m c.in_ok-try_clone.field-0 c.question.inside.rtype c.header.result.aa
    c.in_ok-chain.field-0.chain.items (end_data c.in_ok-end.end) c.in_ok-ns.ns.items
    c.requires.served (c.in_ok-try_clone.ensures ∙ ap (λ (x : QuestionData). x.name) q) rtype
    (ap (λ (x : Header). x.aa) c.header.ensures.header) ends_as c.in_ok-ns.ensures.sets)

pub returns : goal.returns
returns g c =
    let m = c.args.message.now in
    let q = c.question.view_is ∙ c.question-question.ensures.question in
    let o = c.octets-name.ensures in
    let is = labels_of-spelled c.octets-name.result.now c.question.inside.name o.named.labels
    o.octets ∙ ap (λ (x : QuestionData). x.name) q in
    let rtype = ap (λ (x : QuestionData). x.rtype) q in
    let f = rw (c.answer.ensures.answer, rtype, is) at c.in_ok-chain.ensures in
    let ends_as : WalkEndsAs m c.in_ok-chain.field-0.chain.items (end_data c.in_ok-end.end) =
    record {
      asks = c.requires.asks;
      later = f.later;
      walk = f.walk;
      links = f.links;
      end_is = rw f.at_last at c.in_ok-end.ensures;
    } in
    meaning_along_walk m c.in_ok-try_clone.field-0 c.question.inside.rtype c.header.result.aa
    c.in_ok-chain.field-0.chain.items (end_data c.in_ok-end.end) c.in_ok-ns.ns.items
    c.requires.served (c.in_ok-try_clone.ensures ∙ ap (λ (x : QuestionData). x.name) q) rtype
    (ap (λ (x : Header). x.aa) c.header.ensures.header) ends_as c.in_ok-ns.ensures.sets
