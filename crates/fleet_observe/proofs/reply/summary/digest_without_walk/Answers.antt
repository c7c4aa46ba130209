use Rattle.std.proofs.Common.{◌∙◌, ap}
use Rattle.fleet_wire.specs.Question.{QuestionData}
use Rattle.fleet_wire.specs.declared.header.Header.{Header}
use Rattle.fleet_observe.specs.Digest.{end_data}
use Rattle.fleet_observe.proofs.LawfulMeanings.{lawful_meaning, meaning_without_walk}
use Rattle.fleet_observe.proofs.reply.summary.digest_without_walk.Goals as goal

pub invariant_of-result : goal.invariant_of-result
invariant_of-result g c =
    let m = c.args.message.now in let q = c.behind-message.view_is ∙ c.question.ensures.question in
    let meaning = meaning_without_walk m c.args.name c.behind-message.inside.rtype
    c.header.result.aa c.new.result.items (end_data c.args.end) c.new-2.result.items
    c.requires.served
    c.requires.named (ap (λ (x : QuestionData). x.rtype) q)
    (ap (λ (x : Header). x.aa) c.header.ensures.header)
    c.new.ensures.items c.requires.ends_as c.requires.idle c.new-2.ensures.items in
    lawful_meaning m _ c.header.ensures.read meaning

pub returns : goal.returns
returns g c =
    let m = c.args.message.now in let q = c.behind-message.view_is ∙ c.question.ensures.question in
    meaning_without_walk m c.args.name c.behind-message.inside.rtype c.header.result.aa
    c.new.result.items (end_data c.args.end) c.new-2.result.items c.requires.served
    c.requires.named (ap (λ (x : QuestionData). x.rtype) q)
    (ap (λ (x : Header). x.aa) c.header.ensures.header)
    c.new.ensures.items c.requires.ends_as c.requires.idle c.new-2.ensures.items
