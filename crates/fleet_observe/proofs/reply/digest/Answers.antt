use Rattle.std.proofs.Common.{◌∙◌, ap, sym, refl, inl, inr}
use mathlib.Core.Bool.{false≢true}
use Rattle.std.proofs.lemmas.Result.{err_from_is_err_and}
use Rattle.fleet_wire.specs.Question.{QuestionData}
use Rattle.fleet_wire.specs.declared.header.Header.{Header}
use Rattle.fleet_name.proofs.Lemmas.{labels_of-spelled}
use Rattle.fleet_observe.specs.DigestOf.{bad_chain, no_memory}
use Rattle.fleet_observe.proofs.Spelling.{spells}
use Rattle.fleet_observe.proofs.LawfulMeanings.{all_plain, no_walk_cut, no_walk_coded, not_so}
use Rattle.fleet_observe.proofs.reply.digest.Goals as goal

pub digest_without_walk-requires : goal.digest_without_walk-requires
digest_without_walk-requires g c =
    let served = c.is_served.ensures.0 c.if-not-is_served.false in
    let cut = sym (ap (λ (x : Header). x.tc) c.header-header.ensures.header) ∙ c.if-header.true in
    record {
      served = served;
      named = c.in_ok-name.ensures ∙ ap (λ (x : QuestionData). x.name)
          (c.question.view_is ∙ c.question-question.ensures.question);
      ends_as = (cut, refl);
      idle = no_walk_cut _ cut;
    }

pub digest_without_walk-requires-then-not-is_walk_code : goal.digest_without_walk-requires-then-not-is_walk_code
digest_without_walk-requires-then-not-is_walk_code g c =
    let served = c.is_served.ensures.0 c.if-not-is_served.false in
    let whole = sym (ap (λ (x : Header). x.tc) c.header-header.ensures.header)
    ∙ c.if-header.false in
    let is = ap (λ (x : Header). x.rcode) c.header-header.ensures.header in
    let asks = rw is at c.is_walk_code.ensures in
    let none = not_so _ _ asks c.if-not-is_walk_code.true in
    record {
      served = served;
      named = c.in_ok-name-2.ensures ∙ ap (λ (x : QuestionData). x.name)
          (c.question.view_is ∙ c.question-question.ensures.question);
      ends_as = (whole, (λ h. none (inl h)), (λ h. none (inr h)), is, refl);
      idle = no_walk_coded _ none;
    }

pub has_walk-requires-clause-spelled : goal.has_walk-requires-clause-spelled
has_walk-requires-clause-spelled g c = spells c.octets.result.now c.question.inside.name
    c.octets.ensures.named c.octets.ensures.octets

pub has_walk-requires-clause-plain : goal.has_walk-requires-clause-plain
has_walk-requires-clause-plain g c =
    all_plain _ (rw c.answer.ensures.answer c.answer.ensures.read.answer)

pub returns-then-not-has_walk : goal.returns-then-not-has_walk
returns-then-not-has_walk g c =
    let served = c.is_served.ensures.0 c.if-not-is_served.false in
    let q = c.question.view_is ∙ c.question-question.ensures.question in let o = c.octets.ensures in
    let is = labels_of-spelled c.octets.result.now c.question.inside.name o.named.labels o.octets
    ∙ ap (λ (x : QuestionData). x.name) q in
    let rtype = ap (λ (x : QuestionData). x.rtype) q in
    let walk = rw (c.answer.ensures.answer, rtype, is) at c.has_walk.ensures in
    let whole = sym (ap (λ (x : Header). x.tc) c.header-header.ensures.header)
    ∙ c.if-header.false in
    let code = (rw (ap (λ (x : Header). x.rcode)
    c.header-header.ensures.header) at c.is_walk_code.ensures).0
    c.if-not-is_walk_code.false in
    bad_chain served (record { whole = whole; code = code })
    (λ h. false≢true (sym c.if-not-has_walk.true ∙ walk.1 h)) refl

pub digest_along_walk-requires : goal.digest_along_walk-requires
digest_along_walk-requires g c =
    let served = c.is_served.ensures.0 c.if-not-is_served.false in
    let q = c.question.view_is ∙ c.question-question.ensures.question in let o = c.octets.ensures in
    let is = labels_of-spelled c.octets.result.now c.question.inside.name o.named.labels o.octets
    ∙ ap (λ (x : QuestionData). x.name) q in
    let rtype = ap (λ (x : QuestionData). x.rtype) q in
    let walk = rw (c.answer.ensures.answer, rtype, is) at c.has_walk.ensures in
    let whole = sym (ap (λ (x : Header). x.tc) c.header-header.ensures.header)
    ∙ c.if-header.false in
    let code = (rw (ap (λ (x : Header). x.rcode)
    c.header-header.ensures.header) at c.is_walk_code.ensures).0
    c.if-not-is_walk_code.false in
    record {
      served = served;
      asks = record { whole = whole; code = code };
      walk = walk.0 c.if-not-has_walk.false;
    }

pub returns-in_err-name : goal.returns-in_err-name
returns-in_err-name g c =
    let r = c.from_residual in let p = err_from_is_err_and r.result r.ensures.1 in
    let served = c.is_served.ensures.0 c.if-not-is_served.false in
    let cut = sym (ap (λ (x : Header). x.tc) c.header-header.ensures.header) ∙ c.if-header.true in
    rw (p.1, p.2) (no_memory (served, λ asks. absurd (no_walk_cut _ cut asks)) refl)

pub returns-in_err-name-2 : goal.returns-in_err-name-2
returns-in_err-name-2 g c =
    let r = c.from_residual-in_err-name-2 in let p = err_from_is_err_and r.result r.ensures.1 in
    let served = c.is_served.ensures.0 c.if-not-is_served.false in
    let is = ap (λ (x : Header). x.rcode) c.header-header.ensures.header in
    let asks = rw is at c.is_walk_code.ensures in
    let none = not_so _ _ asks c.if-not-is_walk_code.true in
    rw (p.1, p.2) (no_memory (served, λ walks. absurd (no_walk_coded _ none walks)) refl)

pub returns-in_err-digest_along_walk : goal.returns-in_err-digest_along_walk
returns-in_err-digest_along_walk g c =
    let r = c.from_residual-in_err-digest_along_walk in
    let p = err_from_is_err_and r.result r.ensures.1 in
    let served = c.is_served.ensures.0 c.if-not-is_served.false in
    let q = c.question.view_is ∙ c.question-question.ensures.question in let o = c.octets.ensures in
    let is = labels_of-spelled c.octets.result.now c.question.inside.name o.named.labels o.octets
    ∙ ap (λ (x : QuestionData). x.name) q in
    let rtype = ap (λ (x : QuestionData). x.rtype) q in
    let walk = rw (c.answer.ensures.answer, rtype, is) at c.has_walk.ensures in
    let found = walk.0 c.if-not-has_walk.false in
    rw (p.1, p.2) (no_memory (served, λ _. found) refl)
