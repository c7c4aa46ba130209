use Rattle.std.proofs.Common.{◌≡◌, ◌∙◌, inl, inr, ap}
use Rattle.fleet_wire.specs.Question.{QuestionData}
use Rattle.fleet_observe.proofs.LawfulMeanings.{all_plain}
use Rattle.fleet_observe.proofs.Sections.{in_of_own}
use Rattle.fleet_observe.proofs.reply.summary.end_of.Goals as goal

pub found_at-requires-clause-plain : goal.found_at-requires-clause-plain
found_at-requires-clause-plain g c = all_plain _ (rw c.answer-answer.ensures.answer
    c.requires.read.answer)

pub rrset_at-requires : goal.rrset_at-requires
rrset_at-requires g c = (_, in_of_own _ _ _ _ (rw (← c.record.view_is) at c.in-Some.ensures))

pub soa_for-requires : goal.soa_for-requires
soa_for-requires g c = all_plain _ (rw c.authority.ensures.authority c.requires.read.authority)

pub returns : goal.returns
returns g c =
    let rtype : c.behind-message.inside.rtype ≡ c.args.message.now.question.rtype =
    ap (λ (q : QuestionData). q.rtype) (c.behind-message.view_is
    ∙ c.question.ensures.question) in
    let code : c.args.message.now.header.rcode ≡ 3 = elim c.requires.asks.code [
      | inl e ↦ absurd (c.if-header-eq-NO_ERROR.false (rw c.header.ensures.header e))
      | inr e ↦
          e
    ] in (
      rw (c.answer-answer.ensures.answer, rtype) at c.in_default.ensures,
      code,
      rw (c.authority.ensures.authority, c.in_ok-denied.ensures) at c.in_ok-soa.ensures.soa,
    )
