use Rattle.std.proofs.Common.{◌≡◌, max, sym, ◌∙◌, arith}
use mathlib.Core.Bool.{false≢true}
use Rattle.fleet_cache.specs.AnswerData.{answer_data}
use Rattle.fleet_site.specs.question.Decision.{Reply, IsStandardQuery, IsServedQuestion}
use Rattle.fleet_site.proofs.Deciding.{answer_decided, plain_decided, plain_missed, unserved_plain}
use Rattle.fleet_site.proofs.hit.decide_plain.Goals.{then-not-is_standard_query-via-then-not-is_standard_query, then-not-is_standard_query-via-else-not-is_standard_query+then-not-is_served}
use Rattle.fleet_site.proofs.hit.decide_plain.Goals as goal

pub returns-in_default-clause-decides : goal.returns-in_default-clause-decides
returns-in_default-clause-decides g c = λ s cached h q is.
    false≢true (c.in_default.ensures.only h q is.spelled)

pub returns-then-not-is_standard_query-clause-decides : goal.returns-then-not-is_standard_query-clause-decides
returns-then-not-is_standard_query-clause-decides g c = λ s cached.
    let unserved : ¬ (IsStandardQuery c.in-Some.header × IsServedQuestion c.in-Some.question) =
    λ both. elim c.then-not-is_standard_query.branch [
      | then-not-is_standard_query-via-then-not-is_standard_query w ↦
          false≢true (sym w.if-not-is_standard_query.true ∙ c.is_standard_query.ensures.1 both.0)
      | then-not-is_standard_query-via-else-not-is_standard_query+then-not-is_served w ↦
          false≢true (sym w.if-not-is_served.true ∙ w.is_served.ensures.1 both.1)
    ] in
    unserved_plain c.one_query.ensures c.args.octets.now c.in-Some.header c.in-Some.question
    c.in-Some.ensures.found unserved

pub returns-then-is_miss-clause-decides : goal.returns-then-is_miss-clause-decides
returns-then-is_miss-clause-decides g c = λ s cached.
    let later : max c.args.cache.now.floor c.args.now ≡ c.args.now = omega (arith, c.requires) in
    let told = rw later at (c.answer_lent-answer.ensures.answer s cached) in
    plain_missed s c.args.now c.args.octets.now c.in-Some.header c.in-Some.question
    c.in_ok-copy.copy (answer_data c.answer_lent-answer.result) c.in-Some.ensures.found
    (c.is_standard_query.ensures.0 c.if-not-is_standard_query.false)
    (c.is_served.ensures.0 c.if-not-is_served.false) told
    (c.is_miss.ensures.0 c.if-is_miss.true) c.in_ok-copy.ensures

pub returns-clause-decides : goal.returns-clause-decides
returns-clause-decides g c = λ s cached.
    let later : max c.args.cache.now.floor c.args.now ≡ c.args.now = omega (arith, c.requires) in
    let told = rw later at (c.answer_lent-answer.ensures.answer s cached) in
    let a = answer_data c.answer_lent-answer.result in
    let reply = c.write_answer_into.new.out.items in
    plain_decided s c.args.now c.args.octets.now c.in-Some.header c.in-Some.question a
    (Reply reply) c.in-Some.ensures.found (c.is_standard_query.ensures.0 c.if-not-is_standard_query.false)
    (c.is_served.ensures.0 c.if-not-is_served.false) told
    (answer_decided c.in-Some.header c.in-Some.question a reply
    (rw c.in_ok-write_answer_into.was at c.write_answer_into.ensures))
