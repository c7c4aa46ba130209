use Rattle.std.proofs.Common.{Result, refl, sym, subst}
use Rattle.fleet_site.specs.OutcomeData.{OutcomeData}
use Rattle.fleet_site.specs.question.Question.{Reacts, Questioned}
use Rattle.fleet_site.specs.question.Decision.{Reply, Miss, IsAsking}
use Rattle.fleet_site.specs.steps.Carried.{SaysOrStops}
use Rattle.fleet_site.specs.declared.outcome.SiteFault.{SiteFault}
use Rattle.fleet_site.proofs.Deciding.{known_decided}
use Rattle.fleet_site.proofs.Following.{keeps_weaker}
use Rattle.fleet_site.proofs.question.take_question_into.Goals as goal

pub returns-in-Ok-Hit-clause-questioned : goal.returns-in-Ok-Hit-clause-questioned
returns-in-Ok-Hit-clause-questioned g c = λ s cached. (
  Reply c.decide_plain.new.out.items,
  rw c.in-Ok-Hit.field-0-is at (c.in-Ok-Hit.ensures.decides s cached),
  refl,
)

pub returns-in-Ok-Miss-clause-questioned : goal.returns-in-Ok-Miss-clause-questioned
returns-in-Ok-Miss-clause-questioned g c = λ s cached.
    let d = c.args.datagram.now in
    let old = c.args.pending.now in
    let v = Miss c.in-Ok-Miss.header c.in-Ok-Miss.question in
    let miss = rw c.in-Ok-Miss.field-0-is at c.in-Ok-Miss.ensures.miss in
    let decides = rw c.in-Ok-Miss.field-0-is at (c.in-Ok-Miss.ensures.decides s cached) in
    let P : Result OutcomeData SiteFault → Type 0 =
    λ r. SaysOrStops (Questioned s c.args.upstreams.now old d.moment d.from d.word d.octets.now)
    (IsAsking d.octets.now) old r c.respond.new.pending in
    subst P (sym (c.whole-in-Ok-Miss.ensures d.from c.decide_plain.new.out.items))
    (keeps_weaker (Reacts c.args.upstreams.now old d.moment d.from d.word v)
    (Questioned s c.args.upstreams.now old d.moment d.from d.word d.octets.now) (Unit {0})
    (IsAsking d.octets.now) old c.respond.new.pending c.respond.result
    (λ e k. (v, decides, k)) (λ u. miss.0) c.respond.ensures.reacts)

pub returns-in-Ok-Other-clause-in_place : goal.returns-in-Ok-Other-clause-in_place
returns-in-Ok-Other-clause-in_place g c = λ s cached hit.
    let other = rw c.in-Ok-Other.field-0-is at (c.in-Ok-Other.ensures.decides s cached) in
    absurd (other hit.header hit.question hit.plain)

pub returns-in-Ok-Miss-clause-in_place : goal.returns-in-Ok-Miss-clause-in_place
returns-in-Ok-Miss-clause-in_place g c = λ s cached hit.
    let decides = rw c.in-Ok-Miss.field-0-is at (c.in-Ok-Miss.ensures.decides s cached) in
    absurd (known_decided c.one_query.ensures s c.args.datagram.now.moment c.args.datagram.now.octets.now
    c.in-Ok-Miss.header c.in-Ok-Miss.question hit decides)
