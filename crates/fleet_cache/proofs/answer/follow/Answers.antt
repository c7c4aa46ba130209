use Rattle.std.proofs.Common.{◌<◌, ◌≤◌, length, sym, ap, ◌∙◌, arith}
use Rattle.std.proofs.lemmas.Bool.Decides.{nat_tests}
use Rattle.fleet_observe.specs.declared.bounds.TheConstants.{MOST_LINKS}
use Rattle.fleet_cache.specs.steps.Best.{referent}
use Rattle.fleet_cache.specs.Answer.{by_kind, add_links}
use Rattle.fleet_cache.specs.Shown.{shown_parts}
use Rattle.fleet_cache.proofs.Answers.{decider_of_held}
use Rattle.fleet_cache.proofs.Follow.{starts, ends_none, ends_last, ends_full, goes_further}
use Rattle.fleet_cache.proofs.answer.follow.Goals as goal

pub loop-observation-init : goal.loop-observation-init
loop-observation-init g c = starts c.args.held.now c.args.name.now c.args.rtype c.args.now
    c.new-chain.result.items c.new-chain.ensures c.requires.named

pub returns-in_default-clause-answer : goal.returns-in_default-clause-answer
returns-in_default-clause-answer g c n is =
    let items = c.args.held.now in
    ends_none items c.args.name.now c.args.rtype c.args.now
    c.loop-observation.at.now c.loop-observation.chain.items c.loop-observation.invariant
    (referent c.decider.result)
    (λ m e. decider_of_held items c.args.now m c.args.rtype (referent c.decider.result)
    c.decider.ensures.own.lawful (c.decider.ensures.best m e))
    n is (ap referent c.in_default.is)

pub returns-then-not-is_link-clause-answer : goal.returns-then-not-is_link-clause-answer
returns-then-not-is_link-clause-answer g c n is =
    let items = c.args.held.now in
    let links = shown_parts c.loop-observation.chain.items in
    let o = c.in-Some.observation.now in
    c.finish.ensures.answer ∙ (ap (λ v. add_links links (by_kind v)) c.show-part.ensures ∙
    ends_last items c.args.name.now c.args.rtype c.args.now
    c.loop-observation.at.now c.loop-observation.chain.items c.loop-observation.invariant
    (referent c.decider.result)
    (λ m e. decider_of_held items c.args.now m c.args.rtype (referent c.decider.result)
    c.decider.ensures.own.lawful (c.decider.ensures.best m e))
    n is o (ap referent c.in-Some.is)
    (sym c.is_link.ensures ∙ c.if-not-is_link.true))

pub returns-then-is_full-clause-answer : goal.returns-then-is_full-clause-answer
returns-then-is_full-clause-answer g c n is =
    let items = c.args.held.now in
    let full : MOST_LINKS ≤ length c.loop-observation.chain.items =
    grind (arith, nat_tests, c.is_full.ensures.value, c.if-is_full.true) in
    ends_full items c.args.name.now c.args.rtype c.args.now
    c.loop-observation.at.now c.loop-observation.chain.items c.loop-observation.invariant
    (referent c.decider.result)
    (λ m e. decider_of_held items c.args.now m c.args.rtype (referent c.decider.result)
    c.decider.ensures.own.lawful (c.decider.ensures.best m e))
    n is c.in-Some.observation.now (ap referent c.in-Some.is)
    (sym c.is_link.ensures ∙ c.if-not-is_link.false) (omega (arith, full))

pub loop-observation-preserved : goal.loop-observation-preserved
loop-observation-preserved g c =
    let items = c.args.held.now in
    let o = c.in-Some.observation.now in
    let fits = c.is_full.ensures.fits in
    let room : length c.loop-observation.chain.items < MOST_LINKS =
    grind (
      arith,
      nat_tests,
      c.is_full.ensures.value,
      c.if-is_full.false,
      c.loop-observation.invariant.room,
    ) in
    goes_further items c.args.name.now c.args.rtype c.args.now
    c.loop-observation.at.now c.loop-observation.chain.items c.loop-observation.invariant
    (referent c.decider.result)
    (λ m e. decider_of_held items c.args.now m c.args.rtype (referent c.decider.result)
    c.decider.ensures.own.lawful (c.decider.ensures.best m e))
    o c.push.new.self.items c.show-part.result c.target-at.result.now (ap referent c.in-Some.is)
    (sym c.is_link.ensures ∙ c.if-not-is_link.false) room c.push.ensures.items
    c.show-part.ensures c.target-at.ensures.octets c.target-at.ensures.named
