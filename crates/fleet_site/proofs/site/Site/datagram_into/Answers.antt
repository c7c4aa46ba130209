use Rattle.std.proofs.Common.{sym, ◌∙◌, subst, max}
use Rattle.std.specs.Prelude.{IfOk}
use mathlib.Core.Bool.{false≢true}
use Rattle.fleet_site.specs.question.Handling.{handled_result, IsInPlace}
use Rattle.fleet_site.specs.question.Decision.{IsPlainHit}
use Rattle.fleet_site.specs.ConfigData.{IsAmong}
use Rattle.fleet_site.specs.SiteModel.{SiteModel}
use Rattle.fleet_site.specs.steps.Sender.{IsSender}
use Rattle.fleet_site.specs.SiteData.{SiteData, site_data}
use Rattle.fleet_site.proofs.Following.{for_model, is_other, placed_for, asked_follows}
use Rattle.fleet_site.proofs.site.Site.datagram_into.Goals as goal

pub dispatch-requires : goal.dispatch-requires
dispatch-requires g c =
    let P : SiteData → Type 0 =
    λ s. IsSender s.config.upstreams s.config.peers c.args.from c.sender_of-sender.result in
    subst P c.self.view_is c.sender_of-sender.ensures

pub returns-clause-follows : goal.returns-clause-follows
returns-clause-follows g c =
    let i = c.self.inside in
    let old = site_data i.config i.cache i.clock i.pending in
    asked_follows old c.args.self.now c.args.now c.later-clock.result c.args.from
    c.args.bytes.now c.args.word c.upstreams.result.now c.take_question_into.new.pending
    (handled_result c.args.from c.take_question_into.new.out.items c.take_question_into.result)
    c.self.view_is c.self.invariant c.later-clock.ensures
    (subst (IsSender i.config.upstreams i.config.peers c.args.from)
    (c.is_asker.ensures.0 c.if-not-is_asker.false) c.sender_of-sender.ensures)
    c.upstreams.ensures.upstreams c.take_question_into.ensures.table
    c.take_question_into.ensures.questioned

pub returns-then-not-is_asker-clause-in_place : goal.returns-then-not-is_asker-clause-in_place
returns-then-not-is_asker-clause-in_place g c =
    let i = c.self.inside in
    let P : SiteModel → Type 0 =
    λ m. ¬ IsAmong m.upstreams c.args.from → ¬ IsAmong m.peers c.args.from
    → IsPlainHit m.taken (max m.clock c.args.now) c.args.bytes.now
    → IfOk c.whole.result (λ h. IsInPlace h) in
    for_model P (site_data i.config i.cache i.clock i.pending) c.args.self.now c.self.view_is
    (λ taken cached no_upstream no_peer hit.
    let other = is_other i.config.upstreams i.config.peers c.args.from c.sender_of-sender.result
    c.sender_of-sender.ensures no_upstream no_peer in
    absurd (false≢true (sym c.if-not-is_asker.true ∙ c.is_asker.ensures.1 other)))

pub returns-clause-in_place : goal.returns-clause-in_place
returns-clause-in_place g c = λ m stands no_upstream no_peer hit.
    let i = c.self.inside in
    placed_for (site_data i.config i.cache i.clock i.pending) c.args.self.now c.args.now
    c.later-clock.result c.args.bytes.now c.take_question_into.result c.self.view_is
    c.later-clock.ensures c.take_question_into.ensures.in_place m stands hit
