use Rattle.std.proofs.Common.{◌≡◌, ◌≤◌, max, sym, ap, ◌∙◌, subst, arith}
use Rattle.fleet_cache.specs.Live.{live_of}
use Rattle.fleet_cache.specs.Cached.{CacheData, IsCached}
use Rattle.fleet_cache.specs.Answer.{answer_of}
use Rattle.fleet_cache.specs.AnswerData.{answer_data}
use Rattle.fleet_cache.proofs.Holdings.{held_cached}
use Rattle.fleet_cache.proofs.OneAnswer.{sets_answer_alike}
use Rattle.fleet_cache.proofs.KindsOfParts.{kinds_of_answer}
use Rattle.fleet_cache.proofs.Memories.{lent_view}
use Rattle.fleet_cache.proofs.cache.Cache.answer_at.Goals as goal

pub returns-clause-kinds : goal.returns-clause-kinds
returns-clause-kinds g c =
    let items = c.held.result.now in
    let floor = c.floor.result in
    let view = lent_view c.self.inside.memory c.args.self.now items floor c.self.view_is c.held.ensures
    c.floor.ensures in
    let w = c.requires in
    kinds_of_answer c.follow.result items c.later-at.result c.args.rtype w.name
    (c.follow.ensures.answer w.name w.whole)

-- what is held answers as the set does, at the floor and later
pub returns-clause-answer : goal.returns-clause-answer
returns-clause-answer g c s cached n spells =
    let items = c.held.result.now in
    let floor = c.floor.result in
    let view = lent_view c.self.inside.memory c.args.self.now items floor c.self.view_is c.held.ensures
    c.floor.ensures in
    let at = c.later-at.result in
    let own : IsCached s floor (live_of items floor) =
    subst (λ v. IsCached s v.floor v.items) (sym view) cached in
    let same : floor ≡ c.args.self.now.floor = ap (λ (v : CacheData). v.floor) view in
    let moment : at ≡ max c.args.self.now.floor c.args.now = omega (arith, c.later-at.ensures, same)
    in
    let le : floor ≤ at = omega (arith, c.later-at.ensures) in
    let alike : answer_of items at n c.args.rtype ≡ answer_of s at n c.args.rtype =
    sets_answer_alike items s (live_of items floor) floor at n c.args.rtype le
    (held_cached items floor c.follow.ensures.own) own in
    subst (λ v. answer_data c.follow.result ≡ answer_of s v n c.args.rtype) moment
    (c.follow.ensures.answer n spells ∙ alike)
