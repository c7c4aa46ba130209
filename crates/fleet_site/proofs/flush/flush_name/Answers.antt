use Rattle.std.proofs.Common.{◌≡◌, [], ◌∷◌, ◌++◌, sym, ap, subst, ◌∙◌, rules}
use Rattle.fleet_observe.specs.Observation.{flush_at}
use Rattle.fleet_gossip.specs.Packed.{IsPacked}
use Rattle.fleet_site.specs.OutcomeData.{nothing}
use Rattle.fleet_site.proofs.FlushName.{carries_flush, stops_flush}
use Rattle.fleet_site.proofs.flush.flush_name.Goals as goal

pub returns-in-Ok-clause-flushed : goal.returns-in-Ok-clause-flushed
returns-in-Ok-clause-flushed g c = λ o s cached.
    let list = c.push_reserved.new.self.items in
    let frames = c.new-frames.result in
    let is : list ≡ flush_at c.args.name.now c.args.now ∷ [] =
    c.push_reserved.ensures.items ∙ ap (λ xs. xs ++ c.flush.result ∷ [])
    c.in_ok-observed.ensures.items
    ∙ ap (λ x. x ∷ []) (c.flush.ensures ∙ ap (λ n. flush_at n c.args.now) c.in_ok-name.ensures) in
    let packed : IsPacked list frames =
    subst (λ xs. IsPacked xs frames) c.deref.ensures.value
    (subst (IsPacked c.deref.result.now) (sym c.new-frames.ensures) c.in_ok-pack.ensures.packed) in
    let none : c.new-in-Ok.result ≡ [] = search rules in
    carries_flush o c.args.name.now c.args.now s list frames is packed c.take_list.new.self
    _
    (ap (λ ps. record nothing { packets = ps; frames = frames; taken = 1 }) none)
    (c.in-Ok.ensures.taken s cached)

pub returns-in-Err-clause-flushed : goal.returns-in-Err-clause-flushed
returns-in-Err-clause-flushed g c = λ o s cached.
    let list = c.push_reserved.new.self.items in
    let frames = c.new-frames.result in
    let is : list ≡ flush_at c.args.name.now c.args.now ∷ [] =
    c.push_reserved.ensures.items ∙ ap (λ xs. xs ++ c.flush.result ∷ [])
    c.in_ok-observed.ensures.items
    ∙ ap (λ x. x ∷ []) (c.flush.ensures ∙ ap (λ n. flush_at n c.args.now) c.in_ok-name.ensures) in
    let packed : IsPacked list frames =
    subst (λ xs. IsPacked xs frames) c.deref.ensures.value
    (subst (IsPacked c.deref.result.now) (sym c.new-frames.ensures) c.in_ok-pack.ensures.packed) in
    stops_flush o c.args.name.now c.args.now s list frames is packed c.take_list.new.self
    c.in-Err.stopped.taken c.in-Err.ensures.within (c.in-Err.ensures.stopped s cached)
