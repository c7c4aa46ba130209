use Rattle.std.proofs.Common.{◌≡◌, [], length, refl, sym, ap, ◌∙◌, subst, arith}
use Rattle.std.specs.Vec.Iter.{into_iter_items}
use Rattle.std.proofs.lemmas.List.{nil_from_length}
use Rattle.fleet_cache.proofs.Lemmas.{taken_none, at_ok, at_err}
use Rattle.fleet_gossip.specs.steps.Taking.{AreMade}
use Rattle.fleet_gossip.proofs.Taking.{IsUnderway, stops_there, goes_on, all_taken}
use Rattle.fleet_gossip.proofs.take.take_made.Goals as goal

pub loop-place-init : goal.loop-place-init
loop-place-init g c =
    let gives = c.into_iter-place-iterator.ensures.into_iter_gives in (
      λ list are. record {
        done = [];
        back = list;
        whole = refl;
        taken = taken_none c.args.cache.now;
        left = subst (AreMade c.args.cache.now 0 list) (sym gives.0) are;
      },
      (let whole = ap length gives.0 in let count = gives.1
          in omega (arith, whole, count, c.args.made.ok)),
      refl,
    )

pub returns-then-is_err-clause-taken : goal.returns-then-is_err-clause-taken
returns-then-is_err-clause-taken g c = λ list are.
    let i = c.loop-place.invariant in
    let same : c.take.new.self ≡ c.loop-place.cache =
    at_err c.take.result c.if-is_err.ensures.value c.take.ensures.err in
    let needed = at_err c.take.result c.if-is_err.ensures.value c.take.ensures.memory in
    stops_there c.args.cache.now c.loop-place.cache list (c.in-Some.place, c.in-Some.observation)
    (into_iter_items c.next.new.self) (subst (IsUnderway c.args.cache.now c.loop-place.cache list)
    c.in-Some.ensures.steps.0 (i.0 list are)) c.take.new.self same needed

pub loop-place-preserved : goal.loop-place-preserved
loop-place-preserved g c =
    let i = c.loop-place.invariant in (
      λ list are. goes_on c.args.cache.now c.loop-place.cache list
          (c.in-Some.place, c.in-Some.observation) (into_iter_items c.next.new.self)
          (subst (IsUnderway c.args.cache.now c.loop-place.cache list)
          c.in-Some.ensures.steps.0 (i.0 list are)) c.take.new.self
          (λ s cached. at_ok c.take.result c.if-is_err.ensures.negation
          (c.take.ensures.taken s cached)) c.take.ensures.floor,
      (let whole = ap length c.in-Some.ensures.steps.0 in let count = c.in-Some.ensures.steps.1
          in omega (arith, i.1, whole, count)),
      c.take.ensures.floor ∙ i.2,
    )

pub returns-clause-taken : goal.returns-clause-taken
returns-clause-taken g c = λ list are.
    let i = c.loop-place.invariant in
    let none : into_iter_items c.loop-place.place-iterator ≡ [] =
    nil_from_length (into_iter_items c.loop-place.place-iterator)
    (omega (arith, i.1, c.in-None.ensures.steps.0)) in
    all_taken c.args.cache.now c.loop-place.cache list
    (subst (IsUnderway c.args.cache.now c.loop-place.cache list) none (i.0 list are))
