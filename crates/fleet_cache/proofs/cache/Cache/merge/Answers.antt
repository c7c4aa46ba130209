use Rattle.std.proofs.Common.{◌≡◌, ◌++◌, ◌∷◌, [], max, sym, ap, refl, ◌∙◌, subst, arith, append_assoc, append-nil, length-append}
use Rattle.fleet_cache.specs.Cached.{CacheData, IsCached, IsNeedless}
use Rattle.fleet_cache.proofs.Caches.{taken_none, taken_more, taken_is, taken_within, seam_at, at_ok, at_err, cached_both}
use Rattle.fleet_cache.proofs.cache.Cache.merge.Goals as goal

pub loop-item-init : goal.loop-item-init
loop-item-init g c = ([], sym c.items-items.ensures.items, refl, taken_none c.args.self.now)

pub returns-then-is_err-clause-stopped : goal.returns-then-is_err-clause-stopped
returns-then-is_err-clause-stopped g c s cached =
    let i = c.loop-item.invariant in
    let same : c.take_copy.new.self ≡ c.loop-item.self =
    at_err c.take_copy.result c.if-is_err.ensures.value c.take_copy.ensures.err in
    subst (λ v. IsCached (v ++ s) c.take_copy.new.self.floor c.take_copy.new.self.items)
    (sym (taken_is i.0 _ c.args.other.now.items c.loop-item.taken i.1 i.2))
    (subst (λ v. IsCached (i.0 ++ s) v.floor v.items) (sym same) (i.3.cached s cached))

pub returns-then-is_err-clause-within : goal.returns-then-is_err-clause-within
returns-then-is_err-clause-within g c =
    let i = c.loop-item.invariant in
    taken_within i.0 _ c.args.other.now.items c.in-Some.item.now c.loop-item.taken
    (i.1 ∙ ap (λ v. i.0 ++ v) c.in-Some.ensures.steps) i.2

pub returns-then-is_err-clause-memory : goal.returns-then-is_err-clause-memory
returns-then-is_err-clause-memory g c =
    let i = c.loop-item.invariant in
    let o = c.in-Some.item.now in
    let same : c.take_copy.new.self ≡ c.loop-item.self =
    at_err c.take_copy.result c.if-is_err.ensures.value c.take_copy.ensures.err in (
      o,
      seam_at i.0 _ c.args.other.now.items o c.loop-item.taken
          (i.1 ∙ ap (λ v. i.0 ++ v) c.in-Some.ensures.steps) i.2,
      subst (λ (v : CacheData). ¬ IsNeedless v.floor v.items o) (sym same)
          (at_err c.take_copy.result c.if-is_err.ensures.value c.take_copy.ensures.memory),
    )

pub returns-then-is_err-clause-floor_stopped : goal.returns-then-is_err-clause-floor_stopped
returns-then-is_err-clause-floor_stopped g c = c.take_copy.ensures.floor
    ∙ c.loop-item.invariant.3.floor

pub overflow_add-taken : goal.overflow_add-taken
overflow_add-taken g c =
    let i = c.loop-item.invariant in
    let less = taken_within i.0 _ c.args.other.now.items c.in-Some.item.now c.loop-item.taken
    (i.1 ∙ ap (λ v. i.0 ++ v) c.in-Some.ensures.steps) i.2 in
    omega (arith, less, c.items-items.ensures.countable)

pub loop-item-preserved : goal.loop-item-preserved
loop-item-preserved g c =
    let i = c.loop-item.invariant in
    let o = c.in-Some.item.now in (
      i.0 ++ o ∷ [],
      i.1 ∙ (ap (λ v. i.0 ++ v) c.in-Some.ensures.steps ∙ sym (append_assoc i.0 (o ∷ []) _)),
      omega (arith, i.2, length-append i.0 (o ∷ [])),
      taken_more c.args.self.now c.loop-item.self c.take_copy.new.self i.0 o i.3
          (λ s cached. at_ok c.take_copy.result c.if-is_err.ensures.negation
          (c.take_copy.ensures.taken s cached)) c.take_copy.ensures.floor,
    )

pub returns-clause-both : goal.returns-clause-both
returns-clause-both g c s u cached from =
    let i = c.loop-item.invariant in
    let other = c.args.other.now in
    let all : other.items ≡ i.0 = i.1 ∙ (ap (λ v. i.0 ++ v) c.in_default.ensures.steps.0
    ∙ append-nil i.0) in
    let floor = c.purge.ensures.floor in
    let same : c.floor.result ≡ other.floor = c.floor.ensures in
    cached_both s u other.items c.purge.new.self.items c.purge.new.self.floor other.floor
    (omega (arith, floor, same)) from (subst
    (λ v. IsCached (v ++ s) c.purge.new.self.floor c.purge.new.self.items) (sym all)
    (c.purge.ensures.purged (i.0 ++ s) (i.3.cached s cached)))

pub returns-clause-floor : goal.returns-clause-floor
returns-clause-floor g c =
    c.purge.ensures.floor ∙ (ap (λ v. max v c.floor.result) c.loop-item.invariant.3.floor
    ∙ ap (max c.args.self.now.floor) c.floor.ensures)
