use Rattle.std.proofs.Common.{◌≡◌, ◌+◌, true, false, List, length, Option, Some, None, is_some, Bor, sym, ap, ◌∙◌, arith}
use mathlib.Core.Bool.{false≢true}
use Rattle.std.specs.Iterator.{YieldsFirstRef}
use Rattle.fleet_observe.specs.Observation.{ObservationData}
use Rattle.fleet_cache.proofs.cache.count.Goals as goal

-- where one comes, one less is left; else none is
one_less : (items new : List ObservationData) (o : Option (Bor ObservationData))
    → YieldsFirstRef (λ s. s) items o new → is_some o ≡ true → length items ≡ length new + 1
one_less items new None steps e = absurd (false≢true e)
one_less items new (Some x) steps e = let n = ap length steps in omega (arith, n)

none_left : (items new : List ObservationData) (o : Option (Bor ObservationData))
    → YieldsFirstRef (λ s. s) items o new → is_some o ≡ false → length items ≡ 0
none_left items new None steps e = ap length steps.0
none_left items new (Some x) steps e = absurd (false≢true (sym e))

pub loop-items-init : goal.loop-items-init
loop-items-init g c = omega arith

pub overflow_add-count : goal.overflow_add-count
overflow_add-count g c =
    let less = one_less c.loop-items.items c.next.new.self c.next.result c.next.ensures.steps
    (sym c.loop-items-test.ensures) in
    omega (arith, less, c.loop-items.invariant, c.requires)

pub loop-items-smaller : goal.loop-items-smaller
loop-items-smaller g c =
    let less = one_less c.loop-items.items c.next.new.self c.next.result c.next.ensures.steps
    (sym c.loop-items-test.ensures) in
    omega (arith, less)

pub loop-items-preserved : goal.loop-items-preserved
loop-items-preserved g c =
    let less = one_less c.loop-items.items c.next.new.self c.next.result c.next.ensures.steps
    (sym c.loop-items-test.ensures) in
    omega (arith, less, c.loop-items.invariant)

pub returns : goal.returns
returns g c =
    let none = none_left c.loop-items.items c.next.new.self c.next.result c.next.ensures.steps
    (sym c.is_some.ensures ∙ c.loop-items-test.false) in
    omega (arith, none, c.loop-items.invariant)
