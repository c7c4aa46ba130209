use Rattle.std.proofs.Common.{◌≡◌, true, false, refl}
use Rattle.fleet_pending.specs.Waiter.{SameAsker}
use Rattle.fleet_pending.proofs.Placed.{place_is, none_is, none_more}
use Rattle.fleet_pending.proofs.waiters.is_among.Goals as goal

pub returns-then-is_same_asker : goal.returns-then-is_same_asker
returns-then-is_same_asker g c =
    let p = place_is (λ v. SameAsker v c.args.waiter.now) c.args.waiters.now
    c.loop-other.other-index c.other-item.result c.loop-other-test.true c.other-item.is
    (c.if-is_same_asker.ensures.0 refl) in
    ((λ _. (c.loop-other.other-index, p)), λ _. refl)

pub loop-other-preserved : goal.loop-other-preserved
loop-other-preserved g c =
    none_more (λ v. SameAsker v c.args.waiter.now) c.args.waiters.now c.loop-other.other-index
    c.other-item.result c.loop-other-test.true c.other-item.is
    (λ p. let z : false ≡ true = c.if-is_same_asker.ensures.1 p in cc) c.loop-other.invariant

pub returns : goal.returns
returns g c =
    let n = none_is (λ v. SameAsker v c.args.waiter.now) c.args.waiters.now
    c.loop-other.other-index c.loop-other-test.false c.loop-other.invariant in
    ((λ t. absurd (let z : false ≡ true = t in cc)), λ w. absurd (n w.0 w.1.0 w.1.1 w.1.2))
