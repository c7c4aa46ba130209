use Rattle.std.proofs.Common.{◌≡◌, true, false, refl}
use Rattle.fleet_pending.specs.PendingData.{AsksFor}
use Rattle.fleet_pending.proofs.Placed.{place_is, none_is, none_more}
use Rattle.fleet_pending.proofs.search.place_of_question.Goals as goal

pub returns-then-asks_for : goal.returns-then-asks_for
returns-then-asks_for g c =
    place_is (AsksFor c.args.question.now) c.args.entries.now c.loop-i.i
    c.index-entries-i.result c.loop-i-test.true c.index-entries-i.is
    (c.if-asks_for.ensures.0 refl)

pub loop-i-preserved : goal.loop-i-preserved
loop-i-preserved g c =
    none_more (λ e. AsksFor c.args.question.now e) c.args.entries.now c.loop-i.i
    c.index-entries-i.result c.loop-i-test.true c.index-entries-i.is
    (λ p. let z : false ≡ true = c.if-asks_for.ensures.1 p in cc) c.loop-i.invariant

pub returns : goal.returns
returns g c =
    none_is (AsksFor c.args.question.now) c.args.entries.now c.loop-i.i
    c.loop-i-test.false c.loop-i.invariant
