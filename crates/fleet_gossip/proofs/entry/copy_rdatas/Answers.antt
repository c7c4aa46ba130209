use Rattle.std.proofs.Common.{arith, length-append, ap}
use Rattle.std.proofs.Common.{◌∷◌, [], length}
use Rattle.fleet_gossip.proofs.Making.{next_uncut, next_of, body_next}
use Rattle.fleet_gossip.proofs.entry.copy_rdatas.Goals as goal

pub unreachable-requires-in_default-read_sized : goal.unreachable-requires-in_default-read_sized
unreachable-requires-in_default-read_sized g c =
    let i = c.loop.invariant in
    next_uncut i.left _ i.whole (omega (arith, i.all, c.loop-test.true)) _
    c.in_default-read_sized.ensures

pub loop-preserved : goal.loop-preserved
loop-preserved g c =
    let i = c.loop.invariant in
    let next = next_of i.left _ _ _ i.whole (omega (arith, i.all, c.loop-test.true))
    c.in-Ok-read_sized.ensures in
    record {
      left = next.behind;
      whole = next.rest_is;
      body = body_next _ _ _ i.left _ _ _ next i.body c.in_ok-copy_of.ensures
          c.in_ok-push.ensures.items;
      counted = omega (
        arith,
        i.counted,
        ap length c.in_ok-push.ensures.items,
        length-append c.loop.rdatas.items (c.in_ok-copy_of.field-0 ∷ []),
      );
      all = omega (arith, i.all, ap length next.left_is);
    }
