use Rattle.std.proofs.Common.{◌∷◌, [], length, ap, arith, length-append}
use Rattle.fleet_gossip.specs.Entry.{IsIn}
use Rattle.fleet_gossip.proofs.Frames.{all_pushed}
use Rattle.fleet_gossip.proofs.FrameSteps.{next_fails, next_of, next_lawful, entries_next, all_made}
use Rattle.fleet_gossip.proofs.frame.to_observations.Goals as goal

pub unreachable-requires : goal.unreachable-requires
unreachable-requires g c =
    let i = c.loop.invariant in
    next_fails _ i.left _ _ i.lawful_left i.whole (omega (arith, i.all, c.loop-test.true))
    c.in_default.ensures

pub loop-preserved : goal.loop-preserved
loop-preserved g c =
    let i = c.loop.invariant in let read = c.in-Ok.ensures in
    let next = next_of _ i.left _ read.0 _ i.lawful_left i.whole
    (omega (arith, i.all, c.loop-test.true)) read.1.lawful read.3 in
    let made = c.in_ok-to_observation.ensures read.0 read.1 in
    record {
      left = next.others;
      lawful = rw (c.in_ok-push.ensures.items, made)
          (all_pushed (IsIn c.args.entries.now.version) c.loop.observations.items read.0 i.lawful
          (read.1.lawful, read.2));
      lawful_left = next_lawful _ i.left read.0 next.others next.left_is i.lawful_left;
      whole = next.rest_is;
      octets = entries_next _ _ _ i.left read.0 _ next.others next.left_is i.octets made
          c.in_ok-push.ensures.items;
      counted = omega (
        arith,
        i.counted,
        ap length c.in_ok-push.ensures.items,
        length-append c.loop.observations.items (c.in_ok-to_observation.field-0 ∷ []),
      );
      all = omega (arith, i.all, ap length next.left_is);
    }

pub returns-clause-found : goal.returns-clause-found
returns-clause-found g c =
    let i = c.loop.invariant in
    all_made _ _ _ c.loop.counter _ i.left i.lawful i.octets i.counted i.all c.loop-test.false
