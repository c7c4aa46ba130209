use Rattle.std.proofs.Common.{◌≤◌, length, ap, arith}
use Rattle.fleet_gossip.proofs.Passing.{all_left, counted, next_uncut, next_passed, rest_within, positive_passed}
use Rattle.fleet_gossip.proofs.known.known_positive_size.Goals as goal

pub loop-init : goal.loop-init
loop-init c = λ rtype size found.
    let read = rw c.new-reader.ensures at c.in-Ok.ensures in (
      found.is.lawful.rdatas,
      all_left _ _ size _ _ found read,
      omega (arith, counted _ _ size _ _ found read),
    )

pub unreachable-requires-in_default-read_sized : goal.unreachable-requires-in_default-read_sized
unreachable-requires-in_default-read_sized c =
    let r = c.requires in
    let i = c.loop.invariant r.0 r.1 r.2 in
    next_uncut i.0 _ _ i.1 (omega (arith, i.2, c.loop-test.true)) _
    c.in_default-read_sized.ensures

pub loop-preserved : goal.loop-preserved
loop-preserved c = λ rtype size found.
    let i = c.loop.invariant rtype size found in
    let next = next_passed i.0 _ _ _ _ i.1 (omega (arith, i.2, c.loop-test.true))
    c.in-Ok-read_sized.ensures in
    (next.others, next.are, omega (arith, i.2, next.fewer))

pub overflow_sub-result : goal.overflow_sub-result
overflow_sub-result c =
    let r = c.requires in
    let i = c.loop.invariant r.0 r.1 r.2 in
    let none : length i.0 ≤ 0 = omega (arith, i.2, c.loop-test.false) in
    let within = rest_within _ _ r.1 r.2 i.0 _ i.1 none in
    let same = ap length c.rest.ensures in
    omega (arith, within, same)

pub returns : goal.returns
returns c rtype size found =
    let i = c.loop.invariant rtype size found in
    let none : length i.0 ≤ 0 = omega (arith, i.2, c.loop-test.false) in
    let within = rest_within _ _ size found i.0 _ i.1 none in
    let same = ap length c.rest.ensures in
    positive_passed _ _ size found i.0 _ i.1 none _ (omega (arith, within, same))
