use Rattle.std.proofs.Common.{arith}
use Rattle.fleet_gossip.proofs.PackSteps.{frame_at_least, fits_more}
use Rattle.fleet_gossip.proofs.frame.frame_size.Goals as goal

pub returns-then-size-gt-LONGEST_FRAME : goal.returns-then-size-gt-LONGEST_FRAME
returns-then-size-gt-LONGEST_FRAME g c =
    let size = c.entry_size-size.ensures in
    omega (
      arith,
      frame_at_least _ _ _ c.loop-observation-test.true c.observation-item.is,
      c.loop-observation.invariant.counted,
      size.value,
    )

pub loop-observation-preserved : goal.loop-observation-preserved
loop-observation-preserved g c =
    let size = c.entry_size-size.ensures in
    rw size.value (fits_more _ _ _ c.loop-observation-test.true c.observation-item.is _
    c.loop-observation.invariant size.lawful (omega (arith, size.value)))
