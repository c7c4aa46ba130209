use Rattle.std.proofs.Common.{refl, arith}
use Rattle.fleet_gossip.specs.Frame.{frame_octets}
use Rattle.fleet_gossip.specs.declared.frame.TheConstants.{VERSION}
use Rattle.fleet_gossip.proofs.Frames.{are_written}
use Rattle.fleet_gossip.proofs.Packing.{frame_length}
use Rattle.fleet_gossip.proofs.PackSteps.{count_le, written_more, all_written}
use Rattle.fleet_gossip.proofs.frame.encode.Goals as goal

pub overflow_cast-observations : goal.overflow_cast-observations
overflow_cast-observations g c =
    let fits = c.in-Some.ensures in let list = c.args.observations.now
    in omega (arith, fits.counted, fits.fits, count_le list, frame_length list)

pub loop-observation-preserved : goal.loop-observation-preserved
loop-observation-preserved g c = written_more _ _ _ c.loop-observation-test.true
    c.observation-item.is _ _ _ c.loop-observation.invariant c.in_ok-push_entry.ensures

pub returns-clause-spelled : goal.returns-clause-spelled
returns-clause-spelled g c =
    let fits = c.in-Some.ensures in
    let whole = all_written c.args.observations.now c.loop-observation.observation-index
    c.loop-observation.frame.items (frame_octets VERSION c.args.observations.now)
    c.loop-observation.invariant (omega arith) in (
      record {
        version = VERSION;
        read = (omega arith, omega arith);
        lawful = are_written c.args.observations.now fits.lawful;
        spelled = whole;
        fits = rw whole (omega (arith, fits.counted, fits.fits));
      },
      refl,
    )
