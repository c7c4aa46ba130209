use Rattle.fleet_world.proofs.Worlds.{missing_follows}
use Rattle.fleet_world.proofs.world.World.step.Goals as goal

-- something is not there, and nothing happens
pub returns-in-Err-clause-follows : goal.returns-in-Err-clause-follows
returns-in-Err-clause-follows g c m h =
    missing_follows c.args.self.now m c.args.event.now c.in-Err.fault h c.in-Err.ensures.missing
