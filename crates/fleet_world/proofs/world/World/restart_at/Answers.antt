use Rattle.std.proofs.Common.{refl}
use Rattle.fleet_world.specs.declared.event.Event.TheVariants.{Restart}
use Rattle.fleet_world.proofs.Worlds as worlds
use Rattle.fleet_world.proofs.world.World.restart_at.Goals as goal

pub returns-clause-happens : goal.returns-clause-happens
returns-clause-happens g c m h =
    worlds.restarts c.self.inside.sites.items c.self.inside.frames.items c.args.self.now m
    c.self.view_is h (Restart c.args.site) c.args.site
    c.index_mut.result.now c.restart.new.self c.outcome_of.result
    c.new.result.items refl c.requires
    c.index_mut.ensures.value c.restart.ensures.opens c.new.ensures.items
    c.outcome_of.ensures
