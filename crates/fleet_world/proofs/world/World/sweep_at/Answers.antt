use Rattle.std.proofs.Common.{refl}
use Rattle.std.proofs.lemmas.Result.{err_from_is_err_and}
use Rattle.fleet_world.specs.declared.event.Event.TheVariants.{Sweep}
use Rattle.fleet_world.proofs.Worlds as worlds
use Rattle.fleet_world.proofs.world.World.sweep_at.Goals as goal

pub returns : goal.returns
returns g c = record {
  happens = λ m h.
      worlds.sweeps c.self.inside.sites.items c.self.inside.frames.items c.args.self.now m
      c.self.view_is h (Sweep c.args.site) c.args.site c.index.result.now
      c.outcome_of.result c.in_ok-swept.swept.items refl c.requires
      c.index.ensures c.in_ok-swept.ensures.sweeps c.outcome_of.ensures;
}

pub returns-in_err-swept : goal.returns-in_err-swept
returns-in_err-swept g c = record {
  happens = λ m h.
      let p = err_from_is_err_and c.from_residual.result c.from_residual.ensures.1 in
      rw (p.1, p.2)
      (worlds.sweeps_none c.self.inside.sites.items c.self.inside.frames.items c.args.self.now m
      c.self.view_is h (Sweep c.args.site) c.args.site c.index.result.now refl c.requires c.index.ensures
      c.in_err-swept.ensures.memory);
}
