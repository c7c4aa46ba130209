use Rattle.std.proofs.Common.{arith, refl}
use Rattle.std.proofs.lemmas.List.{with_items_is}
use Rattle.std.proofs.lemmas.Result.{err_from_is_err_and}
use Rattle.fleet_world.specs.declared.event.Event.TheVariants.{Merge}
use Rattle.fleet_world.proofs.Worlds as worlds
use Rattle.fleet_world.proofs.world.World.merge_at.Goals as goal

pub returns-clause-happens : goal.returns-clause-happens
returns-clause-happens g c m h =
    worlds.merges c.self.inside.sites.items c.self.inside.frames.items c.args.self.now m
    c.self.view_is h (Merge c.args.into c.args.from) c.args.into c.args.from
    c.in_ok-taken.taken c.deref_mut.result.now c.merge_at.new.sites _
    c.outcome_of.result c.new.result.items refl (c.requires.into, c.requires.from)
    c.deref_mut.ensures.value c.in_ok-taken.ensures
    (with_items_is c.self.inside.sites c.merge_at.new.sites
    (omega (arith, c.merge_at.auto.sites, c.deref_mut.ensures.len))) c.new.ensures.items
    c.outcome_of.ensures

pub returns-in_err-taken-clause-happens : goal.returns-in_err-taken-clause-happens
returns-in_err-taken-clause-happens g c m h =
    let r = c.from_residual in let p = err_from_is_err_and r.result r.ensures.1 in
    rw (p.1, p.2)
    (worlds.merges_none c.self.inside.sites.items c.self.inside.frames.items c.args.self.now m
    c.self.view_is h (Merge c.args.into c.args.from) c.args.into
    c.args.from c.deref_mut.result.now c.merge_at.new.sites _
    c.in_err-taken.field-0.0 refl c.deref_mut.ensures.value
    c.in_err-taken.ensures
    (with_items_is c.self.inside.sites c.merge_at.new.sites
    (omega (arith, c.merge_at.auto.sites, c.deref_mut.ensures.len))))
