use Rattle.std.proofs.Common.{Ok, refl, subst, sym}
use Rattle.fleet_site.specs.Step.{datagram, tick, frame, learn, flush}
use Rattle.fleet_world.specs.steps.Happens.{Happens}
use Rattle.fleet_world.specs.declared.event.Event.TheVariants.{Datagram, Tick, Frame, Deliver, Learn, Flush}
use Rattle.fleet_world.proofs.Worlds as worlds
use Rattle.fleet_world.proofs.world.World.at_site.Goals as goal

pub returns-in-Datagram-clause-happens : goal.returns-in-Datagram-clause-happens
returns-in-Datagram-clause-happens g c m h =
    worlds.calls c.self.inside.sites.items c.self.inside.frames.items c.args.self.now m
    c.self.view_is h c.args.event.now (Datagram c.in-Datagram.site c.in-Datagram.now
    c.in-Datagram.from c.in-Datagram.word c.in-Datagram.bytes)
    (datagram c.in-Datagram.now c.in-Datagram.from c.as_slice.result.now c.in-Datagram.word)
    c.index_mut.result.now c.datagram.new.self c.datagram.result (λ a b k. (
      b,
      rw (sym
          c.as_slice.ensures) k,
      refl,
    )) c.in-Datagram.is (λ l. l)
    c.requires.sites c.index_mut.ensures.value c.datagram.ensures.follows

pub returns-in-Tick-clause-happens : goal.returns-in-Tick-clause-happens
returns-in-Tick-clause-happens g c m h =
    worlds.calls c.self-in-Tick.inside.sites.items c.self-in-Tick.inside.frames.items c.args.self.now m
    c.self-in-Tick.view_is h c.args.event.now (Tick c.in-Tick.site c.in-Tick.now)
    (tick c.in-Tick.now) c.index_mut-in-Tick.result.now c.tick.new.self c.tick.result (λ a b k. (
      b,
      k,
      refl,
    )) c.in-Tick.is (λ l. l)
    c.requires.sites c.index_mut-in-Tick.ensures.value c.tick.ensures.follows

pub returns-in-Frame-clause-happens : goal.returns-in-Frame-clause-happens
returns-in-Frame-clause-happens g c m h =
    worlds.calls c.self-in-Frame.inside.sites.items c.self-in-Frame.inside.frames.items c.args.self.now m
    c.self-in-Frame.view_is h c.args.event.now (Frame c.in-Frame.site c.in-Frame.now c.in-Frame.bytes)
    (frame c.in-Frame.now c.as_slice-in-Frame.result.now) c.index_mut-in-Frame.result.now
    c.frame.new.self c.frame.result (λ a b k. (b, rw (sym c.as_slice-in-Frame.ensures) k, refl))
    c.in-Frame.is (λ l. l)
    c.requires.sites c.index_mut-in-Frame.ensures.value c.frame.ensures.follows

pub returns-in-Learn-clause-happens : goal.returns-in-Learn-clause-happens
returns-in-Learn-clause-happens g c m h =
    worlds.calls c.self-in-Learn.inside.sites.items c.self-in-Learn.inside.frames.items c.args.self.now m
    c.self-in-Learn.view_is h c.args.event.now (Learn c.in-Learn.site c.in-Learn.now c.in-Learn.bytes)
    (learn c.in-Learn.now c.as_slice-in-Learn.result.now) c.index_mut-in-Learn.result.now
    c.learn.new.self c.learn.result (λ a b k. (b, rw (sym c.as_slice-in-Learn.ensures) k, refl))
    c.in-Learn.is (λ l. l)
    c.requires.sites c.index_mut-in-Learn.ensures.value c.learn.ensures.follows

pub returns-in-Flush-clause-happens : goal.returns-in-Flush-clause-happens
returns-in-Flush-clause-happens g c m h =
    worlds.calls c.self-in-Flush.inside.sites.items c.self-in-Flush.inside.frames.items c.args.self.now m
    c.self-in-Flush.view_is h c.args.event.now (Flush c.in-Flush.site c.in-Flush.now c.in-Flush.name)
    (flush c.in-Flush.now c.in-Flush.name) c.index_mut-in-Flush.result.now c.flush.new.self
    c.flush.result (λ a b k. (b, k, refl)) c.in-Flush.is (λ l. l)
    c.requires.sites c.index_mut-in-Flush.ensures.value c.flush.ensures.follows

pub returns-in-Deliver-clause-happens : goal.returns-in-Deliver-clause-happens
returns-in-Deliver-clause-happens g c m h =
    worlds.calls c.self-in-Deliver.inside.sites.items c.self-in-Deliver.inside.frames.items c.args.self.now m
    c.self-in-Deliver.view_is h c.args.event.now (Deliver c.in-Deliver.site c.in-Deliver.now
    c.in-Deliver.frame)
    (frame c.in-Deliver.now c.as_slice-in-Deliver.result.now) c.index_mut-in-Deliver.result.now
    c.frame-in-Deliver.new.self c.frame-in-Deliver.result
    (worlds.delivers c.self-in-Deliver.inside.sites.items c.self-in-Deliver.inside.frames.items c.args.self.now m
    c.self-in-Deliver.view_is h c.args.event.now c.in-Deliver.site c.in-Deliver.now c.in-Deliver.frame
    c.as_slice-in-Deliver.result.now c.index.result.now c.frame-in-Deliver.result
    c.in-Deliver.is c.requires.frame c.as_slice-in-Deliver.ensures c.index.ensures)
    c.in-Deliver.is (λ l. l)
    c.requires.sites c.index_mut-in-Deliver.ensures.value c.frame-in-Deliver.ensures.follows

pub returns-in-Sweep-clause-happens : goal.returns-in-Sweep-clause-happens
returns-in-Sweep-clause-happens g c m h =
    subst (λ e. Happens m e c.sweep_at.result c.args.self.now.sites) (sym c.in-Sweep.is)
    (c.sweep_at.ensures.happens m h)

pub returns-in-Merge-clause-happens : goal.returns-in-Merge-clause-happens
returns-in-Merge-clause-happens g c m h =
    subst (λ e. Happens m e c.merge_at.result c.merge_at.new.self.sites) (sym c.in-Merge.is)
    (c.merge_at.ensures.happens m h)

pub returns-in-Restart-clause-happens : goal.returns-in-Restart-clause-happens
returns-in-Restart-clause-happens g c m h =
    subst (λ e. Happens m e (Ok c.restart_at.result) c.restart_at.new.self.sites) (sym c.in-Restart.is)
    (c.restart_at.ensures.happens m h)
