use Rattle.std.proofs.Common.{◌∙◌}
use Rattle.fleet_world.proofs.Worlds as worlds
use Rattle.fleet_world.proofs.world.World.perform.Goals as goal

pub returns-in-Ok-keep_frames-clause-follows : goal.returns-in-Ok-keep_frames-clause-follows
returns-in-Ok-keep_frames-clause-follows g c m h =
    worlds.done_follows m c.args.event.now _ c.in-Ok.outcome c.at_site.new.self
    c.keep_frames.new.self c.in-Ok-keep_frames.kept c.outcome.view_is
    (c.at_site.ensures.frames ∙ h.frames) (c.in-Ok.ensures.happens m h) c.keep_frames.ensures.sites
    c.in-Ok-keep_frames.ensures.kept c.in-Ok-keep_frames.ensures.numbered

pub returns-in-Err-keep_frames-clause-follows : goal.returns-in-Err-keep_frames-clause-follows
returns-in-Err-keep_frames-clause-follows g c m h =
    worlds.lost_follows m c.args.event.now _ c.in-Ok.outcome c.at_site.new.self
    c.keep_frames.new.self c.new-in-Ok.result c.outcome.view_is
    (c.new-in-Ok.ensures ∙ c.new.ensures.items) (c.at_site.ensures.frames ∙ h.frames)
    (c.in-Ok.ensures.happens m h) c.keep_frames.ensures.sites
    c.in-Err-keep_frames.ensures.lost c.in-Err-keep_frames.ensures.some

pub returns-in-Err-clause-follows : goal.returns-in-Err-clause-follows
returns-in-Err-clause-follows g c m h =
    worlds.stopped_follows m c.args.event.now c.in-Err.fault c.fault_of.result c.at_site.new.self
    c.fault_of.ensures (c.at_site.ensures.frames ∙ h.frames) (c.in-Err.ensures.happens m h)
