use Rattle.std.proofs.Common.{ap}
use Rattle.fleet_site.specs.server.Sending.{to_peers}
use Rattle.fleet_site.proofs.ServerLists.{carries}
use Rattle.fleet_site.proofs.server.carry_out.Goals as goal

pub returns-in-Ok-clause-carried : goal.returns-in-Ok-clause-carried
returns-in-Ok-clause-carried g c =
    rw (c.in-Ok.is, ← c.outcome.view_is) (carries _ _ _ c.args.peers.now (record {
      packets = c.outcome.inside.packets;
      frames = c.outcome.inside.frames;
      taken = c.outcome.inside.taken;
      refused = c.outcome.inside.refused;
      more = c.outcome.inside.more;
    }) _ _
    c.args.report.now c.count_refusal.new.report c.send_packets.new.report c.send_frames.new.report
    c.as_slice.ensures.value (ap (to_peers c.args.peers.now) c.as_slice-in-Ok.ensures.value)
    c.count_refusal.ensures c.send_packets.ensures c.send_frames.ensures)
