use Rattle.std.proofs.Common.{ap}
use Rattle.fleet_site.specs.server.Sending.{to_peers}
use Rattle.fleet_site.proofs.ServerLists.{carries_frames}
use Rattle.fleet_site.proofs.server.carry_out_sweep.Goals as goal

pub returns-in-Ok : goal.returns-in-Ok
returns-in-Ok g c =
    rw c.in-Ok.is (carries_frames _ _ c.args.peers.now _ c.in-Ok.frames.items c.args.report.now
    c.send_frames.new.report (ap (to_peers c.args.peers.now) c.deref.ensures.value)
    c.send_frames.ensures)
