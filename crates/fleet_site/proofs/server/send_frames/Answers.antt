use Rattle.fleet_site.proofs.ServerLists.{sends_more, to_peers_more}
use Rattle.fleet_site.proofs.server.send_frames.Goals as goal

pub loop-frame-preserved : goal.loop-frame-preserved
loop-frame-preserved g c =
    sends_more _ _ _ _ _ _ c.args.report.now c.loop-frame.report c.send_to_each.new.report
    (to_peers_more c.args.peers.now c.args.frames.now c.loop-frame.frame-index c.frame-item.result
    c.loop-frame-test.true c.frame-item.is) c.loop-frame.invariant
    (rw c.as_slice.ensures at c.send_to_each.ensures)
