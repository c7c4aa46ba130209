use Rattle.fleet_site.proofs.ServerLists.{sends_more, to_each_more}
use Rattle.fleet_site.proofs.server.send_to_each.Goals as goal

pub loop-peer-preserved : goal.loop-peer-preserved
loop-peer-preserved g c =
    sends_more _ _ _ _ _ _ c.args.report.now c.loop-peer.report c.send.new.report
    (to_each_more c.args.frame.now c.args.peers.now c.loop-peer.peer-index _ c.loop-peer-test.true)
    c.loop-peer.invariant c.send.ensures
