use Rattle.fleet_site.specs.socket.Parts.{data_of}
use Rattle.fleet_site.proofs.Working.{worked_busy, not_so, received_after}
use Rattle.fleet_site.proofs.bursts.Bursts.recv.Goals as goal

pub returns-else-is_idle-clause-receives : goal.returns-else-is_idle-clause-receives
returns-else-is_idle-clause-receives g c =
    received_after _ (data_of (g.S.Socket.state c.args.self.now.socket) c.args.self.now) _ _ _ _ c.begin_turn.ensures
    (worked_busy _ _ _ _ _ (not_so _ _ c.if-is_idle.false c.is_idle.ensures.1) c.work.ensures.receives)

pub returns-then-is_idle-clause-receives : goal.returns-then-is_idle-clause-receives
returns-then-is_idle-clause-receives g c =
    received_after _ (data_of (g.S.Socket.state c.args.self.now.socket) c.args.self.now) _ _ _ _ c.begin_turn.ensures
    c.wait.ensures.receives
