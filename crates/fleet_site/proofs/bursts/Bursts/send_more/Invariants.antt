use Rattle.std.proofs.Common.{◌≡◌}
use Rattle.fleet_site.specs.socket.Bursts.{SentSome}
use Rattle.fleet_site.specs.socket.Parts.{data_of}
use Rattle.fleet_site.proofs.bursts.Bursts.send_more.Given as goal

abbrev pub invariant-loop : goal.invariant-loop
invariant-loop g l =
    SentSome (data_of (g.S.Socket.state l.fn.self.socket) l.fn.self)
    (data_of (g.S.Socket.state l.self.socket) l.self)
    × (l.self.failed ≡ l.fn.self.failed)
