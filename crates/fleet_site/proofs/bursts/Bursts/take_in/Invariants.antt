use Rattle.std.proofs.Common.{◌≡◌, false, length, Ok}
use Rattle.fleet_site.specs.socket.Bursts.{TookAll}
use Rattle.fleet_site.specs.socket.Parts.{data_of}
use Rattle.fleet_site.proofs.bursts.Bursts.take_in.Given as goal

abbrev pub invariant-loop : goal.invariant-loop
invariant-loop g l =
    TookAll (length l.fn.buffer) (data_of (g.S.Socket.state l.fn.self.socket) l.fn.self) (Ok l.has_looked)
    (data_of (g.S.Socket.state l.self.socket) l.self)
    × (l.self.failed ≡ l.fn.self.failed) × ((g.S.Socket.state l.self.socket).waits ≡ false)
