use Rattle.std.proofs.Common.{◌≡◌, ◌<◌, length}
use Rattle.fleet_site.specs.socket.Parts.{data_of}
use Rattle.fleet_site.proofs.Busy.{Working}
use Rattle.fleet_site.proofs.bursts.Bursts.work.Given as goal

abbrev pub invariant-loop : goal.invariant-loop
invariant-loop g l =
    Working (length l.fn.buffer) (data_of (g.S.Socket.state l.fn.self.socket) l.fn.self)
    (data_of (g.S.Socket.state l.self.socket) l.self) l.counter
    × (l.self.failed ≡ l.fn.self.failed)
    × (0 < l.counter → length l.self.leaving.waiting < length l.fn.self.leaving.waiting)
