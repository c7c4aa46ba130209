use Rattle.std.proofs.Common.{◌≡◌, length}
use Rattle.fleet_site.specs.socket.Bursts.{HasWorked}
use Rattle.fleet_site.specs.socket.Parts.{data_of}
use Rattle.fleet_site.proofs.bursts.Bursts.finish.Given as goal

abbrev pub invariant-loop-self : goal.invariant-loop-self
invariant-loop-self g l =
    HasWorked (data_of (g.S.Socket.state l.fn.self.socket) l.fn.self)
    (data_of (g.S.Socket.state l.self.socket) l.self)
    × (l.self.arrived ≡ l.fn.self.arrived) × (l.self.dropped ≡ l.fn.self.dropped)

abbrev pub decreases-loop-self : goal.decreases-loop-self
decreases-loop-self g l = length l.self.leaving.waiting
