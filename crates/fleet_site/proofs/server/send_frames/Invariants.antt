use Rattle.std.proofs.Common.{take}
use Rattle.fleet_site.specs.server.Sending.{to_peers}
use Rattle.fleet_site.specs.steps.Sends.{Sends}
use Rattle.fleet_site.proofs.server.send_frames.Given as goal

abbrev pub invariant-loop-frame : goal.invariant-loop-frame
invariant-loop-frame g l =
    Sends (g.P.Port.state l.fn.port) (g.P.Port.state l.port)
    (to_peers l.peers (take l.frame-index l.frames)) l.fn.report l.report
