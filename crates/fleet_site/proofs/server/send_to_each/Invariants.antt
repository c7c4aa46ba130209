use Rattle.std.proofs.Common.{take}
use Rattle.fleet_site.specs.server.Sending.{to_each}
use Rattle.fleet_site.specs.steps.Sends.{Sends}
use Rattle.fleet_site.proofs.server.send_to_each.Given as goal

abbrev pub invariant-loop-peer : goal.invariant-loop-peer
invariant-loop-peer g l =
    Sends (g.P.Port.state l.fn.port) (g.P.Port.state l.port)
    (to_each l.frame (take l.peer-index l.peers)) l.fn.report l.report
