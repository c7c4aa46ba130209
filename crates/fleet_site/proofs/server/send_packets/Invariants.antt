use Rattle.std.proofs.Common.{take}
use Rattle.fleet_site.specs.steps.Sends.{Sends}
use Rattle.fleet_site.proofs.server.send_packets.Given as goal

abbrev pub invariant-loop-packet : goal.invariant-loop-packet
invariant-loop-packet g l =
    Sends (g.P.Port.state l.fn.port) (g.P.Port.state l.port)
    (take l.packet-index l.packets) l.fn.report l.report
