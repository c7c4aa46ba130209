use Rattle.std.proofs.Common.{ap, sym, ◌∷◌, [], ◌++◌, List, ℕ, take, ◌∙◌}
use Rattle.fleet_site.specs.PacketData.{PacketData}
use Rattle.fleet_site.proofs.ServerLists.{sends_more, packets_more}
use Rattle.fleet_site.proofs.server.send_packets.Goals as goal

pub loop-packet-preserved : goal.loop-packet-preserved
loop-packet-preserved g c =
    let e = packets_more c.args.packets.now c.loop-packet.packet-index c.packet-item.result
    c.loop-packet-test.true c.packet-item.is in
    sends_more _ _ _ _ _ _ c.args.report.now c.loop-packet.report c.send.new.report
    (e ∙ ap (λ (p : PacketData). take c.loop-packet.packet-index c.args.packets.now ++ p ∷ [])
    (sym c.packet.view_is) ∙ ap (λ (octets : List ℕ).
    take c.loop-packet.packet-index c.args.packets.now
    ++ record { to = c.packet.inside.to; octets = octets } ∷ []) (sym c.as_slice.ensures))
    c.loop-packet.invariant c.send.ensures
