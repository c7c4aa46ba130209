use Rattle.std.proofs.Math.Logic.{∥∥₁_map}
use Rattle.fleet_site.proofs.Flowing.{sent_noted}
use Rattle.fleet_site.proofs.burst_port.BurstPortPort.send.Goals as goal

pub invariant_of-self : goal.invariant_of-self
invariant_of-self g c = record {
  flows = ∥∥₁_map c.args.self.now.flows (sent_noted _ _ _ _ _ _ c.send-sent.ensures.sends c.note_send.ensures);
}
