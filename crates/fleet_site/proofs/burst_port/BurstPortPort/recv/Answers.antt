use Rattle.std.proofs.Math.Logic.{∥∥₁_map}
use Rattle.fleet_site.proofs.Flowing.{received_at}
use Rattle.fleet_site.proofs.burst_port.BurstPortPort.recv.Goals as goal

pub invariant_of-self : goal.invariant_of-self
invariant_of-self g c = record {
  flows = ∥∥₁_map c.args.self.now.flows (received_at _ _ _ _ _ _ _ _ c.recv-got.auto.buffer
      c.recv-got.ensures.receives c.note_receive.ensures);
}
