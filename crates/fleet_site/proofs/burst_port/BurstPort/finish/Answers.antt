use Rattle.std.proofs.Common.{ap}
use Rattle.std.proofs.Math.Logic.{∥∥₁_map}
use Rattle.fleet_site.specs.socket.Inbox.{waiting_messages, waiting_frames}
use Rattle.fleet_site.proofs.Flowing.{finished_noted}
use Rattle.fleet_site.proofs.burst_port.BurstPort.finish.Goals as goal

pub invariant_of-self : goal.invariant_of-self
invariant_of-self g c = record {
  flows = ∥∥₁_map c.args.self.now.flows (finished_noted _ _ _ c.finish.ensures.worked c.finish.ensures.sent
      (ap waiting_messages c.finish.ensures.arrived) (ap waiting_frames c.finish.ensures.arrived)
      c.finish.ensures.dropped);
}
