use Rattle.std.proofs.Common.{ap}
use Rattle.std.proofs.Math.Logic.{∥∥₁_map}
use Rattle.fleet_site.proofs.Flowing.{whole_run, served_over}
use Rattle.fleet_site.proofs.bursting.serve_socket.Goals as goal

pub returns-clause-whole : goal.returns-clause-whole
returns-clause-whole g c e =
    ∥∥₁_map c.finish.new.self.flows (whole_run _ _ _ _ _ _ _ _ _ e
    (served_over _ _ _ _ _ _ _ _ _ (ap g.L.CallLog.noted c.finish.ensures.log) c.serve-report.ensures.run))
