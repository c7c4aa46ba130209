use Rattle.std.proofs.Common.{◌∙◌, ap}
use Rattle.fleet_site.specs.server.PortRecord.{failures_after}
use Rattle.fleet_site.proofs.Busy.{clock_sends}
use Rattle.fleet_site.proofs.bursts.Bursts.send_waiting.Goals as goal

pub returns-clause-sent : goal.returns-clause-sent
returns-clause-sent g c =
    clock_sends _ _ _ c.read_clock.ensures.clock c.send_burst.ensures.worked c.send_burst.ensures.shorter

pub returns-clause-failed : goal.returns-clause-failed
returns-clause-failed g c =
    c.send_burst.ensures.failed ∙ ap (failures_after c.send_burst.result) c.read_clock.ensures.failed
