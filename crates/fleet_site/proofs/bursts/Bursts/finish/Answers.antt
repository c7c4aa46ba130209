use Rattle.std.proofs.Common.{◌∙◌}
use Rattle.fleet_site.proofs.Working.{worked_before, sent_worked}
use Rattle.fleet_site.proofs.bursts.Bursts.finish.Goals as goal

pub loop-self-preserved : goal.loop-self-preserved
loop-self-preserved g c = (
  worked_before _ _ _ (worked_before _ _ _ c.loop-self.invariant.0 c.pause_if_full.ensures.worked)
      (sent_worked _ _ c.send_next.ensures.worked),
  c.send_next.ensures.arrived ∙ c.pause_if_full.ensures.arrived ∙ c.loop-self.invariant.1,
  c.send_next.ensures.dropped ∙ c.pause_if_full.ensures.dropped ∙ c.loop-self.invariant.2,
)
