use Rattle.std.proofs.Common.{arith}
use Rattle.std.proofs.lemmas.List.{take_all}
use Rattle.std.proofs.lemmas.Result.{IfOk-weaker, on_err_weaker}
use Rattle.fleet_gossip.proofs.PackSteps.{take_item}
use Rattle.fleet_gossip.proofs.packer.pack.Goals as goal

pub loop-observation-preserved : goal.loop-observation-preserved
loop-observation-preserved g c = rw (take_item _ _ _ c.loop-observation-test.true
    c.observation-item.is) (c.in_ok-add.ensures _ c.loop-observation.invariant)

pub returns-clause-packed : goal.returns-clause-packed
returns-clause-packed g c =
    IfOk-weaker c.finish.result _ _ (λ frames h. rw
    (take_all c.loop-observation.observation-index c.args.observations.now (omega arith)) at
    (h _ c.loop-observation.invariant)) c.finish.ensures.packed

pub returns-clause-memory : goal.returns-clause-memory
returns-clause-memory g c =
    on_err_weaker c.finish.result (λ h. rw (take_all c.loop-observation.observation-index
    c.args.observations.now (omega arith)) at (h _ c.loop-observation.invariant))
    c.finish.ensures.memory
