use Rattle.std.proofs.Common.{◌∙◌, ap}
use Rattle.std.proofs.lemmas.Result.{on_ok_weaker}
use Rattle.fleet_observe.specs.Observation.{kind_number}
use Rattle.fleet_gossip.proofs.PackSteps.{head_written}
use Rattle.fleet_gossip.proofs.writer.push_head.Goals as goal

pub returns : goal.returns
returns g c =
    on_ok_weaker c.push_u32.result (λ e. head_written _ _ _ _ _
    (c.number.ensures ∙ ap kind_number c.kind.ensures.value) c.rank.ensures.value
    (c.value.ensures.value ∙ c.stamp.ensures.value) c.life.ensures.value
    c.in_ok-push.ensures.items c.in_ok-push-2.ensures.items c.in_ok-push_u64.ensures e)
    c.push_u32.ensures
