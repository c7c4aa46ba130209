use Rattle.std.proofs.Common.{◌++◌, ◌∷◌, [], ◌∙◌, ap, sym, append_assoc, List}
use Rattle.std.proofs.lemmas.List.{append-nil}
use Rattle.std.proofs.lemmas.Result.{IfOk-weaker, on_err_weaker}
use Rattle.fleet_observe.specs.Observation.{ObservationData}
use Rattle.fleet_gossip.proofs.packer.sweep.Goals as goal

pub loop-observation-preserved : goal.loop-observation-preserved
loop-observation-preserved g c =
    let i = c.loop-observation.invariant in let o = c.in-Some.observation.now in
    record {
      taken = i.taken ++ o ∷ [];
      split = i.split ∙ (ap (λ (x : List ObservationData). i.taken ++ x) c.in-Some.ensures.steps
          ∙ sym (append_assoc i.taken (o ∷ []) c.next.new.self));
      packs = c.in_ok-add.ensures i.taken i.packs;
    }

pub returns-clause-packed : goal.returns-clause-packed
returns-clause-packed g c =
    let i = c.loop-observation.invariant in
    let whole = i.split ∙ (ap (λ (x : List ObservationData). i.taken ++ x) c.in-None.ensures.steps.0
    ∙ append-nil i.taken) in
    IfOk-weaker c.finish.result _ _ (λ frames h. rw whole (h i.taken i.packs))
    c.finish.ensures.packed

pub returns-clause-memory : goal.returns-clause-memory
returns-clause-memory g c =
    let i = c.loop-observation.invariant in
    let whole = i.split ∙ (ap (λ (x : List ObservationData). i.taken ++ x) c.in-None.ensures.steps.0
    ∙ append-nil i.taken) in
    on_err_weaker c.finish.result (λ h. rw whole (h i.taken i.packs)) c.finish.ensures.memory
