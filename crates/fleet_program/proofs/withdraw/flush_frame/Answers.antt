use Rattle.std.proofs.Common.{[], ◌∷◌, ◌++◌, ap, ◌∙◌, subst}
use Rattle.fleet_observe.specs.Observation.{flush_at}
use Rattle.fleet_gossip.specs.Frame.{WritesFrame}
use Rattle.fleet_program.proofs.withdraw.flush_frame.Goals as goal

pub returns-in-Ok : goal.returns-in-Ok
returns-in-Ok c =
    subst (λ list. WritesFrame c.in-Ok.frame.items list)
    (c.deref.ensures.value ∙ c.push_reserved.ensures.items
    ∙ ap (λ list. list ++ c.flush.result ∷ []) c.in_ok-flushes.ensures.items
    ∙ ap (λ flush. flush ∷ [])
    (c.flush.ensures ∙ ap (λ name. flush_at name c.args.now) c.in_ok-try_clone.ensures))
    c.in-Ok.ensures.spelled
