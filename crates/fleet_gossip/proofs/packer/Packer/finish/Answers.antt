use Rattle.fleet_gossip.proofs.FrameSteps.{if_err}
use Rattle.fleet_gossip.proofs.PackSteps.{taken_some, packed_none, packed_all}
use Rattle.fleet_gossip.proofs.packer.Packer.finish.Goals as goal

pub returns-then-self-eq0-clause-packed : goal.returns-then-self-eq0-clause-packed
returns-then-self-eq0-clause-packed g c taken hold = packed_none _ _ _ taken hold c.if-self-eq0.true

pub returns-clause-packed : goal.returns-clause-packed
returns-clause-packed g c taken hold = packed_all _ _ _ taken hold _ c.in_ok-close.ensures.frames
    c.if-self-eq0.false

pub returns-in_err-close-clause-memory : goal.returns-in_err-close-clause-memory
returns-in_err-close-clause-memory g c = if_err c.from_residual.result _
    (λ f taken hold. taken_some _ _ _ taken hold c.if-self-eq0.false)
