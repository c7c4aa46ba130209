use Rattle.std.proofs.Common.{◌↔◌, IsTrue, subst}
use Rattle.fleet_pending.specs.Waiter.{Waits}
use Rattle.fleet_pending.proofs.waiters.has_waiter.Goals as goal

pub returns : goal.returns
returns g c =
    subst (λ vs. IsTrue c.is_among.result ↔ Waits c.args.waiter.now vs) c.as_slice.ensures.value
    c.is_among.ensures
