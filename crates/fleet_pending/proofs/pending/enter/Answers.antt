use Rattle.std.proofs.Common.{refl, rules}
use Rattle.fleet_pending.specs.Asking.{is_sent}
use Rattle.fleet_pending.proofs.pending.enter.Goals as goal

pub returns-in-Ok-clause-opens : goal.returns-in-Ok-clause-opens
returns-in-Ok-clause-opens g c = λ word free.
    is_sent c.args.id c.requires.few free refl (search rules)
