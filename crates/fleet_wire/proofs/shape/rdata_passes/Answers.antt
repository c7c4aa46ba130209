use Rattle.std.proofs.Common.{take, drop, refl}
use Rattle.fleet_wire.proofs.shape.rdata_passes.Goals as goal

pub returns-in_default-clause-found : goal.returns-in_default-clause-found
returns-in_default-clause-found c =
    (take c.args.count (drop c.args.at c.args.message.now), rw c.in_default.ensures.parts refl)
