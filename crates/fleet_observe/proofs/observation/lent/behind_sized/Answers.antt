use Rattle.fleet_wire.specs.Number.{u16_octets}
use Rattle.std.proofs.Common.{length}
use Rattle.fleet_observe.proofs.Lent.{behind_both}
use Rattle.fleet_observe.proofs.observation.lent.behind_sized.Goals as goal

pub returns : goal.returns
returns c = behind_both c.args.octets.now c.in-Some.rest.now
    (u16_octets (length c.args.part.now)) c.args.part.now c.behind.result c.in-Some.ensures
    c.behind.ensures
