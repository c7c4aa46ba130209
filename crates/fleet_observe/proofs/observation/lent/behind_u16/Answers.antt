use Rattle.fleet_observe.proofs.Lent.{u16_behind}
use Rattle.fleet_observe.proofs.observation.lent.behind_u16.Goals as goal

pub returns : goal.returns
returns c = u16_behind c.args.octets.now c.to_be_bytes.result c.args.number c.behind.result
    c.requires c.to_be_bytes.ensures c.behind.ensures
