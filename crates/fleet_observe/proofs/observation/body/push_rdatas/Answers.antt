use Rattle.std.proofs.Common.{arith}
use Rattle.fleet_observe.proofs.Bodies.{fewer_than_octets}
use Rattle.fleet_observe.proofs.observation.body.push_rdatas.Goals as goal

pub push_u16-requires : goal.push_u16-requires
push_u16-requires g c = omega (arith, fewer_than_octets c.args.rdatas.now, c.requires)
