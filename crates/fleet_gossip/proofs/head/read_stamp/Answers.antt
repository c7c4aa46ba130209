use Rattle.std.proofs.Common.{refl}
use Rattle.fleet_gossip.specs.Faults.{refused}
use Rattle.fleet_gossip.proofs.head.read_stamp.Goals as goal

pub returns-in-None : goal.returns-in-None
returns-in-None c = refused _ _ c.in_ok-seconds.ensures c.in-None.ensures refl
