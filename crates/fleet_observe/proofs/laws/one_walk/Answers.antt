use Rattle.fleet_observe.proofs.Walks.{walk_is}
use Rattle.fleet_observe.proofs.laws.one_walk.Goals as goal

pub returns : goal.returns
returns c s t n a b first second = walk_is s t n b a second.path second.ends first
