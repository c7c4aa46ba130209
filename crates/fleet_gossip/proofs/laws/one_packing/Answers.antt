use Rattle.fleet_gossip.proofs.Packing as packing
use Rattle.fleet_gossip.proofs.laws.one_packing.Goals as goal

pub returns : goal.returns
returns c list a b one two = packing.one_packing list a b one two
