use Rattle.fleet_gossip.proofs.Frames as frames
use Rattle.fleet_gossip.proofs.laws.one_list.Goals as goal

pub returns : goal.returns
returns c octets a b one two = frames.one_list octets a b one two
