use Rattle.fleet_gossip.proofs.Frames as frames
use Rattle.fleet_gossip.proofs.laws.one_spelling.Goals as goal

pub returns : goal.returns
returns c list a b x y same = frames.one_spelling list a b x y same
