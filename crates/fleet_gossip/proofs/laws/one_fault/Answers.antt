use Rattle.fleet_gossip.proofs.Frames as frames
use Rattle.fleet_gossip.proofs.laws.one_fault.Goals as goal

pub returns : goal.returns
returns c octets f g fails other = frames.one_fault octets f g fails other
