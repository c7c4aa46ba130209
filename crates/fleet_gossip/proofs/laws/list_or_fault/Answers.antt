use Rattle.fleet_gossip.proofs.Frames as frames
use Rattle.fleet_gossip.proofs.laws.list_or_fault.Goals as goal

pub returns : goal.returns
returns c octets list f is fails = frames.list_or_fault octets list f is fails
