use Rattle.fleet_wire.proofs.Records as records
use Rattle.fleet_wire.proofs.laws.one_reply.Goals as goal

pub returns : goal.returns
returns c m a b one two = records.one_reply m a b one two
