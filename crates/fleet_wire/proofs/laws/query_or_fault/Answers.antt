use Rattle.fleet_wire.proofs.Records as lemmas
use Rattle.fleet_wire.proofs.laws.query_or_fault.Goals as goal

pub returns : goal.returns
returns c m h q past f is fails = lemmas.query_or_fault m h q past f is fails
