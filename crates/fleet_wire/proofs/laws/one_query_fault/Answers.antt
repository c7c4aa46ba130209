use Rattle.fleet_wire.proofs.FirstFaults as lemmas
use Rattle.fleet_wire.proofs.laws.one_query_fault.Goals as goal

pub returns : goal.returns
returns c m f g h h' = lemmas.one_query_fault m f g h h'
