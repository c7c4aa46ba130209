use Rattle.fleet_wire.proofs.FirstFaults as lemmas
use Rattle.fleet_wire.proofs.laws.one_reply_fault.Goals as goal

pub returns : goal.returns
returns c m f g h h' = lemmas.one_reply_fault m f g h h'
