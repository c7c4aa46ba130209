use Rattle.fleet_wire.proofs.Written as written
use Rattle.fleet_wire.proofs.laws.query_reads_back.Goals as goal

pub returns : goal.returns
returns c id q named = written.query_back id q named
