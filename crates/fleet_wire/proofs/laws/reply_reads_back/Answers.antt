use Rattle.fleet_wire.proofs.Written as written
use Rattle.fleet_wire.proofs.laws.reply_reads_back.Goals as goal

pub returns : goal.returns
returns c o q lawful is = written.reads_back o q lawful is
