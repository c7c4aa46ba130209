use Rattle.fleet_wire.proofs.Records as records
use Rattle.fleet_wire.proofs.laws.reply_or_fault.Goals as goal

pub returns : goal.returns
returns c m r f is h = records.reply_or_fault m r f is h
