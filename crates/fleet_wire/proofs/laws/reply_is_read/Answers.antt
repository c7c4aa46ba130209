use Rattle.fleet_wire.proofs.Lawful as lawful
use Rattle.fleet_wire.proofs.laws.reply_is_read.Goals as goal

pub returns : goal.returns
returns c m r is = lawful.reply_read m r is
