use Rattle.fleet_pending.proofs.SettlingGivesItsEntry.{settles_its_entry}
use Rattle.fleet_pending.proofs.laws.settling_gives_its_entry.Goals as goal

pub returns : goal.returns
returns c = settles_its_entry
