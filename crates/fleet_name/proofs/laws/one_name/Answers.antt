use Rattle.fleet_name.proofs.Lemmas.{wire_exact}
use Rattle.fleet_name.proofs.laws.one_name.Goals as goal

pub returns : goal.returns
returns c = wire_exact
