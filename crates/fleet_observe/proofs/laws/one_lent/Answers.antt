use Rattle.fleet_observe.proofs.Lemmas.{lent_exact}
use Rattle.fleet_observe.proofs.laws.one_lent.Goals as goal

pub returns : goal.returns
returns c lent x y h k = lent_exact lent x y h k
