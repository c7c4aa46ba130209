use Rattle.fleet_observe.proofs.Lemmas.{key_exact}
use Rattle.fleet_observe.proofs.laws.one_key.Goals as goal

pub returns : goal.returns
returns c n m k j r q e = key_exact n m k j r q e
