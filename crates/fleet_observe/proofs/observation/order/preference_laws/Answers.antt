use Rattle.fleet_observe.specs.Preference.{preference_total}
use Rattle.fleet_observe.proofs.Lemmas.{preference_exact}
use Rattle.fleet_observe.proofs.observation.order.preference_laws.Goals as goal

pub returns : goal.returns
returns c = record { total = preference_total; exact = preference_exact }
