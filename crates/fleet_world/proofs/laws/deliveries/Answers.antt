use Rattle.fleet_world.proofs.Arrived as arrived
use Rattle.fleet_world.proofs.Stems as stems
use Rattle.fleet_world.proofs.laws.deliveries.Goals as goal

pub returns-clause-alike : goal.returns-clause-alike
returns-clause-alike g c = arrived.alike _

pub returns-clause-stands : goal.returns-clause-stands
returns-clause-stands g c = arrived.alike_stand

pub returns-clause-delivered : goal.returns-clause-delivered
returns-clause-delivered g c = arrived.kept_arrive _

pub returns-clause-stems : goal.returns-clause-stems
returns-clause-stems g c = stems.all_stem c.one_list.ensures

pub returns-clause-kept_stems : goal.returns-clause-kept_stems
returns-clause-kept_stems g c = stems.kept_stem c.one_list.ensures
