use Rattle.fleet_world.proofs.Reached as reached
use Rattle.fleet_world.proofs.laws.reaching.Goals as goal

pub returns-clause-hears : goal.returns-clause-hears
returns-clause-hears g c = reached.hears c.one_list.ensures _

pub returns-clause-onward : goal.returns-clause-onward
returns-clause-onward g c = reached.onward _

pub returns-clause-rounds : goal.returns-clause-rounds
returns-clause-rounds g c = reached.rounds _
