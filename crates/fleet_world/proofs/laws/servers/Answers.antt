use Rattle.fleet_world.proofs.Servers as servers
use Rattle.fleet_world.proofs.laws.servers.Goals as goal

pub returns-clause-turns : goal.returns-clause-turns
returns-clause-turns g c = servers.turns

pub returns-clause-run : goal.returns-clause-run
returns-clause-run g c = servers.servers _

pub returns-clause-step : goal.returns-clause-step
returns-clause-step g c = servers.servers_step _
