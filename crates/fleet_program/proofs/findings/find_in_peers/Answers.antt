use Rattle.fleet_program.proofs.findings.find_in_peers.Goals as goal

pub returns-in-Some : goal.returns-in-Some
returns-in-Some c = rw c.in-Some.is c.find_in_list.ensures
