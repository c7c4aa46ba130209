use Rattle.fleet_observe.proofs.Faults.{meaning_sound, digest_or_fault}
use Rattle.fleet_observe.proofs.laws.digest_or_fault.Goals as goal

pub returns-clause-fault : goal.returns-clause-fault
returns-clause-fault c r d f meaning fault = digest_or_fault r d f meaning fault

pub returns-clause-sound : goal.returns-clause-sound
returns-clause-sound c r d meaning = meaning_sound r d meaning
