use Rattle.fleet_site.proofs.Answering as answering
use Rattle.fleet_site.proofs.NoneForgotten as awaited
use Rattle.fleet_site.proofs.laws.none_forgotten.Goals as goal

pub returns-clause-at_once : goal.returns-clause-at_once
returns-clause-at_once c = answering.all_reply_or_wait

pub returns-clause-relayed : goal.returns-clause-relayed
returns-clause-relayed c = awaited.relayed_at_once

pub returns-clause-stays : goal.returns-clause-stays
returns-clause-stays c = answering.stays_until_replied

pub returns-clause-soon : goal.returns-clause-soon
returns-clause-soon c = answering.soon_when_served

pub returns-clause-in_time : goal.returns-clause-in_time
returns-clause-in_time c = answering.replied_in_time

pub returns-clause-turns : goal.returns-clause-turns
returns-clause-turns c = answering.turns_serve_all_due
