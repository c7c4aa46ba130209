use Rattle.fleet_site.proofs.Replying as replying
use Rattle.fleet_site.proofs.Overall as overall
use Rattle.fleet_site.proofs.laws.own_replies.Goals as goal

pub returns-clause-once : goal.returns-clause-once
returns-clause-once c = replying.replies_once

pub returns-clause-new : goal.returns-clause-new
returns-clause-new c = replying.new_owes_nothing

pub returns-clause-sockets : goal.returns-clause-sockets
returns-clause-sockets c = overall.replies_once_over_sockets
