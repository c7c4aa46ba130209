use Rattle.fleet_world.specs.Withdrawn.{IsFreshAfter}
use Rattle.fleet_world.proofs.Withdrawals as withdrawals
use Rattle.fleet_world.proofs.Answering as answering
use Rattle.fleet_world.proofs.Sending as sending
use Rattle.fleet_world.proofs.Sent as sent
use Rattle.fleet_world.proofs.Relaying as relaying
use Rattle.fleet_world.proofs.laws.withdrawn.Goals as goal

pub returns-clause-taken : goal.returns-clause-taken
returns-clause-taken g c = withdrawals.taken_withdraw c.tests_hold.ensures.live

pub returns-clause-heard : goal.returns-clause-heard
returns-clause-heard g c =
    withdrawals.heard_withdraw c.one_list.ensures c.caches_exist.ensures c.one_answer.ensures
    c.tests_hold.ensures.live

pub returns-clause-reached : goal.returns-clause-reached
returns-clause-reached g c =
    withdrawals.reached_withdraw _ c.one_list.ensures c.caches_exist.ensures c.one_answer.ensures
    c.tests_hold.ensures.live

pub returns-clause-ended : goal.returns-clause-ended
returns-clause-ended g c = withdrawals.withdrawn_end_first

pub returns-clause-no_difference : goal.returns-clause-no_difference
returns-clause-no_difference g c =
    withdrawals.ended_make_no_difference c.tests_hold.ensures.live

pub returns-clause-asked : goal.returns-clause-asked
returns-clause-asked g c =
    answering.asked_after c.one_list.ensures c.tests_hold.ensures.live c.one_reply.ensures
    c.reply_reads_back.ensures

pub returns-clause-answered : goal.returns-clause-answered
returns-clause-answered g c =
    sending.answered_after c.one_list.ensures c.tests_hold.ensures.live c.one_reply.ensures
    c.reply_reads_back.ensures

pub returns-clause-sent : goal.returns-clause-sent
returns-clause-sent g c =
    sent.sent _ (λ m es rs n run a t x. IsFreshAfter m es rs n run a.site.taken t x)
    (sending.answered_after c.one_list.ensures c.tests_hold.ensures.live c.one_reply.ensures
    c.reply_reads_back.ensures)
    (relaying.relayed_are_of_reply c.one_reply.ensures c.reply_reads_back.ensures
    c.reply_is_read.ensures c.waiters_stay.ensures)
    sending.others_say_nothing
