use Rattle.fleet_world.specs.Fresh.{IsFreshRecord}
use Rattle.fleet_world.proofs.Freshness as freshness
use Rattle.fleet_world.proofs.Answering as answering
use Rattle.fleet_world.proofs.Sending as sending
use Rattle.fleet_world.proofs.Sent as sent
use Rattle.fleet_world.proofs.Relaying as relaying
use Rattle.fleet_world.proofs.laws.fresh.Goals as goal

pub returns-clause-parts : goal.returns-clause-parts
returns-clause-parts g c = freshness.answers_fresh c.one_list.ensures c.tests_hold.ensures.live

pub returns-clause-asked : goal.returns-clause-asked
returns-clause-asked g c =
    answering.asked_fresh c.one_list.ensures c.tests_hold.ensures.live c.one_reply.ensures
    c.reply_reads_back.ensures

pub returns-clause-answered : goal.returns-clause-answered
returns-clause-answered g c =
    sending.answered_fresh c.one_list.ensures c.tests_hold.ensures.live c.one_reply.ensures
    c.reply_reads_back.ensures

pub returns-clause-relayed : goal.returns-clause-relayed
returns-clause-relayed g c =
    relaying.relayed_are_of_reply c.one_reply.ensures c.reply_reads_back.ensures
    c.reply_is_read.ensures c.waiters_stay.ensures

pub returns-clause-others : goal.returns-clause-others
returns-clause-others g c = sending.others_say_nothing

pub returns-clause-sent : goal.returns-clause-sent
returns-clause-sent g c =
    sent.sent _ (λ m es rs n run a t x. IsFreshRecord m es rs n run t x)
    (sending.answered_fresh c.one_list.ensures c.tests_hold.ensures.live c.one_reply.ensures
    c.reply_reads_back.ensures)
    (relaying.relayed_are_of_reply c.one_reply.ensures c.reply_reads_back.ensures
    c.reply_is_read.ensures c.waiters_stay.ensures)
    sending.others_say_nothing
