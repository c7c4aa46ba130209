use Rattle.fleet_pending.specs.Asking.{ask_result}
use Rattle.fleet_site.proofs.Tables.{keeps_table_asked}
use Rattle.fleet_site.proofs.question.join_or_open.Goals as goal

pub open-requires : goal.open-requires
open-requires g c = (c.args.datagram.now.word, rw c.in-Some.is at c.requires.fresh)

pub returns-in-Some-clause-asks : goal.returns-in-Some-clause-asks
returns-in-Some-clause-asks g c =
    c.open.ensures.asks c.args.datagram.now.word (rw c.in-Some.is at c.requires.fresh)

pub returns-in-Some-clause-table : goal.returns-in-Some-clause-table
returns-in-Some-clause-table g c = λ us table.
    let o = c.args.pending.now in
    let n = c.open.new.self in
    let w = c.args.waiter in
    keeps_table_asked us o n w table c.requires.class c.open.ensures.lawful c.open.ensures.upstreams
    (λ v. c.waiters_stay.ensures.asking o n w v c.args.datagram.now.moment c.args.datagram.now.word
    (ask_result c.open.result) (returns-in-Some-clause-asks g c))

pub returns-in-None-clause-table : goal.returns-in-None-clause-table
returns-in-None-clause-table g c = λ us table.
    let o = c.args.pending.now in
    let n = c.ask.new.self in
    let w = c.args.waiter in
    keeps_table_asked us o n w table c.requires.class c.ask.ensures.lawful c.ask.ensures.upstreams
    (λ v. c.waiters_stay.ensures.asking o n w v c.args.datagram.now.moment c.args.datagram.now.word
    (ask_result c.ask.result) c.ask.ensures.asks)
