use Rattle.fleet_site.proofs.ServerTurns.{ticking_none, ticking_more, ticks_all, stepped_call, fewer_where_more}
use Rattle.fleet_site.proofs.server.tick_all.Goals as goal

pub loop-more-init : goal.loop-more-init
loop-more-init g c = ticking_none _ c.args.now c.args.site.now c.args.report.now
    (c.serving_leaves_fewer_due.ensures.few _ _ c.clock.ensures.lawful.questions.pending)

pub loop-more-preserved : goal.loop-more-preserved
loop-more-preserved g c =
    rw c.carry_out-more.ensures.more (ticking_more _ _ _ c.args.now c.args.site.now c.loop-more.site
    c.tick-answer.new.self c.args.report.now c.loop-more.report c.carry_out-more.new.report
    c.tick-answer.result
    (rw c.loop-more-test.true at c.loop-more.invariant)
    (stepped_call _ _ _ _ c.tick-answer.ensures.follows c.tick-answer.ensures.config)
    (rw c.peers.ensures at c.carry_out-more.ensures.carried) c.tick-answer.ensures.clock
    (fewer_where_more c.tick-answer.result _ _ _ c.tick-answer.ensures.fewer))

pub returns : goal.returns
returns g c = ticks_all _ _ _ c.loop-more.more c.args.site.now c.loop-more.site c.args.report.now
    c.loop-more.report c.loop-more-test.false c.loop-more.invariant
