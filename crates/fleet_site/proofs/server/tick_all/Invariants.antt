use Rattle.fleet_site.specs.steps.Turned.{loop_state}
use Rattle.fleet_site.proofs.Loops.{Ticking, ticks_left, due_by}
use Rattle.fleet_site.proofs.server.tick_all.Given as goal

abbrev pub invariant-loop-more : goal.invariant-loop-more
invariant-loop-more g l =
    Ticking (loop_state (g.P.Port.state l.fn.port) l.fn.site l.fn.report) (loop_state (g.P.Port.state l.port) l.site l.report) l.now l.more

abbrev pub decreases-loop-more : goal.decreases-loop-more
decreases-loop-more g l = ticks_left l.more (due_by l.site l.now)
