use Rattle.std.proofs.Common.{refl}
use Rattle.fleet_site.proofs.ServerTurns.{turn_of}
use Rattle.fleet_site.proofs.server.take_turn.Goals as goal

pub returns : goal.returns
returns g c =
    turn_of _ _ _ _ c.args.turn.now c.args.turn.word c.args.every c.args.run.now.swept
    c.sweep_if_due.new.run.swept c.args.site.now c.receive.new.site c.tick_all.new.site
    c.args.run.now.report _ c.receive.new.run.report c.tick_all.new.report
    c.sweep_if_due.new.run.report (rw c.count_one.ensures refl) c.receive.ensures.received
    c.tick_all.ensures (rw c.receive.ensures.swept at c.sweep_if_due.ensures)
