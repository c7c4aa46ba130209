use Rattle.std.proofs.Common.{refl, length, take}
use Rattle.fleet_site.proofs.ServerTurns.{heard_one, heard_none, heard_fault}
use Rattle.fleet_site.proofs.server.receive.Goals as goal

pub returns-in-Ok-Some-clause-received : goal.returns-in-Ok-Some-clause-received
returns-in-Ok-Some-clause-received g c =
    heard_one _ _ _ (length c.args.run.now.buffer) c.args.turn.now c.args.turn.word
    c.args.site.now c.give.new.site c.args.run.now.report _
    c.give.new.run.report c.in-Ok-Some.from (take c.in-Ok-Some.len c.recv.new.buffer)
    c.told-run
    (rw c.in-Ok-Some.field-0-is at c.in-Ok-Some.ensures.noted) c.in-Ok-Some.ensures.failed
    (rw c.count_one.ensures refl) c.give.ensures.given

pub returns-in-Ok-None-clause-received : goal.returns-in-Ok-None-clause-received
returns-in-Ok-None-clause-received g c =
    heard_none _ _ (length c.args.run.now.buffer) c.args.turn.now c.args.turn.word
    c.args.site.now c.args.run.now.report c.args.run.now.report c.told-run
    (rw c.in-Ok-None.field-0-is at c.in-Ok-None.ensures.noted) c.in-Ok-None.ensures.failed refl

pub returns-in-Err-clause-received : goal.returns-in-Err-clause-received
returns-in-Err-clause-received g c =
    heard_fault _ _ (length c.args.run.now.buffer) c.args.turn.now c.args.turn.word
    c.args.site.now c.args.run.now.report _
    c.told-run c.in-Err.ensures.noted
    c.in-Err.ensures.failed (rw c.count_one-in-Err.ensures refl)
