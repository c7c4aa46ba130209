use Rattle.std.proofs.Common.{Ok, Err, [], take, refl}
use Rattle.fleet_site.proofs.ServerLists.{made_none}
use Rattle.fleet_site.proofs.ServerTurns.{given_one, given_reply, stepped_call}
use Rattle.fleet_site.proofs.server.give.Goals as goal

pub returns-in-Ok-Reply-clause-given : goal.returns-in-Ok-Reply-clause-given
returns-in-Ok-Reply-clause-given g c =
    given_reply _ _ c.args.turn.now c.args.turn.word c.args.site.now c.datagram_into.new.self
    c.args.run.now.report c.send.new.report c.args.from (take c.args.len c.args.run.now.buffer)
    c.datagram_into.new.out.items
    (stepped_call _ _ _ _ (rw c.in-Ok-Reply.field-0-is at c.in-Ok-Reply.ensures.follows)
    c.in-Ok-Reply.ensures.config)
    (rw c.as_slice.ensures.value at c.send.ensures)

pub returns-in-Ok-Outcome-clause-given : goal.returns-in-Ok-Outcome-clause-given
returns-in-Ok-Outcome-clause-given g c =
    given_one _ _ c.args.turn.now c.args.turn.word c.args.site.now c.datagram_into.new.self
    c.args.run.now.report c.carry_out.new.report c.args.from
    (take c.args.len c.args.run.now.buffer) (Ok c.in-Ok-Outcome.outcome)
    (stepped_call _ _ _ _ (rw c.in-Ok-Outcome.field-0-is at c.in-Ok-Outcome.ensures.follows)
    c.in-Ok-Outcome.ensures.config)
    (rw c.peers.ensures at c.carry_out.ensures.carried)

pub returns-in-Err-clause-given : goal.returns-in-Err-clause-given
returns-in-Err-clause-given g c =
    given_one _ _ c.args.turn.now c.args.turn.word c.args.site.now c.datagram_into.new.self
    c.args.run.now.report _ c.args.from
    (take c.args.len c.args.run.now.buffer) (Err c.in-Err.field-0)
    (stepped_call _ _ _ _ c.in-Err.ensures.follows c.in-Err.ensures.config)
    (record { calls = []; made = made_none _; sent = tt; report = rw c.count_one.ensures refl })
