use Rattle.std.proofs.Common.{◌≡◌, take}
use Rattle.fleet_observe.specs.Relay.{with_answer_lines, chain_lines}
use Rattle.fleet_observe.proofs.reply.relay.outline_of.Given as goal

abbrev pub invariant-loop-link : goal.invariant-loop-link
invariant-loop-link g l = l.outline ≡ with_answer_lines l.initial.outline
    (chain_lines (take l.link-index l.link-items))
