use Rattle.std.proofs.Common.{◌≡◌, take, map}
use Rattle.fleet_wire.specs.Outline.{line}
use Rattle.fleet_observe.specs.Relay.{with_answer_lines}
use Rattle.fleet_observe.proofs.reply.lent_rrset.add_rrset.Given as goal

abbrev pub invariant-loop-rdata : goal.invariant-loop-rdata
invariant-loop-rdata g l = l.outline ≡ with_answer_lines l.fn.outline
    (map (line l.lent.name.now l.lent.rtype l.lent.ttl) (take l.rdata-index l.rdata-items))
