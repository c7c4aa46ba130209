use Rattle.fleet_observe.proofs.reply.relay.relay.Goals as goal

pub returns : goal.returns
returns g c = rw c.in_ok-outline.ensures at c.write_reply.ensures.octets
