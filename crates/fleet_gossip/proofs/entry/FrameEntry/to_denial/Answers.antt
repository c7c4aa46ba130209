use Rattle.fleet_gossip.proofs.Making.{denial_made}
use Rattle.fleet_gossip.proofs.entry.FrameEntry.to_denial.Goals as goal

pub unreachable-requires : goal.unreachable-requires
unreachable-requires g c =
    let entry_is = c.requires.entry in
    denial_made _ entry_is.0 entry_is.1 c.args.rtype c.requires.kind c.requires.rtype _ _ _
    (c.in_ok-name.ensures entry_is.0.name entry_is.1.lawful.named entry_is.1.named) c.in_ok-soa.ensures.0
    c.in_ok-soa.ensures.1 _ c.in_default.ensures.checks
