use Rattle.fleet_gossip.specs.Entry.{AreBodyOctets}
use Rattle.fleet_gossip.proofs.Parts.{part_taken, part_uncut}
use Rattle.fleet_gossip.proofs.known.read_known_body.Goals as goal

pub unreachable-requires : goal.unreachable-requires
unreachable-requires c =
    let r = c.requires in
    let found = rw c.rest.ensures at (c.known_body_size-size.ensures r.0 r.1 r.2
    (rw (← c.rest.ensures) at r.3)) in
    part_uncut (AreBodyOctets c.args.kind r.0 r.1) _ _ found _ c.in_default.ensures

pub returns : goal.returns
returns c n rtype size is =
    let found = rw c.rest.ensures at (c.known_body_size-size.ensures n rtype size
    (rw (← c.rest.ensures) at is)) in
    part_taken (AreBodyOctets c.args.kind n rtype) _ _ found _ _ c.in-Ok.ensures
