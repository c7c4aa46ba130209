use Rattle.fleet_gossip.proofs.Making.{records_made}
use Rattle.fleet_gossip.proofs.entry.FrameEntry.to_records.Goals as goal

pub unreachable-requires : goal.unreachable-requires
unreachable-requires g c =
    let entry_is = c.requires.entry in
    records_made _ entry_is.0 entry_is.1 c.requires.kind _ c.in_ok-rdatas.ensures _
    c.in_default.ensures.checks
