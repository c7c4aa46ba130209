use Rattle.fleet_gossip.proofs.Making.{owner_uncut, soa_uncut, soa_whole}
use Rattle.fleet_gossip.proofs.entry.copy_soa.Goals as goal

pub unreachable-requires : goal.unreachable-requires
unreachable-requires g c = owner_uncut _ c.requires _
    (rw c.new-reader.ensures at c.in_default.ensures)

pub unreachable-requires-in_default-read_sized : goal.unreachable-requires-in_default-read_sized
unreachable-requires-in_default-read_sized g c =
    soa_uncut _ c.requires _ _ (rw c.new-reader.ensures at c.in-Ok.ensures) _
    c.in_default-read_sized.ensures

pub returns : goal.returns
returns g c =
    let at = rw c.new-reader.ensures at c.in-Ok.ensures in let same =
    c.in_ok-owner.ensures at.lawful.name at.lawful.named at.lawful.whole in (
      rw same at.lawful.named,
      soa_whole _ c.requires _ _ at _ _ _ _ c.in-Ok-read_sized.ensures same c.in_ok-rdata.ensures,
    )
