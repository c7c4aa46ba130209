use Rattle.std.proofs.Common.{length, ap, arith, length-append}
use Rattle.fleet_gossip.proofs.Passing.{owner_there, rdata_there, negative_passed}
use Rattle.fleet_gossip.proofs.known.known_negative_size.Goals as goal

pub unreachable-requires : goal.unreachable-requires
unreachable-requires c =
    let r = c.requires in
    owner_there _ r.0 r.1 r.2 _ (rw c.new-reader.ensures at c.in_default.ensures)

pub unreachable-requires-in_default-read_sized : goal.unreachable-requires-in_default-read_sized
unreachable-requires-in_default-read_sized c =
    let r = c.requires in
    rdata_there _ r.0 r.1 r.2 _ _ (rw c.new-reader.ensures at c.in-Ok.ensures) _
    c.in_default-read_sized.ensures

pub returns : goal.returns
returns c n size found =
    let at = rw c.new-reader.ensures at c.in-Ok.ensures in
    negative_passed _ n size found _ _ at _ _ c.in-Ok-read_sized.ensures _ (omega (
      arith,
      ap length c.rest.ensures,
      ap length at.whole,
      length-append c.in-Ok.field-0.now c.read_name.new.reader,
      ap length c.in-Ok-read_sized.ensures,
      length-append c.in-Ok-read_sized.field-0.now c.read_sized.new.reader,
    ))
