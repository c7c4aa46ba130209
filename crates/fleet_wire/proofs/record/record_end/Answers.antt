use Rattle.std.proofs.Common.{◌≡◌, ◌+◌, ◌≤◌, length, refl, arith}
use Rattle.fleet_wire.specs.Number.{u16_at, u32_at}
use Rattle.fleet_wire.specs.Shape.{shape_of, ShapeAt}
use Rattle.fleet_wire.proofs.Parts.{reads_within}
use Rattle.fleet_wire.proofs.record.record_end.Goals as goal

pub overflow_add-begin : goal.overflow_add-begin
overflow_add-begin c =
    let n = c.in_ok-past.ensures.found in
    omega (arith, reads_within _ _ _ _ n.1, c.requires.short)

pub returns-clause-found : goal.returns-clause-found
returns-clause-found c =
    let m = c.args.message.now in
    let past = c.in_ok-past.past in
    let name = c.in_ok-past.ensures.found in
    let rdata = c.in_ok-rdata_passes.ensures.found in
    let count : c.read_u16-count.result ≡ u16_at m (past + 8) = c.read_u16-count.ensures in
    let rtype : c.read_u16.result ≡ u16_at m past = c.read_u16.ensures in
    let shape : ShapeAt m (past + 10) (u16_at m (past + 8)) (shape_of (u16_at m past)) rdata.0 =
    rw (count, rtype) at rdata.1 in
    let room : past + 10 + u16_at m (past + 8) ≤ length m =
    rw count at c.if-message-begin-2.false in (
      record {
        name = name.0;
        rtype = u16_at m past;
        class = u16_at m (past + 2);
        ttl = u32_at m (past + 4);
        rdata = rdata.0;
      },
      record {
        past = past;
        name = name.1;
        room = room;
        rtype = refl;
        class = refl;
        ttl = refl;
        rdata = shape;
        end_is = omega (arith, count);
      },
    )
