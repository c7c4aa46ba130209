use Rattle.std.proofs.Common.{◌≡◌, ℕ, ◌+◌, arith, ap}
use Rattle.fleet_wire.specs.Number.{u16_at}
use Rattle.fleet_wire.specs.Shape.{shape_of, ShapeAt}
use Rattle.fleet_wire.proofs.Parts.{reads_within}
use Rattle.fleet_wire.proofs.Records.{record_behind}
use Rattle.fleet_wire.proofs.record.record_at.Goals as goal

pub overflow_add-past : goal.overflow_add-past
overflow_add-past g c =
    omega (arith, reads_within _ _ _ _ c.in_ok-name.ensures, c.requires.short)

pub prove-unreachable-requires : goal.prove-unreachable-requires
prove-unreachable-requires g c =
    let h = c.requires.found in
    let behind = record_behind _ _ _ c.in_ok-name.past h.0 h.1 c.in_ok-name.ensures h.2 in
    omega (arith, behind.0, c.if-prove.true)

pub rdata_of-requires-clause-within : goal.rdata_of-requires-clause-within
rdata_of-requires-clause-within g c =
    let h = c.requires.found in
    let behind = record_behind _ _ _ c.in_ok-name.past h.0 h.1 c.in_ok-name.ensures h.2 in
    omega (arith, behind.0, c.read_u16-count.ensures)

pub rdata_of-requires-clause-found : goal.rdata_of-requires-clause-found
rdata_of-requires-clause-found g c =
    let h = c.requires.found in
    let behind = record_behind _ _ _ c.in_ok-name.past h.0 h.1 c.in_ok-name.ensures h.2 in
    (h.0.rdata, rw (c.read_u16-count.ensures, c.read_u16-rtype.ensures) behind.1)

pub returns : goal.returns
returns g c =
    let m = c.args.message.now in
    let past = c.in_ok-name.past in
    let h = c.requires.found in
    let behind = record_behind _ _ _ past h.0 h.1 c.in_ok-name.ensures h.2 in
    let count : c.read_u16-count.result ≡ u16_at m (past + 8) = c.read_u16-count.ensures in
    let rdata : ShapeAt m (past + 10) (u16_at m (past + 8)) (shape_of c.read_u16-rtype.result)
    c.in_ok-rdata_of.field-0 =
    rw count at c.in_ok-rdata_of.ensures in
    record {
      past = past;
      name = c.in_ok-name.ensures;
      room = behind.0;
      rtype = c.read_u16-rtype.ensures;
      class = c.read_u16.ensures;
      ttl = c.read_u32.ensures;
      rdata = rdata;
      end_is = ap (λ (k : ℕ). past + 10 + k) count;
    }
