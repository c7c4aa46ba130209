use Rattle.std.proofs.Common.{refl}
use Rattle.fleet_wire.specs.Number.{u16_octets}
use Rattle.fleet_observe.specs.Checks.{IsTypeOf}
use Rattle.fleet_gossip.specs.Faults.{name_fails, BodyFails}
use Rattle.fleet_gossip.specs.declared.fault.FrameFault.TheVariants.{BadKind}
use Rattle.fleet_gossip.proofs.Fields.{field_fault}
use Rattle.fleet_gossip.proofs.Heads.{behind_head, type_fails, fact_read, fact_whole, kind_read, entry_read}
use Rattle.fleet_gossip.proofs.Passing.{no_fault, body_there}
use Rattle.fleet_gossip.proofs.known.read_known_entry.Goals as goal

pub unreachable-requires : goal.unreachable-requires
unreachable-requires c =
    let r = c.requires in no_fault _ _ r.0 r.1 r.2 r.3 _ c.in_default.ensures

pub unreachable-requires-in_default-read_name : goal.unreachable-requires-in_default-read_name
unreachable-requires-in_default-read_name c =
    let r = c.requires in
    no_fault _ _ r.0 r.1 r.2 r.3 _
    (behind_head _ _ _ _ _ c.in-Ok.ensures (name_fails c.in_default-read_name.ensures))

pub unreachable-requires-in_default-read_type : goal.unreachable-requires-in_default-read_type
unreachable-requires-in_default-read_type c =
    let r = c.requires in
    let at = c.in-Ok-read_name.ensures in
    let k = c.in-Ok.head.kind in
    no_fault _ _ r.0 r.1 r.2 r.3 _ (type_fails _ _ _ _ _ _ c.in-Ok.ensures at _
    (field_fault u16_octets 2 (IsTypeOf k) BadKind (BodyFails k at.lawful.name) _ _
    c.in_default-read_type.ensures))

pub read_known_body-body-requires : goal.read_known_body-body-requires
read_known_body-body-requires c =
    let r = c.requires in
    let at = c.in-Ok-read_name.ensures in (
      at.lawful.name,
      _,
      _,
      body_there _ _ _ _ _ _ c.in-Ok.ensures at _ _ c.in-Ok-read_type.ensures r.0 r.1 r.2 r.3,
    )

pub returns : goal.returns
returns c =
    let r = c.requires in
    let head = c.in-Ok.ensures in
    let at = c.in-Ok-read_name.ensures in
    let t = c.in-Ok-read_type.ensures in
    let b = c.read_known_body-body.ensures at.lawful.name _ _
    (body_there _ _ _ _ _ _ head at _ _ t r.0 r.1 r.2 r.3) in (
      fact_read _ _ _ _ _ _ head at _ _ t _ _ b,
      entry_read _ _ _ _ _ _ head at _ _ t _ _ b c.in-Ok-read_name.name
          c.read_known_body-body.result refl refl,
      kind_read _ _ _ _ _ _ head at _ _ t _ _ b,
      fact_whole _ _ _ _ _ _ head at _ _ t _ _ b,
    )
