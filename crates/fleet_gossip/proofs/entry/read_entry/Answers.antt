use Rattle.std.proofs.Common.{refl}
use Rattle.std.proofs.lemmas.Result.{err_from_is_err_and}
use Rattle.fleet_wire.specs.Number.{u16_octets}
use Rattle.fleet_observe.specs.Checks.{IsTypeOf}
use Rattle.fleet_gossip.specs.Faults.{name_fails, BodyFails}
use Rattle.fleet_gossip.specs.declared.fault.FrameFault.TheVariants.{BadKind}
use Rattle.fleet_gossip.proofs.Fields.{field_fault}
use Rattle.fleet_gossip.proofs.Heads.{behind_head, type_fails, body_fails, fact_read, fact_whole, kind_read, entry_read}
use Rattle.fleet_gossip.proofs.entry.read_entry.Goals as goal

pub returns-in_err-name : goal.returns-in_err-name
returns-in_err-name c =
    let r = c.from_residual-in_err-name in let p = err_from_is_err_and r.result r.ensures.1 in
    rw (p.1, p.2) (behind_head _ _ _ _ _ c.in_ok-head.ensures (name_fails c.in_err-name.ensures))

pub returns-in_err-rtype : goal.returns-in_err-rtype
returns-in_err-rtype c =
    let r = c.from_residual-in_err-rtype in let p = err_from_is_err_and r.result r.ensures.1 in
    let at = c.in_ok-name.ensures in let k = c.in_ok-head.head.kind in
    rw (p.1, p.2) (type_fails _ _ _ _ _ _ c.in_ok-head.ensures at _
    (field_fault u16_octets 2 (IsTypeOf k) BadKind (BodyFails k at.lawful.name) _ _
    c.in_err-rtype.ensures))

pub returns-in_err-body : goal.returns-in_err-body
returns-in_err-body c =
    let r = c.from_residual-in_err-body in let p = err_from_is_err_and r.result r.ensures.1 in
    let at = c.in_ok-name.ensures in
    rw (p.1, p.2) (body_fails _ _ _ _ _ _ c.in_ok-head.ensures at _ _ c.in_ok-rtype.ensures _
    (c.in_err-body.ensures at.lawful.name at.lawful.named at.lawful.whole))

pub returns : goal.returns
returns c =
    let head = c.in_ok-head.ensures in let at = c.in_ok-name.ensures in let t =
    c.in_ok-rtype.ensures in
    let b = c.in_ok-body.ensures at.lawful.name at.lawful.named at.lawful.whole in (
      fact_read _ _ _ _ _ _ head at _ _ t _ _ b,
      entry_read _ _ _ _ _ _ head at _ _ t _ _ b c.in_ok-name.name c.in_ok-body.body refl refl,
      kind_read _ _ _ _ _ _ head at _ _ t _ _ b,
      fact_whole _ _ _ _ _ _ head at _ _ t _ _ b,
    )
