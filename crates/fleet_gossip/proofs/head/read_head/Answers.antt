use Rattle.std.proofs.lemmas.Result.{err_from_is_err_and}
use Rattle.fleet_wire.specs.Number.{u32_octets}
use Rattle.fleet_observe.specs.Checks.{IsRankOf, IsLifeOf}
use Rattle.fleet_gossip.specs.Entry.{octet, u64_octets, IsKindNumber, IsMoment}
use Rattle.fleet_gossip.specs.declared.fault.FrameFault.TheVariants.{BadKind, BadRank, BadMoment, BadLife}
use Rattle.fleet_gossip.proofs.EntryLines.{NamedFails, LifeFails, StampFails, KindFails}
use Rattle.fleet_gossip.proofs.Fields.{field_fault}
use Rattle.fleet_gossip.proofs.Heads.{behind_kind, behind_rank, behind_stamp}
use Rattle.fleet_gossip.proofs.head.read_head.Goals as goal

pub returns-in_err-kind : goal.returns-in_err-kind
returns-in_err-kind c =
    let p = err_from_is_err_and c.from_residual.result c.from_residual.ensures.1 in
    rw (p.1, p.2) (field_fault octet 1 (IsKindNumber c.args.version) BadKind KindFails _ _
    c.in_err-kind.ensures)

pub returns-in_err-rank : goal.returns-in_err-rank
returns-in_err-rank c =
    let r = c.from_residual-in_err-rank in let p = err_from_is_err_and r.result r.ensures.1
    in let k = c.in_ok-kind.kind in
    rw (p.1, p.2) (behind_kind _ _ _ c.args.version k c.in_ok-kind.ensures
    (field_fault octet 1 (IsRankOf k) BadRank (λ rank. StampFails k) _ _ c.in_err-rank.ensures))

pub returns-in_err-stamp : goal.returns-in_err-stamp
returns-in_err-stamp c =
    let r = c.from_residual-in_err-stamp in let p = err_from_is_err_and r.result r.ensures.1
    in let k = c.in_ok-kind.kind in
    rw (p.1, p.2) (behind_kind _ _ _ c.args.version k c.in_ok-kind.ensures
    (behind_rank _ _ _ k _ c.in_ok-rank.ensures
    (field_fault u64_octets 8 IsMoment BadMoment (λ stamp. LifeFails k) _ _
    c.in_err-stamp.ensures)))

pub returns-in_err-life : goal.returns-in_err-life
returns-in_err-life c =
    let r = c.from_residual-in_err-life in let p = err_from_is_err_and r.result r.ensures.1
    in let k = c.in_ok-kind.kind in
    rw (p.1, p.2) (behind_kind _ _ _ c.args.version k c.in_ok-kind.ensures
    (behind_rank _ _ _ k _ c.in_ok-rank.ensures
    (behind_stamp _ _ _ k _ c.in_ok-stamp.ensures
    (field_fault u32_octets 4 (IsLifeOf k) BadLife (λ life. NamedFails k) _ _
    c.in_err-life.ensures))))
