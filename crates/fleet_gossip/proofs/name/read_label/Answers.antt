use mathlib.Core.Bool.{false≢true}
use Rattle.std.proofs.Common.{inl, inr, arith}
use Rattle.std.proofs.lemmas.Result.{err_from_is_err_and}
use Rattle.fleet_gossip.proofs.NameSteps.{label_long, has_room, label_cut, label_capital}
use Rattle.fleet_gossip.proofs.name.read_label.Goals as goal
use Rattle.fleet_gossip.proofs.name.read_label.Goals.{then-size-gt-LONGEST_LABEL-via-then-size-gt-LONGEST_LABEL, then-size-gt-LONGEST_LABEL-via-else-size-gt-LONGEST_LABEL+then-used-size-gt-LONGEST_NAME}

pub returns-then-size-gt-LONGEST_LABEL : goal.returns-then-size-gt-LONGEST_LABEL
returns-then-size-gt-LONGEST_LABEL c before e =
    label_long c.args.refusal before _ _ c.in_ok-read_u8.field-0 c.from-size.result
    c.in_ok-read_u8.ensures c.from-size.ensures c.if-size-eq0.false
    (elim c.then-size-gt-LONGEST_LABEL.branch [
      | then-size-gt-LONGEST_LABEL-via-then-size-gt-LONGEST_LABEL w ↦ inl (omega arith)
      | then-size-gt-LONGEST_LABEL-via-else-size-gt-LONGEST_LABEL+then-used-size-gt-LONGEST_NAME w ↦
          inr (omega (arith, e))
    ])

pub returns-in_err-label : goal.returns-in_err-label
returns-in_err-label c before e =
    let r = c.from_residual-in_err-label in let p = err_from_is_err_and r.result r.ensures.1 in
    let room = has_room c.args.refusal before _ _ c.in_ok-read_u8.field-0 c.from-size.result
    c.in_ok-read_u8.ensures c.from-size.ensures c.if-size-eq0.false (omega arith) (omega (arith, e))
    in
    rw (p.1, p.2) (label_cut c.args.refusal before _ _ c.in_ok-read_u8.field-0 c.from-size.result
    c.in_ok-read_u8.ensures c.from-size.ensures c.if-size-eq0.false _ room
    c.in_err-label.ensures)

pub returns-then-not-is_lower : goal.returns-then-not-is_lower
returns-then-not-is_lower c before e =
    let room = has_room c.args.refusal before _ _ c.in_ok-read_u8.field-0 c.from-size.result
    c.in_ok-read_u8.ensures c.from-size.ensures c.if-size-eq0.false (omega arith) (omega (arith, e))
    in
    label_capital c.args.refusal before _ _ c.in_ok-read_u8.field-0 c.from-size.result
    c.in_ok-read_u8.ensures c.from-size.ensures c.if-size-eq0.false _ _ c.in_ok-label.ensures
    room (λ l. false≢true (rw c.if-not-is_lower.true at (c.is_lower.ensures.1 l)))
