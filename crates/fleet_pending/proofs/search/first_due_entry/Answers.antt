use Rattle.std.proofs.Common.{◌≡◌, true, false, arith, subst, sym, ◌∙◌, ◌+◌, ◌≤◌, length}
use Rattle.fleet_pending.proofs.FirstDue.{FirstTo, first_all, first_new_is, first_kept, kept_first}
use Rattle.fleet_name.proofs.Lemmas.{at_read}
use Rattle.fleet_pending.proofs.search.first_due_entry.Goals as goal
use Rattle.fleet_pending.proofs.search.first_due_entry.Goals.{then-replaces, else-replaces}

pub loop-entry-preserved : goal.loop-entry-preserved
loop-entry-preserved g c =
    let es = c.args.entries.now in
    let now = c.args.now in
    let n = c.loop-entry.entry-index in
    let e = c.entry-item.result in
    let first = c.loop-entry.first in
    let there = at_read es n e c.loop-entry-test.true c.entry-item.is in
    let before = c.loop-entry.invariant in
    elim c.if-replaces.branch [
      | then-replaces w ↦
          let y = c.replaces.ensures.0 w.if-replaces.true in
          first_new_is es now n first _ _ w.first-is there before y.0 y.1
      | else-replaces w ↦
          let stays = kept_first now first e
          (λ p. let z : false ≡ true = sym w.if-replaces.false ∙ c.replaces.ensures.1 p in
          cc) in
          subst (FirstTo es now (n + 1)) (sym w.first-is)
          (first_kept es now n first e there before stays)
    ]

pub returns : goal.returns
returns g c =
    let l : length c.args.entries.now ≤ c.loop-entry.entry-index = omega arith in
    first_all c.args.entries.now c.args.now c.loop-entry.entry-index c.loop-entry.first l
    c.loop-entry.invariant
