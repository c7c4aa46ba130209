use Rattle.std.proofs.Common.{◌++◌, ◌∷◌, [], arith, sym}
use Rattle.std.proofs.lemmas.Result.{err_from_is_err_and}
use Rattle.fleet_gossip.specs.Faults.{label_fails}
use Rattle.fleet_name.proofs.Lemmas.{length-wire-push}
use Rattle.fleet_gossip.proofs.NameSteps.{empty_from, some_from, name_ends, name_more, whole_more}
use Rattle.fleet_gossip.proofs.name.name_size.Goals as goal

pub returns-in_err-label : goal.returns-in_err-label
returns-in_err-label c =
    let p = err_from_is_err_and c.from_residual.result c.from_residual.ensures.1 in let i =
    c.loop-label.invariant in
    rw (p.1, p.2) (label_fails i.before c.loop-label.reader i.whole i.named
    (c.in_err-label.ensures i.before (sym i.counted)))

pub returns-then-is_empty : goal.returns-then-is_empty
returns-then-is_empty c =
    let i = c.loop-label.invariant in let at = c.in_ok-label.ensures i.before (sym i.counted) in
    name_ends _ _ _ _ i.before i.whole i.named at (empty_from _ c.if-is_empty.ensures) _ i.counted

pub loop-label-preserved : goal.loop-label-preserved
loop-label-preserved c =
    let i = c.loop-label.invariant in let at = c.in_ok-label.ensures i.before (sym i.counted)
    in let some = some_from _ c.if-is_empty.ensures in
    record {
      before = i.before ++ c.in_ok-label.label.now ∷ [];
      whole = whole_more _ _ _ _ i.before i.whole i.named at some;
      named = name_more _ _ _ _ i.before i.whole i.named at some;
      counted = omega (arith, i.counted, length-wire-push i.before c.in_ok-label.label.now);
    }
