use Rattle.std.proofs.Common.{arith}
use Rattle.fleet_name.proofs.Whole.{whole_is, whole_named, whole_counted, no_suffix, suffix}
use Rattle.fleet_name.proofs.name.suffix_in.Goals as goal

pub returns-then-count-labels : goal.returns-then-count-labels
returns-then-count-labels c = no_suffix _ _ c.in_ok-labels.ensures _ c.if-count-labels.true

pub after_labels-requires-clause-spelled : goal.after_labels-requires-clause-spelled
after_labels-requires-clause-spelled c = whole_is _ _ c.in_ok-labels.ensures

pub after_labels-requires-clause-named : goal.after_labels-requires-clause-named
after_labels-requires-clause-named c = whole_named _ _ c.in_ok-labels.ensures

pub after_labels-requires-clause-within : goal.after_labels-requires-clause-within
after_labels-requires-clause-within c =
    let counted = whole_counted _ _ c.in_ok-labels.ensures in omega (arith, counted)

pub returns : goal.returns
returns c = suffix _ _ c.in_ok-labels.ensures _ _ c.if-count-labels.false c.after_labels.ensures
