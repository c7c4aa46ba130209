use Rattle.std.proofs.Common.{◌≡◌, ◌+◌, ◌≤◌, ◌∷◌, [], ◌++◌, length, drop, None, refl, sym, ap, ◌∙◌, arith, length-append}
use Rattle.std.specs.List.{flat_map}
use Rattle.fleet_name.specs.declared.bounds.TheConstants.{LONGEST_NAME}
use Rattle.fleet_name.specs.Name.{label_octets}
use Rattle.fleet_name.proofs.Lemmas.{named_root, count_le}
use Rattle.fleet_wire.proofs.PlainNames.{behind_label, up_to_zero}
use Rattle.fleet_wire.proofs.Readings.{read_whole, labels_read, spelling_read, more_octets, more_named, reads_more, fails_more, octets_fit}
use Rattle.fleet_wire.proofs.piece.run_at.Goals as goal

pub loop-label-init : goal.loop-label-init
loop-label-init c = record {
  before = [];
  whole = refl;
  size = omega arith;
  counted = refl;
  named = named_root;
  reads = λ n e r. r;
  fails = λ f h. h;
}

pub overflow_sub-at : goal.overflow_sub-at
overflow_sub-at c = omega (arith, c.loop-label.invariant.size)

pub overflow_add-at : goal.overflow_add-at
overflow_add-at c =
    let i = c.loop-label.invariant in omega (arith, i.size, octets_fit i.before i.named)

pub name_part_at-requires : goal.name_part_at-requires
name_part_at-requires c =
    let i = c.loop-label.invariant in omega (arith, i.size, octets_fit i.before i.named)

pub slice_bounds-result-count : goal.slice_bounds-result-count
slice_bounds-result-count c = omega (arith, c.loop-label.invariant.size)

pub slice_bounds-result-start : goal.slice_bounds-result-start
slice_bounds-result-start c =
    let ended = rw c.in-Ok-End.field-0-is at c.in-Ok-End.ensures in omega (arith, ended.begins)

pub returns-in-Ok-End-clause-found : goal.returns-in-Ok-End-clause-found
returns-in-Ok-End-clause-found c =
    let m = c.args.message.now in
    let s = c.args.start in
    let l = c.loop-label in
    let i = l.invariant in
    let items = flat_map label_octets i.before in
    let ended = rw c.in-Ok-End.field-0-is at c.in-Ok-End.ensures in
    let whole = up_to_zero m (drop s m) l.at i.before i.whole s refl i.size ended in
    rw (labels_read i.before items _ refl i.named whole)
    (read_whole m s i.before items l.at s None refl i.named i.reads i.fails ended)

pub returns-in-Ok-End-clause-spelled : goal.returns-in-Ok-End-clause-spelled
returns-in-Ok-End-clause-spelled c =
    let m = c.args.message.now in
    let s = c.args.start in
    let l = c.loop-label in
    let i = l.invariant in
    let ended = rw c.in-Ok-End.field-0-is at c.in-Ok-End.ensures in
    spelling_read i.before (flat_map label_octets i.before) _ refl i.named
    (up_to_zero m (drop s m) l.at i.before i.whole s refl i.size ended)

pub returns-in-Ok-End-clause-counted : goal.returns-in-Ok-End-clause-counted
returns-in-Ok-End-clause-counted c =
    let m = c.args.message.now in
    let s = c.args.start in
    let l = c.loop-label in
    let i = l.invariant in
    let ended = rw c.in-Ok-End.field-0-is at c.in-Ok-End.ensures in
    i.counted ∙ ap length
    (sym (labels_read i.before (flat_map label_octets i.before) _ refl i.named
    (up_to_zero m (drop s m) l.at i.before i.whole s refl i.size ended)))

pub overflow_add-labels : goal.overflow_add-labels
overflow_add-labels c =
    let i = c.loop-label.invariant in
    omega (arith, count_le i.before, i.counted, octets_fit i.before i.named)

pub loop-label-smaller : goal.loop-label-smaller
loop-label-smaller c =
    let h = rw (c.in-Ok-Label.field-0-is, c.in-Ok-Label.label-is) at c.in-Ok-Label.ensures in
    omega (arith, h.0.within)

pub loop-label-preserved : goal.loop-label-preserved
loop-label-preserved c =
    let m = c.args.message.now in
    let s = c.args.start in
    let l = c.loop-label in
    let i = l.invariant in
    let h = rw (c.in-Ok-Label.field-0-is, c.in-Ok-Label.label-is) at c.in-Ok-Label.ensures in
    let label = c.in-Ok-Label.label.now in
    let items = flat_map label_octets i.before in
    let new = items ++ label_octets label in
    let room : length items + 1 + length label + 1 ≤ LONGEST_NAME = omega (arith, h.1, i.size) in
    let whole : new ≡ flat_map label_octets (i.before ++ label ∷ []) =
    more_octets m s i.before items l.at s None refl i.named i.reads i.fails label new h.0 refl
    room in
    record {
      before = i.before ++ label ∷ [];
      whole = behind_label m (drop s m) l.at i.before i.whole label h.0;
      size =
          rw (← whole, length-append items (label_octets label)) (omega (arith, i.size));
      counted = rw length-append (omega (arith, i.counted));
      named =
          more_named m s i.before items l.at s None refl i.named i.reads i.fails label new h.0 refl
          room;
      reads =
          reads_more m s i.before items l.at s None refl i.named i.reads i.fails label new h.0 refl
          room;
      fails =
          λ f x. fails_more m s i.before items l.at s None refl i.named i.reads i.fails label new
          h.0 refl room f (rw (← whole) at x);
    }
