use Rattle.std.proofs.Common.{◌≡◌, ◌+◌, ◌≤◌, ◌++◌, ◌∷◌, [], length, refl, arith, length-append}
use Rattle.std.proofs.lemmas.Result.{err_from_is_err_and}
use Rattle.std.specs.List.{flat_map}
use Rattle.fleet_name.specs.declared.bounds.TheConstants.{LONGEST_NAME}
use Rattle.fleet_name.specs.Name.{label_octets, lower_all}
use Rattle.fleet_wire.specs.Fault.{here}
use Rattle.fleet_name.proofs.Lemmas.{named_root}
use Rattle.fleet_wire.proofs.Readings.{read_whole, more_octets, more_named, reads_more, fails_more, reads_on, fails_on}
use Rattle.fleet_wire.proofs.name_reader.name_end.Goals as goal

pub loop-label-init : goal.loop-label-init
loop-label-init c = record {
  before = [];
  counted = refl;
  named = named_root;
  room = omega arith;
  reads = λ n e r. r;
  fails = λ f h. h;
}

pub returns-in_err-name_part_at-clause-fault : goal.returns-in_err-name_part_at-clause-fault
returns-in_err-name_part_at-clause-fault c =
    let r = c.from_residual in let p = err_from_is_err_and r.result r.ensures.1 in
    let i = c.loop-label.invariant in
    rw (p.1, p.2) (i.fails _ (here (rw i.counted at c.in_err-name_part_at.ensures)))

pub returns-in-End-clause-found : goal.returns-in-End-clause-found
returns-in-End-clause-found c =
    let l = c.loop-label in let i = l.invariant in
    let items = flat_map label_octets i.before in (
      lower_all i.before,
      record {
        spelled = i.before;
        name_at =
            rw c.unwrap_or.ensures
            (read_whole c.args.message.now c.args.offset i.before items l.at l.start l.past refl
            i.named i.reads i.fails (rw c.in-End.is at c.in_ok-name_part_at.ensures));
        lowered = refl;
        named = i.named;
      },
    )

pub loop-label-preserved-in-Label : goal.loop-label-preserved-in-Label
loop-label-preserved-in-Label c =
    let m = c.args.message.now in
    let p = c.args.offset in
    let l = c.loop-label in
    let i = l.invariant in
    let h = rw c.in-Label.is at c.in_ok-name_part_at.ensures in
    let label = c.in-Label.label.now in
    let items = flat_map label_octets i.before in
    let new = items ++ label_octets label in
    let room : length items + 1 + length label + 1 ≤ LONGEST_NAME = rw i.counted at h.1 in
    let whole : new ≡ flat_map label_octets (i.before ++ label ∷ []) =
    more_octets m p i.before items l.at l.start l.past refl i.named i.reads i.fails label new h.0
    refl room in
    record {
      before = i.before ++ label ∷ [];
      counted =
          rw (← whole, length-append items (label_octets label)) (omega (arith, i.counted));
      named =
          more_named m p i.before items l.at l.start l.past refl i.named i.reads i.fails label new
          h.0 refl room;
      room = omega (arith, room, i.counted);
      reads =
          reads_more m p i.before items l.at l.start l.past refl i.named i.reads i.fails label new
          h.0 refl room;
      fails =
          λ f x. fails_more m p i.before items l.at l.start l.past refl i.named i.reads i.fails
          label new h.0 refl room f (rw (← whole) at x);
    }

pub loop-label-preserved : goal.loop-label-preserved
loop-label-preserved c =
    let m = c.args.message.now in
    let p = c.args.offset in
    let l = c.loop-label in
    let i = l.invariant in
    let items = flat_map label_octets i.before in
    let h = rw c.in-Pointer.is at c.in_ok-name_part_at.ensures in
    record {
      before = i.before;
      counted = i.counted;
      named = i.named;
      room = i.room;
      reads =
          rw c.unwrap_or-in-Pointer.ensures
          (reads_on m p i.before items l.at l.start l.past refl i.named i.reads i.fails _ h.0 h.1);
      fails = fails_on m p i.before items l.at l.start l.past refl i.named i.reads i.fails _ h.0 h.1;
    }
