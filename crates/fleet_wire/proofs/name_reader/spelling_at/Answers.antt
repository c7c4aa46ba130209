use Rattle.std.proofs.Common.{◌≡◌, ◌+◌, ◌∙◌, ◌≤◌, ◌++◌, ◌∷◌, [], length, ap, sym, refl, arith, length-append}
use Rattle.std.proofs.lemmas.Result.{err_from_is_err_and}
use Rattle.fleet_name.specs.declared.bounds.TheConstants.{LONGEST_NAME}
use Rattle.fleet_wire.specs.Fault.{here}
use Rattle.fleet_name.proofs.Lemmas.{named_root, count_le}
use Rattle.fleet_wire.proofs.Readings.{read_whole, labels_read, spelling_read, more_octets, more_named, more_room, reads_more, fails_more, reads_on, fails_on}
use Rattle.fleet_wire.proofs.name_reader.spelling_at.Goals as goal

pub loop-octets-init : goal.loop-octets-init
loop-octets-init c =
    let e = c.new-octets.ensures in
    record {
      before = [];
      spelled = e;
      counted = refl;
      named = named_root;
      room = rw e (omega arith);
      reads = λ n e r. r;
      fails = λ f h. rw e at h;
    }

pub returns-in_err-name_part_at-clause-fault : goal.returns-in_err-name_part_at-clause-fault
returns-in_err-name_part_at-clause-fault c =
    let r = c.from_residual in let p = err_from_is_err_and r.result r.ensures.1 in
    let used : c.len.result ≡ length c.loop-octets.octets.items = c.len.ensures.value in
    rw (p.1, p.2) (c.loop-octets.invariant.fails _ (here (rw used at c.in_err-name_part_at.ensures)))

pub returns-in-End-clause-found : goal.returns-in-End-clause-found
returns-in-End-clause-found c =
    let l = c.loop-octets in let i = l.invariant in
    rw (
      c.unwrap_or.ensures,
      labels_read i.before l.octets.items _ i.spelled i.named c.push.ensures.items,
    )
    (read_whole c.args.message.now c.args.offset i.before l.octets.items l.at l.start l.end
    i.spelled i.named i.reads i.fails (rw c.in-End.is at c.in_ok-name_part_at.ensures))

pub returns-in-End-clause-spelled : goal.returns-in-End-clause-spelled
returns-in-End-clause-spelled c =
    let l = c.loop-octets in let i = l.invariant in
    spelling_read i.before l.octets.items _ i.spelled i.named c.push.ensures.items

pub returns-in-End-clause-counted : goal.returns-in-End-clause-counted
returns-in-End-clause-counted c =
    let l = c.loop-octets in let i = l.invariant in
    i.counted ∙ ap length
    (sym (labels_read i.before l.octets.items _ i.spelled i.named c.push.ensures.items))

pub overflow_add-labels : goal.overflow_add-labels
overflow_add-labels c =
    let i = c.loop-octets.invariant in
    omega (arith, count_le i.before, ap length i.spelled, i.counted, i.room)

pub loop-octets-preserved-in-Label : goal.loop-octets-preserved-in-Label
loop-octets-preserved-in-Label c =
    let l = c.loop-octets in
    let i = l.invariant in
    let h = rw c.in-Label.is at c.in_ok-name_part_at.ensures in
    let used : c.len.result ≡ length l.octets.items = c.len.ensures.value in
    let room : length l.octets.items + 1 + length c.in-Label.label.now + 1 ≤ LONGEST_NAME = rw used at h.1 in
    let label = c.in-Label.label.now in
    let new = c.append_label.new.octets.items in
    let e = c.append_label.ensures in
    record {
      before = i.before ++ label ∷ [];
      spelled =
          more_octets c.args.message.now c.args.offset i.before l.octets.items l.at l.start l.end
          i.spelled i.named i.reads i.fails label new h.0 e room;
      counted = rw length-append (omega (arith, i.counted));
      named =
          more_named c.args.message.now c.args.offset i.before l.octets.items l.at l.start l.end
          i.spelled i.named i.reads i.fails label new h.0 e room;
      room =
          more_room c.args.message.now c.args.offset i.before l.octets.items l.at l.start l.end
          i.spelled i.named i.reads i.fails label new h.0 e room;
      reads =
          reads_more c.args.message.now c.args.offset i.before l.octets.items l.at l.start l.end
          i.spelled i.named i.reads i.fails label new h.0 e room;
      fails =
          fails_more c.args.message.now c.args.offset i.before l.octets.items l.at l.start l.end
          i.spelled i.named i.reads i.fails label new h.0 e room;
    }

pub loop-octets-preserved : goal.loop-octets-preserved
loop-octets-preserved c =
    let l = c.loop-octets in
    let i = l.invariant in
    let h = rw c.in-Pointer.is at c.in_ok-name_part_at.ensures in
    record {
      before = i.before;
      spelled = i.spelled;
      counted = i.counted;
      named = i.named;
      room = i.room;
      reads =
          rw c.unwrap_or-in-Pointer.ensures
          (reads_on c.args.message.now c.args.offset i.before l.octets.items l.at l.start l.end
          i.spelled i.named i.reads i.fails _ h.0 h.1);
      fails =
          fails_on c.args.message.now c.args.offset i.before l.octets.items l.at l.start l.end
          i.spelled i.named i.reads i.fails _ h.0 h.1;
    }
