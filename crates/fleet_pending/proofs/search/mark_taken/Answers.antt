use Rattle.std.proofs.Common.{◌≡◌, ℕ, ◌+◌, ◌-◌, ◌%◌, ◌≤◌, length, ap, subst, sym, arith}
use Rattle.fleet_pending.specs.PendingData.{EntryData}
use Rattle.fleet_pending.proofs.FreeId.{AreTakenTo, taken_none, taken_more, taken_beyond, taken_all}
use Rattle.fleet_name.proofs.Lemmas.{at_read}
use Rattle.fleet_pending.proofs.search.mark_taken.Goals as goal
use Rattle.fleet_pending.proofs.search.mark_taken.Goals.{then-passed-lt256, else-passed-lt256}

pub loop-entry-init : goal.loop-entry-init
loop-entry-init g c = taken_none c.args.word c.args.entries.now

pub loop-entry-preserved : goal.loop-entry-preserved
loop-entry-preserved g c =
    let es = c.args.entries.now in
    let n = c.loop-entry.entry-index in
    let e = c.entry-item.result in
    let taken = c.loop-entry.taken in
    let there = at_read es n e c.loop-entry-test.true c.entry-item.is in
    let same : c.entry.inside.id ≡ e.id = ap {B = ℕ} (λ (x : EntryData). x.id) c.entry.view_is in
    let passed : ℕ = (c.entry.inside.id + (65536 - c.args.word)) % 65536 in
    let is : (passed + c.args.word) % 65536 ≡ e.id = omega (arith, same) in
    let before = c.loop-entry.invariant in
    elim c.if-passed-lt256.branch [
      | then-passed-lt256 w ↦
          subst (AreTakenTo c.args.word es (n + 1)) (sym w.taken-is)
          (taken_more c.args.word es n passed taken e there is w.if-passed-lt256.true before)
      | else-passed-lt256 w ↦
          subst (AreTakenTo c.args.word es (n + 1)) (sym w.taken-is)
          (taken_beyond c.args.word es n passed taken e there is w.if-passed-lt256.false
          (omega arith) before)
    ]

pub returns : goal.returns
returns g c =
    let l : length c.args.entries.now ≤ c.loop-entry.entry-index = omega arith in
    taken_all c.args.word c.args.entries.now c.loop-entry.entry-index c.loop-entry.taken l
    c.loop-entry.invariant
