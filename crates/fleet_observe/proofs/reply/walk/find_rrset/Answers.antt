use Rattle.std.proofs.Common.{◌<◌, ◌∷◌, ◌++◌, [], List, length, take, sym, ◌∙◌, ap, refl, arith, not, ℕ, Option, Some, None, MatchOption, Bor}
use mathlib.Core.Bool.{false≢true}
use Rattle.std.proofs.lemmas.Slice.Eq.{slice_eq-Decides}
use Rattle.std.proofs.lemmas.Bool.Decides.{Decides-eqb}
use Rattle.std.proofs.lemmas.Bool.{not-false}
use Rattle.fleet_name.specs.Name.{labels_of}
use Rattle.fleet_wire.specs.Record.{RecordData}
use Rattle.fleet_observe.specs.RrSet.{IsOfRrSet, InSet, IsEmpty}
use Rattle.std.proofs.lemmas.List.{take_more, take_all}
use Rattle.fleet_observe.proofs.Lists.{has_at}
use Rattle.fleet_observe.proofs.Sections.{IsOne, in_whole, of_whole, one_first, one_same, one_more, empty_more}
use Rattle.fleet_observe.proofs.reply.walk.find_rrset.Goals as goal
use Rattle.fleet_observe.proofs.reply.walk.find_rrset.Goals.{then-is_of_rrset+in-None, then-is_of_rrset+in-Some+else-ne, else-is_of_rrset}

first_kept : (s : List RecordData) (n : List (List ℕ)) (t : ℕ) (r : RecordData)
    (first : Option (Bor RecordData)) → ¬ IsOfRrSet n t r → MatchOption first (IsEmpty s n t)
    (λ x. IsOne s n t x.now)
    → MatchOption first (IsEmpty (s ++ r ∷ []) n t) (λ x. IsOne (s ++ r ∷ []) n t x.now)
first_kept s n t r None out h = empty_more s n t r h out
first_kept s n t r (Some x) out h = one_more s n t r x.now h out

pub returns-then-ne : goal.returns-then-ne
returns-then-ne g c =
    let xs = c.args.section.now in let i = c.loop-record.record-index in
    let item = c.record-item.result in
    let n = labels_of c.args.name.now in let t = c.args.rtype in
    let within : i < length xs = omega arith in
    let b = c.is_of_rrset.ensures.0 c.if-is_of_rrset.true in
    let inv = rw c.in-Some.is at c.loop-record.invariant in
    let held = c.in-Some.held.now in let rdata = λ (r : RecordData). r.rdata in
    let d = slice_eq-Decides Decides-eqb c.as_slice.result.now c.as_slice-in-Some.result.now _
    refl in
    let differ = sym c.ne.ensures ∙ c.if-ne.true in
    let last : InSet xs n t item.rdata = record {
      carrier = item;
      member = has_at xs i item within
          c.record-item.is;
      is_of_rrset = b;
      rdata = refl;
    } in (
      of_whole xs i n t held inv.of_set,
      (
        held.rdata,
        item.rdata,
        in_whole xs i n t _ inv.only.member,
        last,
        λ same. false≢true (ap not
            (sym (d.1 (c.as_slice.ensures
            ∙ (ap rdata c.held.view_is
            ∙ (same ∙ sym (c.as_slice-in-Some.ensures ∙ ap rdata c.record.view_is)))))) ∙ differ),
      ),
    )

pub loop-record-preserved : goal.loop-record-preserved
loop-record-preserved g c =
    let xs = c.args.section.now in let i = c.loop-record.record-index in
    let item = c.record-item.result in
    let within : i < length xs = omega arith in
    let seen = take i xs in let rdata = λ (r : RecordData). r.rdata in
    elim c.if-is_of_rrset.branch [
      | then-is_of_rrset+in-None w ↦
          let inv = rw w.in-None.is at c.loop-record.invariant in
          let b = c.is_of_rrset.ensures.0 w.if-is_of_rrset.true in
          rw (w.first-is, take_more xs i item within, ← c.record-item.is)
          (one_first seen _ _ item inv b)
      | then-is_of_rrset+in-Some+else-ne w ↦
          let inv = rw w.in-Some.is at c.loop-record.invariant in
          let d = slice_eq-Decides Decides-eqb w.as_slice.result.now w.as_slice-in-Some.result.now
          _ refl in
          let same = d.0 (not-false _ (sym w.ne.ensures ∙ w.if-ne.false)) in
          rw (w.first-is, w.in-Some.is, take_more xs i item within, ← c.record-item.is)
          (one_same seen _ _ item _ inv
          (rw (ap rdata w.held.view_is, ap rdata c.record.view_is) at (sym w.as_slice.ensures
          ∙ (same ∙ w.as_slice-in-Some.ensures))))
      | else-is_of_rrset w ↦
          rw (w.first-is, take_more xs i item within, ← c.record-item.is)
          (first_kept seen (labels_of c.args.name.now) c.args.rtype item c.loop-record.first
          (λ b. false≢true (sym w.if-is_of_rrset.false ∙ c.is_of_rrset.ensures.1 b))
          c.loop-record.invariant)
    ]

pub returns-in-None-first : goal.returns-in-None-first
returns-in-None-first g c =
    let inv = rw c.in-None-first.is at c.loop-record.invariant in
    rw (← take_all c.loop-record.record-index c.args.section.now (omega arith)) inv

pub returns-in-Some-first : goal.returns-in-Some-first
returns-in-Some-first g c =
    let inv = rw (
      c.in-Some-first.is,
      take_all c.loop-record.record-index c.args.section.now
          (omega arith),
    ) at c.loop-record.invariant in
    (inv.of_set, inv.only)
