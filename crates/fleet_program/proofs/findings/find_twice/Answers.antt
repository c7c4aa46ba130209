use Rattle.std.proofs.Common.{◌≡◌, ◌≢◌, [], take, get_or, inl, inr, ap, ◌∙◌, rules, tests, arith}
use Rattle.std.proofs.lemmas.Iterator.{YieldsList-from_slice, cases_from_any}
use Rattle.std.proofs.lemmas.List.{length-map}
use Rattle.fleet_pending.specs.declared.addr.Addr.{Addr}
use Rattle.fleet_program.specs.Findings.{faults_of, addrs_of}
use Rattle.fleet_program.specs.declared.findings.Stated.{Stated}
use Rattle.fleet_program.proofs.ListedFaults.{adds_as, one_more}
use Rattle.fleet_program.proofs.FindTwice.{if_none_repeats_on, none_repeats}
use Rattle.fleet_program.proofs.findings.find_twice.Goals as goal
use Rattle.fleet_program.proofs.findings.find_twice.Goals.{then-any+in_ok-push, else-any}

pub loop-at-preserved : goal.loop-at-preserved
loop-at-preserved c =
    let xs = c.args.stated.now in
    let d : Stated = record {
      key = record { ref_ptr = (0, 0); now = [] };
      place = 0;
      addr = record { host = 0; port = 0 };
    } in
    let repeated : Stated = get_or xs c.loop-at.at d in
    if_none_repeats_on xs c.loop-at.at d c.any.result (faults_of c.args.findings.now.items)
    (faults_of c.loop-at.findings.items) (faults_of c.if-any.findings.items) c.loop-at-test.true
    (cases_from_any _ _ _ (λ (b : Stated). b.addr ≡ repeated.addr)
    (λ (b : Stated). b.addr ≢ repeated.addr) c.any.ensures.ran
    (YieldsList-from_slice (take c.loop-at.at xs) cc) (λ x q k. search (rules, tests))
    (λ x q k. search (rules, tests)))
    c.loop-at.invariant (elim c.if-any.branch [
      | then-any+in_ok-push w ↦ inl (
        w.if-any.true,
        ap (λ v. faults_of v.items) w.findings-is ∙ one_more _ _ _ w.in_ok-push.ensures.items,
      )
      | else-any w ↦ inr (w.if-any.false, ap (λ v. faults_of v.items) w.findings-is)
    ])

pub returns : goal.returns
returns c =
    adds_as _ _ _ _ _
    (none_repeats (addrs_of c.args.stated.now) c.loop-at.at
    (omega (arith, length-map {A = Stated} {B = Addr})))
    c.loop-at.invariant
