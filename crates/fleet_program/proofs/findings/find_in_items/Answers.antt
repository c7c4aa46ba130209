use Rattle.std.proofs.Common.{ap, ◌∙◌, sym, subst}
use Rattle.fleet_program.specs.Findings.{AddsSome, faults_of}
use Rattle.fleet_program.proofs.ListedFaults.{one_more, some_more}
use Rattle.fleet_program.proofs.findings.find_in_items.Goals as goal
use Rattle.fleet_program.proofs.findings.find_in_items.Goals.{then-eq+in_ok-push, else-eq}

pub loop-at-preserved : goal.loop-at-preserved
loop-at-preserved c = elim c.if-eq.branch [
  | then-eq+in_ok-push w ↦
      some_more c.args.fault (faults_of c.args.findings.now.items)
      (faults_of c.loop-at.findings.items) (faults_of c.if-eq.findings.items) c.loop-at.invariant
      (ap (λ v. faults_of v.items) w.findings-is ∙ one_more _ _ _ w.in_ok-push.ensures.items)
  | else-eq w ↦
      subst (λ v. AddsSome c.args.fault (faults_of c.args.findings.now.items) (faults_of v.items))
      (sym w.findings-is) c.loop-at.invariant
]
