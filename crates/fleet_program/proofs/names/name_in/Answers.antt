use Rattle.std.proofs.Common.{◌≡◌, [], sym, ◌∙◌, arith, rules}
use Rattle.std.proofs.lemmas.Bool.Decides.{nat_tests}
use Rattle.std.proofs.lemmas.List.{take_rest, nil_from_length}
use Rattle.fleet_program.proofs.NameIn.{read_nothing, read_dot, read_octet, spells_ended, spells_open_ended}
use Rattle.fleet_program.proofs.names.name_in.Goals as goal
use Rattle.fleet_program.proofs.names.name_in.Goals.{then-is_empty, else-is_empty+in_ok-is_name, then-is_name, else-is_name}

pub loop-rest-init : goal.loop-rest-init
loop-rest-init g c =
    read_nothing _ _ _ _ c.as_bytes-rest.ensures.value c.new-label.ensures c.in_ok-name.ensures

pub loop-rest-preserved-then-rest-eq46 : goal.loop-rest-preserved-then-rest-eq46
loop-rest-preserved-then-rest-eq46 g c =
    let rest = c.loop-rest.rest.now in
    let label = c.as_slice.ensures.value in
    let added = c.in_ok-push.ensures c.if-not-branch.false in
    read_dot _ rest _ _ _ _ _ c.loop-rest.invariant
    (grind (arith, nat_tests, c.is_empty.ensures, c.loop-rest-test.true)) c.if-rest-eq46.true
    (take_rest rest 1) (rw label at added.0) c.clear.ensures (rw label at added.1)

pub loop-rest-preserved : goal.loop-rest-preserved
loop-rest-preserved g c =
    read_octet _ _ _ _ _ _ _ c.loop-rest.invariant c.in-Some.ensures (search rules)

pub returns : goal.returns
returns g c =
    let before = c.loop-rest.invariant in
    let end : c.loop-rest.rest.now ≡ [] =
    nil_from_length _ (grind (arith, nat_tests, c.is_empty.ensures, c.loop-rest-test.false)) in
    elim c.if-is_name.branch [
      | then-is_name w ↦ (rw w.result-is (elim c.if-is_empty.branch [
        | then-is_empty v ↦
            rw v.name-is
            (spells_ended _ _ _ _ before end
            (nil_from_length _ (grind (arith, nat_tests, c.is_empty-2.ensures, v.if-is_empty.true)))
            (grind (arith, nat_tests, v.labels.ensures, v.is_name-is, w.if-is_name.true)))
        | else-is_empty+in_ok-is_name v ↦
            let label = v.as_slice-else-is_empty.ensures.value in
            let added = v.in_ok-is_name.ensures (sym v.is_name-is ∙ w.if-is_name.true) in
            rw v.name-is
            (spells_open_ended _ _ _ _ _ before end (rw label at added.0) (rw label at added.1))
      ]))
      | else-is_name w ↦ rw w.result-is tt
    ]
