use Rattle.fleet_name.specs.Name.{labels_of}
use Rattle.std.proofs.Common.{◌∙◌}
use Rattle.fleet_wire.proofs.Lawful.{spells_name}
use Rattle.fleet_wire.proofs.query.question_of.Goals as goal

pub invariant_of-result : goal.invariant_of-result
invariant_of-result g c =
    let s = c.requires.spelled in
    spells_name _ (labels_of c.args.spelled.now.name.octets.items) _
    (c.in_ok-octets.ensures ∙ (c.as_slice.ensures.value ∙ s.whole)) c.in_ok-name.ensures
    (rw c.in_ok-name.ensures s.lawful)
