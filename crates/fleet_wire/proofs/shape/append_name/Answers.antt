use Rattle.std.proofs.Common.{◌++◌, ◌∙◌, List, ℕ, ap, refl}
use Rattle.fleet_name.specs.Name.{labels_of, lower, lower_all}
use Rattle.fleet_wire.proofs.Lawful.{spells_name}
use Rattle.fleet_wire.proofs.shape.append_name.Goals as goal

pub returns-clause-found : goal.returns-clause-found
returns-clause-found c =
    let s = c.in_ok-spelled.ensures in let octets = c.in_ok-spelled.spelled.octets.items in
    let lowered =
    ap lower c.as_slice.ensures.value
    ∙ spells_name octets (labels_of octets) (lower_all (labels_of octets)) s.spelled.whole refl
    s.spelled.lawful in (
      lower_all (labels_of octets),
      record {
        spelled = labels_of octets;
        name_at = s.found;
        lowered = refl;
        named =
            s.spelled.lawful;
      },
      c.append_lower.ensures ∙ ap (λ (x : List ℕ). c.args.out.now.items ++ x) lowered,
    )
