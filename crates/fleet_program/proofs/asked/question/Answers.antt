use Rattle.std.proofs.Common.{◌≡◌, sym, ap, ◌∙◌, subst}
use Rattle.std.specs.List.{AllByRecursion}
use Rattle.fleet_name.specs.Types.{Labels}
use Rattle.fleet_name.specs.Name.{IsLabel, IsName, lower, wire}
use Rattle.fleet_name.proofs.Lemmas.{any_case-from_lower, lower-wire, lower_all-same}
use Rattle.fleet_program.proofs.asked.question.Goals as goal

-- the octets of a name are in lower case
own_lower : (name : Labels) → IsName name → lower (wire name) ≡ wire name
own_lower name is =
    let same = lower_all-same name is.labels in
    lower-wire name (any_case-from_lower name (subst (AllByRecursion IsLabel) (sym same) is.labels))
    ∙ ap wire same

pub invariant_of-asked : goal.invariant_of-asked
invariant_of-asked c =
    ap lower (c.in_ok-copy_of.ensures ∙ c.octets.ensures.octets)
    ∙ own_lower _ c.octets.ensures.named ∙ ap wire (sym c.in_ok-try_clone.ensures)
