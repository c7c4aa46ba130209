use Rattle.std.proofs.Common.{[], refl}
use Rattle.fleet_name.proofs.Lemmas.{labels_of-spelled, named_root}
use Rattle.fleet_name.proofs.Spelling.{spells}
use Rattle.fleet_name.proofs.name.Name.root.Goals as goal

pub invariant_of-result : goal.invariant_of-result
invariant_of-result g c =
    spells _ _ [] named_root
    (rw c.push_reserved.ensures.items (rw c.in_ok-octets.ensures.items refl)) refl

pub returns : goal.returns
returns g c =
    labels_of-spelled _ [] tt
    (rw c.push_reserved.ensures.items (rw c.in_ok-octets.ensures.items refl))
