use Rattle.std.proofs.Common.{◌≡◌, ℕ, List, [], ◌++◌, ap, sym, refl, ◌∙◌}
use Rattle.std.proofs.lemmas.List.{append-nil}
use Rattle.fleet_name.specs.Name.{wire}
use Rattle.fleet_observe.specs.Body.{octets_with_length}
use Rattle.fleet_observe.proofs.Lent.{two_same, told_empty, told_false, behind_same}
use Rattle.fleet_observe.proofs.observation.lent.is_negative_body.Goals as goal

pub returns-in_default : goal.returns-in_default
returns-in_default g c = told_false (λ whole. c.in_default.ensures
    (octets_with_length c.args.rdata.now)
    (whole ∙ ap (λ v. v ++ octets_with_length c.args.rdata.now) (sym c.octets.ensures.octets)))

-- the octets begin with the owner
owner_first : (octets owner found rest : List ℕ) → octets ≡ found ++ rest → found ≡ owner
    → octets ≡ owner ++ rest
owner_first octets owner found rest e same = e ∙ ap (λ (v : List ℕ). v ++ rest) same

pub returns-in_default-behind_sized : goal.returns-in_default-behind_sized
returns-in_default-behind_sized g c =
    let first = owner_first c.args.octets.now (wire c.args.owner.now) c.octets.result.now
    c.in-Some.rest.now c.in-Some.ensures c.octets.ensures.octets in
    let same = behind_same c.args.octets.now (wire c.args.owner.now) c.in-Some.rest.now
    (octets_with_length c.args.rdata.now) first in
    told_false (λ whole. c.in_default-behind_sized.ensures []
    (same.0 whole ∙ sym (append-nil (octets_with_length c.args.rdata.now))))

pub returns : goal.returns
returns g c =
    let first = owner_first c.args.octets.now (wire c.args.owner.now) c.octets.result.now
    c.in-Some.rest.now c.in-Some.ensures c.octets.ensures.octets in
    told_empty c.in-Some-behind_sized.left.now [] c.is_empty.result c.is_empty.ensures refl
    (two_same c.args.octets.now (wire c.args.owner.now) (octets_with_length c.args.rdata.now)
    c.in-Some.rest.now c.in-Some-behind_sized.left.now first c.in-Some-behind_sized.ensures)
