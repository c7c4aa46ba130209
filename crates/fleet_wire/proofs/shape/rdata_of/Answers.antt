use Rattle.std.proofs.Common.{◌≡◌, ◌∙◌, ℕ, List, sym, subst}
use Rattle.std.proofs.lemmas.Result.{IfOk-weaker}
use Rattle.fleet_wire.specs.Shape.{shape_of, ShapeAt}
use Rattle.fleet_wire.proofs.Parts.{one_parts, parts_or_fault}
use Rattle.fleet_wire.proofs.shape.rdata_of.Goals as goal

pub unreachable-requires : goal.unreachable-requires
unreachable-requires g c =
    let lies = rw c.in-Some.ensures.parts at c.requires.found.1 in
    parts_or_fault _ _ _ _ _ _ lies c.in_default-parts_at.ensures.fault

pub returns : goal.returns
returns g c =
    let m = c.args.message.now in
    let found = c.requires.found in
    let lies = rw c.in-Some.ensures.parts at found.1 in
    let is : c.in-Ok.octets.items ≡ found.0 =
    (one_parts _ _ _ _ _ _ _ c.in-Ok.ensures.found lies).0 in
    IfOk-weaker _ (λ o. o ≡ c.as_slice.result.now)
    (λ r. ShapeAt m c.args.at c.args.count (shape_of c.args.rtype) r)
    (λ r e. subst (λ (x : List ℕ). ShapeAt m c.args.at c.args.count (shape_of c.args.rtype) x)
    (sym (e ∙ (c.as_slice.ensures.value ∙ is))) found.1) c.copy_of-2.ensures
