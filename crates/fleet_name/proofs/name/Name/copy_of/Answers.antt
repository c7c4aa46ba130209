use Rattle.std.proofs.Common.{◌∙◌, ap, sym}
use Rattle.fleet_name.specs.Name.{wire, labels_of}
use Rattle.fleet_name.proofs.Whole.{whole_is, whole_named, whole_counted}
use Rattle.fleet_name.proofs.name.Name.copy_of.Goals as goal

pub invariant_of-result : goal.invariant_of-result
invariant_of-result g c =
    let e = c.in_ok-octets.ensures.items in
    rw e (record {
      whole = whole_is _ _ c.in-Some.ensures;
      counted = whole_counted _ _ c.in-Some.ensures;
      lawful = whole_named _ _ c.in-Some.ensures;
    })

pub returns : goal.returns
returns g c =
    let e = c.in_ok-octets.ensures.items in
    ap (λ x. wire (labels_of x)) e ∙ sym (whole_is _ _ c.in-Some.ensures)
