use Rattle.std.proofs.Common.{sym, ap, ◌∙◌}
use Rattle.std.specs.Ordering.{ordering_then}
use Rattle.fleet_name.specs.Name.{wire}
use Rattle.fleet_observe.specs.Body.{negative_body}
use Rattle.fleet_observe.specs.Preference.{octets_cmp}
use Rattle.fleet_observe.proofs.Orders.{negative_cmp}
use Rattle.fleet_observe.proofs.observation.order.body_order.Goals as goal

pub returns : goal.returns
returns g c =
    let here = c.in-Some-Some.ensures in
    let there = c.in-Some-Some.ensures' in
    let owner = c.in-Some-Some.soa.0.now in
    let rdata = c.in-Some-Some.soa.1.now in
    let other_owner = c.in-Some-Some.other_soa.0.now in
    let other_rdata = c.in-Some-Some.other_soa.1.now in
    c.then.ensures
    ∙ ap (λ o. ordering_then o c.sized_order.result) c.cmp.ensures
    ∙ ap (ordering_then (octets_cmp (wire owner) (wire other_owner))) c.sized_order.ensures
    ∙ sym (negative_cmp owner other_owner rdata other_rdata here.denial.named there.denial.named)
    ∙ ap (λ v. octets_cmp v (negative_body other_owner other_rdata)) (sym here.body)
    ∙ ap (octets_cmp c.args.observation.now.body) (sym there.body)
