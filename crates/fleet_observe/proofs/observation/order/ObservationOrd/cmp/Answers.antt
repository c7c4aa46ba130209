use Rattle.std.proofs.Common.{sym, ap, refl, ◌∙◌}
use Rattle.std.specs.Ordering.{ordering_then}
use Rattle.fleet_observe.specs.Observation.{expires, kind_number}
use Rattle.fleet_observe.specs.Preference.{octets_cmp, name_cmp}
use Rattle.fleet_observe.proofs.Lemmas.{then_assoc}
use Rattle.fleet_observe.proofs.Orders.{compared, joined, preferred, settled}
use Rattle.fleet_observe.proofs.observation.order.ObservationOrd.cmp.Goals as goal

pub returns-then-is_ne : goal.returns-then-is_ne
returns-then-is_ne g c =
    let x = c.args.self.now in
    let y = c.args.other.now in
    let names = name_cmp x.name y.name in
    let body = octets_cmp x.body y.body in
    let ranks = compared c.cmp.result c.rank.result c.rank-2.result x.rank y.rank c.cmp.ensures
    c.rank.ensures.value c.rank-2.ensures.value in
    let stamps = compared c.cmp-2.result c.stamp.result c.stamp-2.result x.stamp y.stamp
    c.cmp-2.ensures c.stamp.ensures.value c.stamp-2.ensures.value in
    let ends = compared c.cmp-3.result c.expires.result c.expires-2.result (expires x) (expires y)
    c.cmp-3.ensures c.expires.ensures.value c.expires-2.ensures.value in
    let kinds = compared c.cmp-4.result c.number.result c.number-2.result (kind_number x.kind)
    (kind_number y.kind) c.cmp-4.ensures (c.number.ensures
    ∙ ap kind_number c.kind.ensures.value) (c.number-2.ensures
    ∙ ap kind_number c.kind-2.ensures.value) in
    let types = compared c.cmp-5.result c.rtype.result c.rtype-2.result x.rtype y.rtype
    c.cmp-5.ensures c.rtype.ensures.value c.rtype-2.ensures.value in
    sym (settled c.then-order.result (ordering_then names body) (sym c.if-is_ne.ensures))
    ∙ sym (then_assoc c.then-order.result names body)
    ∙ joined c.cmp.result c.cmp-2.result c.cmp-3.result c.cmp-4.result c.cmp-5.result names
    c.then.result c.then-2.result c.then-3.result c.then-order.result
    (ordering_then c.then-order.result names) body c.then.ensures c.then-2.ensures
    c.then-3.ensures c.then-order.ensures refl
    ∙ preferred x y c.cmp.result c.cmp-2.result c.cmp-3.result c.cmp-4.result c.cmp-5.result names
    ranks stamps ends kinds types refl
