use Rattle.std.proofs.Common.{◌≡◌, ◌+◌, drop, arith, sym, ap, ◌∙◌}
use Rattle.std.specs.List.{flat_map}
use Rattle.std.specs.Ordering.{ordering_then}
use Rattle.fleet_observe.specs.Body.{octets_with_length}
use Rattle.fleet_observe.specs.Preference.{octets_cmp}
use Rattle.fleet_observe.proofs.Orders.{rdatas_step, settled, tied}
use Rattle.fleet_observe.proofs.observation.order.rdatas_order.Goals as goal

pub returns-then-is_ne-2 : goal.returns-then-is_ne-2
returns-then-is_ne-2 g c =
    let x = c.index-rdatas-i.result in
    let y = c.index-others-i.result in
    let here : c.sized_order-order.result ≡ octets_cmp (octets_with_length x)
    (octets_with_length y) = c.sized_order-order.ensures
    ∙ ap (λ o. octets_cmp (octets_with_length o)
    (octets_with_length c.as_slice-in-loop-i.result.now)) c.as_slice.ensures
    ∙ ap (λ o. octets_cmp (octets_with_length x) (octets_with_length o))
    c.as_slice-in-loop-i.ensures in
    let rest = octets_cmp (flat_map octets_with_length (drop (c.loop-i.i + 1) c.args.rdatas.now))
    (flat_map octets_with_length (drop (c.loop-i.i + 1) c.args.others.now)) in
    let step = rdatas_step c.args.rdatas.now c.args.others.now c.loop-i.i x y (omega arith)
    (omega (arith, c.loop-i.invariant.many)) c.index-rdatas-i.is c.index-others-i.is in
    sym (c.loop-i.invariant.same ∙ step ∙ ap (λ o. ordering_then o rest) (sym here)
    ∙ settled c.sized_order-order.result rest (sym c.if-is_ne-2.ensures))

pub loop-i-preserved : goal.loop-i-preserved
loop-i-preserved g c =
    let x = c.index-rdatas-i.result in
    let y = c.index-others-i.result in
    let here : c.sized_order-order.result ≡ octets_cmp (octets_with_length x)
    (octets_with_length y) = c.sized_order-order.ensures
    ∙ ap (λ o. octets_cmp (octets_with_length o)
    (octets_with_length c.as_slice-in-loop-i.result.now)) c.as_slice.ensures
    ∙ ap (λ o. octets_cmp (octets_with_length x) (octets_with_length o))
    c.as_slice-in-loop-i.ensures in
    let rest = octets_cmp (flat_map octets_with_length (drop (c.loop-i.i + 1) c.args.rdatas.now))
    (flat_map octets_with_length (drop (c.loop-i.i + 1) c.args.others.now)) in
    let step = rdatas_step c.args.rdatas.now c.args.others.now c.loop-i.i x y (omega arith)
    (omega (arith, c.loop-i.invariant.many)) c.index-rdatas-i.is c.index-others-i.is in
    record {
      many = c.loop-i.invariant.many;
      same = c.loop-i.invariant.same ∙ step ∙ ap (λ o. ordering_then o rest) (sym here)
          ∙ tied c.sized_order-order.result rest (sym c.if-is_ne-2.ensures);
    }
