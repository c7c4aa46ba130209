-- Which of two observations is preferred.
-- Serves the order of `Observation`, law `preference_laws`.
use Rattle.std.specs.declared.cmp.Ordering.{Ordering}
use Rattle.std.specs.Ordering.{nat_cmp, ordering_then}
use Rattle.std.specs.Cmp.{IsTotalOrder}
use Rattle.std.specs.Cmp.Lexicographic.{slice_cmp}
use Rattle.std.proofs.lemmas.Cmp.{on_total, then_total, nat_cmp_total, nat_list_cmp_total}
use Rattle.fleet_name.specs.Types.{Labels, OctetList}
use Rattle.fleet_name.specs.Name.{wire}
use Rattle.fleet_observe.specs.Observation.{ObservationData, expires, kind_number}

-- the order of octets, a proper prefix first
abbrev pub octets_cmp : OctetList → OctetList → Ordering
octets_cmp = slice_cmp nat_cmp

-- the order of names: that of their octets in full
abbrev pub name_cmp : Labels → Labels → Ordering
name_cmp a b = octets_cmp (wire a) (wire b)

-- the order by rank, stamp, end, kind, type, name octets and body octets, one after the other: the
-- greater is preferred (after RFC 2181 5.4.1)
abbrev pub preference : ObservationData → ObservationData → Ordering
preference x y =
    ordering_then (nat_cmp x.rank y.rank)
    (ordering_then (nat_cmp x.stamp y.stamp)
    (ordering_then (nat_cmp (expires x) (expires y))
    (ordering_then (nat_cmp (kind_number x.kind) (kind_number y.kind))
    (ordering_then (nat_cmp x.rtype y.rtype)
    (ordering_then (name_cmp x.name y.name)
    (octets_cmp x.body y.body))))))

-- the preference is a total order
pub preference_total : IsTotalOrder preference
preference_total =
    then_total (on_total (λ (x : ObservationData). x.rank) nat_cmp_total)
    (then_total (on_total (λ (x : ObservationData). x.stamp) nat_cmp_total)
    (then_total (on_total (λ (x : ObservationData). expires x) nat_cmp_total)
    (then_total (on_total (λ (x : ObservationData). kind_number x.kind) nat_cmp_total)
    (then_total (on_total (λ (x : ObservationData). x.rtype) nat_cmp_total)
    (then_total (on_total (λ (x : ObservationData). wire x.name) nat_list_cmp_total)
    (on_total (λ (x : ObservationData). x.body) nat_list_cmp_total))))))
