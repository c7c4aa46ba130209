-- The order of what is held of a name.
-- Serves the fronts below `Cache`.
use Rattle.std.specs.Prelude.{◌≡◌}
use Rattle.std.specs.declared.cmp.Ordering.{Ordering}
use Rattle.std.specs.declared.cmp.Ordering.TheVariants.{Equal}
use Rattle.std.specs.Ordering.{nat_cmp, ordering_then}
use Rattle.fleet_observe.specs.Members.{Has}
use Rattle.fleet_observe.specs.declared.observation.lent.LentObservation.{LentObservation}
use Rattle.fleet_observe.specs.Observation.{ObservationData, Observations, kind_number}
use Rattle.fleet_observe.specs.Preference.{preference}

-- the order of what is held of a name: by kind, then type, and the preferred first within both; what is
-- greater comes first
abbrev pub row : ObservationData → ObservationData → Ordering
row x y =
    ordering_then (nat_cmp (kind_number y.kind) (kind_number x.kind))
    (ordering_then (nat_cmp y.rtype x.rtype) (preference x y))

-- the order of a name up to the stamp: by kind, type, rank and stamp
abbrev pub stamp_row : ObservationData → ObservationData → Ordering
stamp_row x y =
    ordering_then (nat_cmp (kind_number y.kind) (kind_number x.kind))
    (ordering_then (nat_cmp y.rtype x.rtype)
    (ordering_then (nat_cmp x.rank y.rank) (nat_cmp x.stamp y.stamp)))

-- how an observation compares with what is lent, in the order of a name up to the stamp
abbrev pub lent_row : ObservationData → LentObservation → Ordering
lent_row o lent =
    ordering_then (nat_cmp (kind_number lent.kind) (kind_number o.kind))
    (ordering_then (nat_cmp lent.rtype o.rtype)
    (ordering_then (nat_cmp o.rank lent.rank) (nat_cmp o.stamp lent.stamp)))

-- no two of the items are of one kind, type, rank and stamp
abbrev pub AreApart : Observations → Type 0
AreApart items = (x y : ObservationData) → Has items x → Has items y → stamp_row x y ≡ Equal → x ≡ y
