-- Two lists of items, each in order, as one.
-- Serves the two maps below `Cache`: short names are in one of them, long names in the other.
use Rattle.std.specs.Prelude.{Bool, if◌then◌else◌, [], ◌∷◌, Option, Some, None}
use denote.Ref.{Bor}
use Rattle.std.specs.Ordering.{is_lt}
use Rattle.fleet_observe.specs.Observation.{ObservationData, Observations}
use Rattle.fleet_observe.specs.Preference.{name_cmp}

-- whether the name of x comes before that of y
abbrev pub is_before : ObservationData → ObservationData → Bool
is_before x y = is_lt (name_cmp x.name y.name)

-- x among items, and the rest after it, which is merged with the items that are left
abbrev pub merged_from : ObservationData → (Observations → Observations) → Observations
    → Observations
merged_from x rest [] = x ∷ rest []
merged_from x rest (y ∷ ys) =
    if is_before x y then x ∷ rest (y ∷ ys) else y ∷ merged_from x rest ys

-- the items of both, those of the lesser name first
abbrev pub merged : Observations → Observations → Observations
merged [] ys = ys
merged (x ∷ xs) ys = merged_from x (merged xs) ys

-- an item before the rest; where there is none, there is no rest
abbrev pub before_rest : Option (Bor ObservationData) → Observations → Observations
before_rest None items = []
before_rest (Some x) items = x.now ∷ items
