-- Distinct members of lists, and lists of octets in ascending order.
-- Serves `digest`, `observations`, and every call of `Observation` and `RrSet`.
use Rattle.std.specs.Prelude.{◌≡◌, List, [], ◌∷◌}
use Rattle.std.specs.declared.cmp.Ordering.TheVariants.{Less}
use Rattle.std.specs.Ordering.{nat_cmp}
use Rattle.std.specs.Cmp.Lexicographic.{slice_cmp}
use Rattle.fleet_name.specs.Types.{OctetList}
pub use Rattle.fleet_name.specs.Places.{Has}

-- no two of the values are equal
abbrev pub AllDistinct : {X : Type 0} → List X → Type 0
AllDistinct [] = Unit {0}
AllDistinct (x ∷ xs) = (Has xs x → ⊥) × AllDistinct xs

-- each comes before all greater ones and none comes twice: as octets, a proper prefix first
abbrev pub IsAscending : List OctetList → Type 0
IsAscending [] = Unit {0}
IsAscending (x ∷ xs) = ((y : OctetList) → Has xs y → slice_cmp nat_cmp x y ≡ Less) × IsAscending xs
