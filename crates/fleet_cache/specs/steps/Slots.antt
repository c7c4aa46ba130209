-- How the entries of a map from names to fronts lie.
-- Serves the map below `Cache`.
use Rattle.std.specs.Prelude.{◌≡◌, ℕ, Bool, true, false, List, [], ◌∷◌, ◌++◌, ◌↔◌, ◌+◌, ◌≤◌, length}
use Rattle.fleet_observe.specs.Members.{Has}
use Rattle.fleet_observe.specs.Observation.{ObservationData, Observations}
use Rattle.fleet_observe.specs.Preference.{octets_cmp}
use Rattle.fleet_cache.specs.Front.{IsFront, IsDescending}
use Rattle.fleet_cache.specs.Dominates.{dominates}
use Rattle.fleet_cache.specs.steps.Row.{row}
use Rattle.fleet_cache.specs.steps.Packed.{words_of, IsPackable}
use Rattle.fleet_cache.specs.Cached.{item_order, IsCovered}

-- whether there is nothing
abbrev pub is_nil : {X : Type 0} → List X → Bool
is_nil [] = true
is_nil (x ∷ xs) = false

-- the fronts one after another
abbrev pub items_of : {K : Type 0} → List (K × Observations) → Observations
items_of [] = []
items_of (e ∷ es) = e.1 ++ items_of es

-- lists one after another
abbrev pub concat : {X : Type 0} → List (List X) → List X
concat [] = []
concat (x ∷ xs) = x ++ concat xs

-- a slot has the observations of one name, at least one, undominated and in order
pub record IsSlot (words : List ℕ) (front : Observations) : Type 0 where
  pub some : is_nil front ≡ false
  pub one_key : (x : ObservationData) → Has front x → words_of x ≡ words
  pub packable : (x : ObservationData) → Has front x → IsPackable x.name
  pub own_front : IsFront row dominates front front

-- the keys ascend, and each slot is of its name
pub record IsLaid {K : Type 0} (words : K → List ℕ) (es : List (K × Observations)) : Type 0
  where
    pub slots : (e : K × Observations) → Has es e → IsSlot (words e.0) e.1
    pub ascending : IsDescending (λ (a b : K × Observations). octets_cmp (words b.0)
        (words a.0)) es

-- the entries hold one observation more; it was not kept where it was there or is dominated
pub record IsPut {K : Type 0} (words : K → List ℕ) (es new : List (K × Observations))
    (x : ObservationData)
    (kept : Bool) : Type 0 where
  pub laid : IsLaid words new
  pub taken : (s : Observations) → IsFront item_order dominates s (items_of es)
      → IsFront item_order dominates (x ∷ s) (items_of new)
  pub size : length (items_of new) ≤ length (items_of es) + 1
  pub needless : (kept ≡ false) ↔ IsCovered (items_of es) x
