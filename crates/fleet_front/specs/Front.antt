-- What a front of a set is, for any order, dominance and cut that keep the laws.
-- Serves every call of `Front`, and the laws of `Ranked`.
use Rattle.std.specs.Prelude.{ℕ, suc, ◌≡◌, Bool, true, false, ◌⊎◌, ◌||◌, not, if◌then◌else◌, List, [], ◌∷◌}
use Rattle.std.specs.List.{filter, list_any}
use Rattle.std.specs.declared.cmp.Ordering.{Ordering}
use Rattle.std.specs.declared.cmp.Ordering.TheVariants.{Equal, Greater}
use Rattle.std.specs.Ordering.{is_eq, is_gt}
use Rattle.std.specs.Cmp.{IsTotalOrder}
pub use Rattle.fleet_name.specs.Places.{Has}

-- The laws of a ranked type: the order is total, and equal only on equal values. What dominates is
-- greater than what it dominates, and dominates what that dominates. What hides a value hides all
-- that it dominates.
pub record RankedLaws {T C : Type 0} (order : T → T → Ordering) (dominates : T → T → Bool)
    (hidden : C → T → Bool) : Type 0 where
  pub total : IsTotalOrder order
  pub exact : (x y : T) → order x y ≡ Equal → x ≡ y
  pub chained : (x y z : T) → dominates x y ≡ true → dominates y z ≡ true → dominates x z ≡ true
  pub greater : (x y : T) → dominates x y ≡ true → order x y ≡ Greater
  pub hides_below : (c : C) (x y : T) → hidden c x ≡ true → dominates x y ≡ true → hidden c y ≡ true

-- each value comes after all greater ones, and none comes twice
abbrev pub IsDescending : {X : Type 0} → (X → X → Ordering) → List X → Type 0
IsDescending order [] = Unit {0}
IsDescending {X} order (x ∷ xs) = ((y : X) → Has xs y → order x y ≡ Greater) × IsDescending order xs

-- no value of s dominates x
abbrev pub IsUndominated : {X : Type 0} → (X → X → Bool) → List X → X → Type 0
IsUndominated {X} dominates s x = (y : X) → Has s y → dominates y x ≡ false

-- the items are the front of s: its undominated values, all of them, greatest first
pub record IsFront {X : Type 0} (order : X → X → Ordering) (dominates : X → X → Bool)
    (s items : List X) : Type 0 where
  pub descending : IsDescending order items
  pub of_set : (x : X) → Has items x → Has s x
  pub undominated : (x : X) → Has items x → IsUndominated dominates s x
  pub whole : (x : X) → Has s x → IsUndominated dominates s x → Has items x

-- the values that a cut does not hide, in their order
abbrev pub without_hidden : {C X : Type 0} → (C → X → Bool) → C → List X → List X
without_hidden hidden c s = filter (λ x. not (hidden c x)) s

-- x is the greatest of the values
pub record IsGreatest {X : Type 0} (order : X → X → Ordering) (s : List X) (x : X) : Type 0 where
  pub member : Has s x
  pub greatest : (y : X) → Has s y → (order x y ≡ Greater) ⊎ (x ≡ y)

-- x is one of the items, or one of them dominates it
abbrev pub IsCovered : {X : Type 0} → (X → X → Bool) → List X → X → Type 0
IsCovered {X} dominates items x = (y : X) × Has items y × ((y ≡ x) ⊎ (dominates y x ≡ true))

-- whether x is covered, as a test, by an order that is equal only on equal values
abbrev pub is_covered : {X : Type 0} → (X → X → Ordering) → (X → X → Bool) → X → List X → Bool
is_covered order dominates x items = list_any (λ y. is_eq (order y x) || dominates y x) items

-- how many of the first items, in a row, are greater than x
abbrev pub count_above : {X : Type 0} → (X → X → Ordering) → X → List X → ℕ
count_above order x [] = 0
count_above order x (y ∷ ys) = if is_gt (order y x) then suc (count_above order x ys) else 0
