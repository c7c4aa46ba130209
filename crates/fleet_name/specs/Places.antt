-- Members of a list, and their indices.
-- Serves lists in every crate above.
use Rattle.std.specs.Prelude.{◌≡◌, ◌⊎◌, ℕ, List, [], ◌∷◌, Option, Some, None, slice_get}

-- x is a member of the list; a list that stands for a set is read by this alone
abbrev pub Has : {X : Type 0} → List X → X → Type 0
Has [] x = ⊥
Has (y ∷ ys) x = (y ≡ x) ⊎ Has ys x

-- x is at the index i
abbrev pub At : {X : Type 0} → List X → ℕ → X → Type 0
At xs i x = slice_get xs i ≡ Some x

-- no member of the list meets P
abbrev pub NoneIs : {X : Type 0} → (X → Type 0) → List X → Type 0
NoneIs {X} P xs = (i : ℕ) (x : X) → At xs i x → P x → ⊥

-- no two members at different indices are alike
abbrev pub NoTwo : {X : Type 0} → (X → X → Type 0) → List X → Type 0
NoTwo {X} Alike xs = (i j : ℕ) (x y : X) → At xs i x → At xs j y → Alike x y → i ≡ j

-- what is found is a member that meets P; None where no member does
abbrev pub Finds : {X : Type 0} → (X → Type 0) → List X → Option X → Type 0
Finds P xs None = NoneIs P xs
Finds P xs (Some x) = (i : ℕ) × At xs i x × P x

-- What follows, private contracts alone cite.

-- the index of a member that meets P; None where no member does
abbrev pub IsPlace : {X : Type 0} → (X → Type 0) → List X → Option ℕ → Type 0
IsPlace P xs None = NoneIs P xs
IsPlace {X} P xs (Some i) = (x : X) × At xs i x × P x
