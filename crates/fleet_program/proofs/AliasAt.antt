-- Members of lists at their places.
-- Serves `alias_at`.
use Rattle.std.proofs.Common.{◌≡◌, ℕ, zero, suc, ◌<◌, List, [], ◌∷◌, length, get_or, inl, inr, sym, arith}
use Rattle.fleet_name.specs.Places.{Has}

-- what stands at a place of a list is a member
pub has_item : {X : Type 0} (xs : List X) (i : ℕ) (x : X) → i < length xs → x ≡ get_or xs i x → Has xs x
has_item [] i x within is = absurd (omega (arith, within))
has_item (y ∷ xs) zero x within is = inl (sym is)
has_item (y ∷ xs) (suc i) x within is = inr (has_item xs i x (omega (arith, within)) is)
