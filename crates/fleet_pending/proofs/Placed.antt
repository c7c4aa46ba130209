-- Members of a list by their index.
-- Serves `place_of_id`, `place_of_question`, `is_among`, what `FirstDue`, `FreeId`, `Keeping`,
-- `Soonest`, `WaitersStay` serve, and fleet_site.
use Rattle.std.proofs.Common.{◌≡◌, ℕ, zero, suc, ◌+◌, ◌<◌, ◌≤◌, ◌⊎◌, inl, inr, List, [], ◌∷◌, ◌++◌, Some, None, length, slice_set, get_or, refl, sym, ◌∙◌, ap, subst, arith, ◌≢◌}
use Rattle.std.specs.List.{remove}
use Rattle.std.proofs.lemmas.Option.{slice_get_within, same_Some}
use Rattle.std.proofs.lemmas.Bool.{cases_eq, cases_lt}
use Rattle.fleet_name.proofs.Lemmas.{at_read, at_same, at_set}
use Rattle.fleet_name.specs.Places.{At, NoneIs, NoTwo, IsPlace}

-- none of the first n is like this
abbrev pub NoneBefore : {X : Type 0} → (X → Type 0) → List X → ℕ → Type 0
NoneBefore {X} P xs n = (i : ℕ) (x : X) → i < n → At xs i x → P x → ⊥

-- the members of a list with one more
pub at_push : {X : Type 0} (xs : List X) (j : ℕ) (y x : X) → At (xs ++ y ∷ []) j x
    → At xs j x ⊎ ((j ≡ length xs) × (x ≡ y))
at_push [] zero y x h = inr (refl, sym (same_Some y x h))
at_push [] (suc j) y x h = absurd (let e : None ≡ Some x = h in cc)
at_push (z ∷ xs) zero y x h = inl h
at_push (z ∷ xs) (suc j) y x h =
    elim (at_push xs j y x h) [ inl p ↦ inl p | inr p ↦ inr (ap (λ n. suc n) p.0, p.1) ]

-- what is left after one is taken out was before it or after it
pub at_remove : {X : Type 0} (xs : List X) (i j : ℕ) (x : X) → At (remove xs i) j x
    → (k : ℕ) × At xs k x × (j < i → k ≡ j) × (i ≤ j → k ≡ j + 1)
at_remove [] zero j x h = absurd (let e : None ≡ Some x = h in cc)
at_remove [] (suc i) j x h = absurd (let e : None ≡ Some x = h in cc)
at_remove (z ∷ xs) zero j x h = (suc j, h, (λ l. absurd (omega arith)), λ l. omega arith)
at_remove (z ∷ xs) (suc i) zero x h = (zero, h, (λ l. refl), λ l. absurd (omega arith))
at_remove (z ∷ xs) (suc i) (suc j) x h =
    let r = at_remove xs i j x h in (
      suc r.0,
      r.1,
      (λ l. let e : r.0 ≡ j = r.2 (omega arith) in omega arith),
      λ l. let e :
          r.0 ≡ j + 1 = r.3 (omega arith) in omega arith,
    )

-- one at another index is left
pub at_left : {X : Type 0} (xs : List X) (i j : ℕ) (x : X) → At xs j x → j ≢ i
    → (k : ℕ) × At (remove xs i) k x
at_left [] i j x h n = absurd (let e : None ≡ Some x = h in cc)
at_left (z ∷ xs) zero zero x h n = absurd (n refl)
at_left (z ∷ xs) zero (suc j) x h n = (j, h)
at_left (z ∷ xs) (suc i) zero x h n = (zero, h)
at_left (z ∷ xs) (suc i) (suc j) x h n =
    let r = at_left xs i j x h (λ e. n (ap (λ m. suc m) e)) in (suc r.0, r.1)

-- a write by what is alike to no more
pub no_two_set : {X : Type 0} (Alike : X → X → Type 0) (xs : List X) (i : ℕ) (x y : X)
    → NoTwo Alike xs → At xs i x → ((z : X) → Alike y z → Alike x z)
    → ((z : X) → Alike z y → Alike z x) → NoTwo Alike (slice_set xs i y)
no_two_set {X} Alike xs i x y h t l r j k a b p q s = go (at_set xs i j y a p) (at_set xs i k y b q)
  where
    go : ((j ≡ i) × (a ≡ y)) ⊎ ((j ≢ i) × At xs j a) → ((k ≡ i) × (b ≡ y)) ⊎ ((k ≢ i) × At xs k b)
        → j ≡ k
    go (inl u) (inl v) = u.0 ∙ sym v.0
    go (inl u) (inr v) = absurd (v.0 (sym (h i k x b t v.1 (l b (subst (λ z. Alike z b) u.1 s)))))
    go (inr u) (inl v) = absurd (u.0 (h j i a x u.1 t (r a (subst (λ z. Alike a z) v.1 s))))
    go (inr u) (inr v) = h j k a b u.1 v.1 s

pub no_two_push : {X : Type 0} (Alike : X → X → Type 0) (xs : List X) (y : X) → NoTwo Alike xs
    → NoneIs (λ z. Alike z y) xs → NoneIs (Alike y) xs → NoTwo Alike (xs ++ y ∷ [])
no_two_push Alike xs y h l r j k a b p q s = go (at_push xs j y a p) (at_push xs k y b q)
  where
    go : At xs j a ⊎ ((j ≡ length xs) × (a ≡ y)) → At xs k b ⊎ ((k ≡ length xs) × (b ≡ y)) → j ≡ k
    go (inl u) (inl v) = h j k a b u v s
    go (inl u) (inr v) = absurd (l j a u (subst (λ z. Alike a z) v.1 s))
    go (inr u) (inl v) = absurd (r k b v (subst (λ z. Alike z b) u.1 s))
    go (inr u) (inr v) = u.0 ∙ sym v.0

pub no_two_remove : {X : Type 0} (Alike : X → X → Type 0) (xs : List X) (i : ℕ) → NoTwo Alike xs
    → NoTwo Alike (remove xs i)
no_two_remove Alike xs i h j k a b p q s =
    let x = at_remove xs i j a p in
    let y = at_remove xs i k b q in
    let e : x.0 ≡ y.0 = h x.0 y.0 a b x.1 y.1 s in
    back x.0 y.0 e x.2 x.3 y.2 y.3 (cases_lt j i) (cases_lt k i)
  where
    back : (m n : ℕ) → m ≡ n → (j < i → m ≡ j) → (i ≤ j → m ≡ j + 1) → (k < i → n ≡ k)
        → (i ≤ k → n ≡ k + 1) → (j < i) ⊎ (i ≤ j) → (k < i) ⊎ (i ≤ k) → j ≡ k
    back m n q d e f g (inl x) (inl y) = let u = d x in let v = f y in omega (arith, q, u, v)
    back m n q d e f g (inl x) (inr y) =
        let u = d x in let v = g y in absurd (omega (arith, q, u, v))
    back m n q d e f g (inr x) (inl y) =
        let u = e x in let v = f y in absurd (omega (arith, q, u, v))
    back m n q d e f g (inr x) (inr y) = let u = e x in let v = g y in omega (arith, q, u, v)

-- none at all, where none of the first `n`, and there are no more
pub none_is : {X : Type 0} (P : X → Type 0) (xs : List X) (n : ℕ)
    → length xs ≤ n → NoneBefore P xs n → NoneIs P xs
none_is P xs n l h i x a p =
    let m : i < length xs = slice_get_within xs i x a in h i x (omega arith) a p

pub place_is : {X : Type 0} (P : X → Type 0) (xs : List X) (i : ℕ) (x : X)
    → i < length xs → x ≡ get_or xs i x → P x → IsPlace P xs (Some i)
place_is P xs i x l e p = (x, at_read xs i x l e, p)

pub none_more : {X : Type 0} (P : X → Type 0) (xs : List X) (n : ℕ) (x : X) → n < length xs
    → x ≡ get_or xs n x → (P x → ⊥) → NoneBefore P xs n → NoneBefore P xs (n + 1)
none_more {X} P xs n x l e p h i y k a q = go (cases_eq i n)
  where
    go : (i ≡ n) ⊎ (i ≢ n) → ⊥
    go (inl z) = p (subst P (at_same xs n y x (subst (λ v. At xs v y) z a) (at_read xs n x l e)) q)
    go (inr z) = h i y (omega arith) a q
