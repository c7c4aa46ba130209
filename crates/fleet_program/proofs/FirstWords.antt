-- What a chain of iterators gives, as far as it is called.
-- Serves `first_words`.
use Rattle.std.proofs.Common.{◌≡◌, ℕ, ◌≤◌, List, [], ◌∷◌, ◌++◌, ap, length, map, take, refl, ap₂, sym, ◌∙◌, subst}
use Rattle.std.specs.Prelude.{Option, None, Result, Ok, Err, OnErr}
use Rattle.std.specs.Iterator.{AlwaysYields, Yields, Drains}
use Rattle.std.specs.Result.{MatchResult}
use Rattle.std.proofs.lemmas.List.{take_all, length-take}
use Rattle.std.proofs.Math.Nat.{min-le_left}
use Rattle.std.proofs.lemmas.Iterator.{YieldsList}

-- what came is the front of all that would come
front_from_yields : {S A B : Type 0} (steps : S → Option A → S → Type 0) (v : A → B) (xs : List A) (all : List B) (s t : S)
    → AlwaysYields steps v s all → Yields steps s xs t → map v xs ≡ take (length xs) all
front_from_yields steps v [] all s t always yields = refl
front_from_yields steps v (x ∷ xs) [] s t always yields = absurd (always x yields.0 yields.1)
front_from_yields steps v (x ∷ xs) (y ∷ all) s t always yields =
    let k = always.1 x yields.0 yields.1
    in ap₂ (λ z zs. z ∷ zs) k.0 (front_from_yields steps v xs all yields.0 t k.1 yields.2)

-- nothing is left where no more comes
all_from_drains : {S A B : Type 0} (steps : S → Option A → S → Type 0) (v : A → B) (xs : List A) (all : List B) (s t u : S)
    → AlwaysYields steps v s all → Yields steps s xs t → steps t None u → map v xs ≡ all
all_from_drains steps v [] [] s t u always yields last = refl
all_from_drains steps v [] (y ∷ all) s t u always yields last =
    absurd (always.0 u (subst (λ w. steps w None u) (sym yields) last))
all_from_drains steps v (x ∷ xs) [] s t u always yields last = absurd (always x yields.0 yields.1)
all_from_drains steps v (x ∷ xs) (y ∷ all) s t u always yields last =
    let k = always.1 x yields.0 yields.1
    in ap₂ (λ z zs. z ∷ zs) k.0 (all_from_drains steps v xs all yields.0 t u k.1 yields.2 last)

-- a collection that was empty, with room for as many, has all that a chain gives
pub all_from_extend : {S A B E : Type 0} {steps : S → Option A → S → Type 0} {v : A → B} {s : S} {all : List B} (n : ℕ)
    (r : Result (Unit {0}) E) (it : S) (xs old new : List A) → YieldsList steps v s all → it ≡ s
    → MatchResult r (λ _. Drains steps it xs) (λ _. (t : S) × Yields steps it xs t)
    → old ≡ [] → new ≡ old ++ xs → length all ≤ n → OnErr r (length new ≡ n) → map v new ≡ all
all_from_extend {steps = steps} {v = v} {all = all} n (Ok _) it xs old new road same ran empty adds short full =
    let always = (subst (λ z. YieldsList steps v z all) (sym same) road).runs
    in ap (map v) (adds ∙ ap (λ l. l ++ xs) empty) ∙ all_from_drains steps v xs all it ran.1.0 ran.0 always ran.1.1 ran.1.2
all_from_extend {steps = steps} {v = v} {all = all} n (Err _) it xs old new road same ran empty adds short full =
    let always = (subst (λ z. YieldsList steps v z all) (sym same) road).runs
    in let came = adds ∙ ap (λ l. l ++ xs) empty
    in let many = sym (ap length came) ∙ full
    in ap (map v) came ∙ front_from_yields steps v xs all it ran.0 always ran.1
    ∙ take_all (length xs) all (subst (λ k. length all ≤ k) (sym many) short)

-- of a list no more than n are taken
pub short_take : {A : Type 0} (n : ℕ) (xs : List A) → length (take n xs) ≤ n
short_take n xs = subst (λ k. k ≤ n) (sym (length-take n xs)) (min-le_left n (length xs))
