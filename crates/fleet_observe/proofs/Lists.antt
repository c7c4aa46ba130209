-- The members of a list, from an index on, and ascending lists.
-- Serves `are_ascending`, `are_plain`, `ns_sets`, `owns`, `first_soa`, `denied_at`, `put_links`,
-- `put_ns`, `holds`, `find_rrset`, what `Lent`, `Orders`, `Owners`, `Sections`, `Sets`, `Soas`
-- serve, and fleet_site, fleet_world.
use Rattle.std.proofs.Common.{◌≡◌, ℕ, zero, suc, ◌+◌, ◌-◌, ◌<◌, ◌≤◌, ◌⊎◌, inl, inr, List, [], ◌∷◌, ◌++◌, length, get_or, drop, refl, sym, ap, ◌∙◌, subst, add-one, arith, true, false}
use Rattle.std.proofs.Math.Seq.{drop-cons}
use Rattle.std.specs.declared.cmp.Ordering.{Ordering}
use Rattle.std.specs.declared.cmp.Ordering.TheVariants.{Less, Equal, Greater}
use Rattle.std.specs.Ordering.{nat_cmp, is_ge}
use mathlib.Core.Bool.{false≢true}
use Rattle.std.specs.Cmp.Lexicographic.{slice_cmp}
use Rattle.std.proofs.lemmas.Cmp.{nat_list_cmp_total}
use Rattle.fleet_name.proofs.Lemmas.{has_either}
use Rattle.fleet_observe.specs.Members.{Has, IsAscending}

-- a member of a list with one more item is one of the list, or that item
pub has_push : {X : Type 0} (xs : List X) (x z : X) → Has (xs ++ x ∷ []) z → Has xs z ⊎ (x ≡ z)
has_push xs x z h = elim (has_either xs (x ∷ []) z h) [
  | inl a ↦ inl a
  | inr b ↦ elim b [ inl e ↦ inr e | inr nowhere ↦ absurd nowhere ]
]

-- the items from an index on: the one there, and the others
pub split_at : {X : Type 0} (xs : List X) (i : ℕ) (x : X) → i < length xs → x ≡ get_or xs i x
    → drop i xs ≡ x ∷ drop (i + 1) xs
split_at xs i x h e = drop-cons xs i x h ∙ ap (λ y. y ∷ drop (suc i) xs) (sym e)
    ∙ ap (λ n. x ∷ drop n xs) (sym (add-one i))

pub has_from : {X : Type 0} (xs : List X) (i : ℕ) (x z : X) → i < length xs → x ≡ get_or xs i x
    → Has (drop i xs) z → (x ≡ z) ⊎ Has (drop (i + 1) xs) z
has_from {X} xs i x z h e has = let P : List X → Type 0 = λ l. Has l z in
    subst P (split_at xs i x h e) has

-- a member from an index on is a member
pub has_dropped : {X : Type 0} (xs : List X) (i : ℕ) (z : X) → Has (drop i xs) z → Has xs z
has_dropped xs zero z h = h
has_dropped [] (suc i) z h = h
has_dropped (x ∷ xs) (suc i) z h = inr (has_dropped xs i z h)

pub has_at : {X : Type 0} (xs : List X) (i : ℕ) (x : X) → i < length xs → x ≡ get_or xs i x
    → Has xs x
has_at {X} xs i x h e = has_dropped xs i x (let P : List X → Type 0 = λ l. Has l x in
    subst P (sym (split_at xs i x h e)) (inl refl))

-- one more in front of ascending lists, where the first of them is greater
pub ascending_more : (x y : List ℕ) (ys : List (List ℕ)) → slice_cmp nat_cmp x y ≡ Less
    → IsAscending (y ∷ ys) → IsAscending (x ∷ y ∷ ys)
ascending_more x y ys less rest = (
  λ z has. elim has [
    | inl e ↦ (let P : List ℕ → Type 0 = λ w. slice_cmp nat_cmp x w ≡ Less in subst P e less)
    | inr h ↦ nat_list_cmp_total.trans x y z less (rest.0 z h)
  ],
  rest,
)

-- what is left of an ascending list is ascending
pub ascending_dropped : (xs : List (List ℕ)) (i : ℕ) → IsAscending xs → IsAscending (drop i xs)
ascending_dropped xs zero h = h
ascending_dropped [] (suc i) h = h
ascending_dropped (x ∷ xs) (suc i) h = ascending_dropped xs i h.1

pub ascending_one : (xs : List (List ℕ)) → length xs ≤ 1 → IsAscending xs
ascending_one [] h = tt
ascending_one (x ∷ []) h = (λ z has. absurd has, tt)
ascending_one (x ∷ y ∷ ys) h = absurd (omega (arith, h))

-- the items from the one before an index on
pub pair_at : {X : Type 0} (xs : List X) (i : ℕ) (x y : X) → 1 ≤ i → i < length xs
    → x ≡ get_or xs (i - 1) x → y ≡ get_or xs i y → drop (i - 1) xs ≡ x ∷ y ∷ drop (i + 1) xs
pair_at xs i x y some h e f =
    let back : i - 1 + 1 ≡ i = omega arith in
    let rest : drop (i - 1 + 1) xs ≡ y ∷ drop (i + 1) xs = ap (λ n. drop n xs) back
    ∙ split_at xs i y h f in
    split_at xs (i - 1) x (omega arith) e ∙ ap (λ l. x ∷ l) rest

pub less_from : (o : Ordering) → is_ge o ≡ false → o ≡ Less
less_from Less e = refl
less_from Equal e = absurd (false≢true (sym e))
less_from Greater e = absurd (false≢true (sym e))

pub not_less : (o : Ordering) → is_ge o ≡ true → o ≡ Less → ⊥
not_less o e f = absurd (false≢true (sym (ap is_ge f) ∙ e))

-- where neighbours are in order, and those from the second on, so are those from the first on
pub ascending_pair : (xs : List (List ℕ)) (i : ℕ) (x y : List ℕ) → 1 ≤ i → i < length xs
    → x ≡ get_or xs (i - 1) x → y ≡ get_or xs i y → slice_cmp nat_cmp x y ≡ Less
    → IsAscending (drop i xs) → IsAscending (drop (i - 1) xs)
ascending_pair xs i x y some h e f less rest =
    let from : IsAscending (y ∷ drop (i + 1) xs) = subst IsAscending (split_at xs i y h f) rest in
    subst IsAscending (sym (pair_at xs i x y some h e f)) (ascending_more x y (drop (i + 1) xs)
    less from)

-- in ascending lists neighbours are in order
pub pair_ascending : (xs : List (List ℕ)) (i : ℕ) (x y : List ℕ) → 1 ≤ i → i < length xs
    → x ≡ get_or xs (i - 1) x → y ≡ get_or xs i y → IsAscending xs → slice_cmp nat_cmp x y ≡ Less
pair_ascending xs i x y some h e f all =
    let from : IsAscending (x ∷ y ∷ drop (i + 1) xs) = subst IsAscending
    (pair_at xs i x y some h e f) (ascending_dropped xs (i - 1) all) in
    from.0 y (inl refl)
