-- What is lent and found among what is held.
-- Serves `Cache::holds`, `has_lent`, `soonest_of`.
use Rattle.std.proofs.Common.{◌≡◌, ℕ, zero, suc, ◌+◌, ◌<◌, ◌≤◌, ◌⊎◌, ◌↔◌, inl, inr, nat_eq, Bool, true, false, IsTrue, List, [], ◌∷◌, length, get_or, drop, not, nat_le, nat_lt, cond, ◌==◌, refl, sym, ap, ◌∙◌, subst, add-one, arith}
use Rattle.std.specs.Ordering.{nat_cmp, ordering_then, ordering_reverse, is_gt}
use Rattle.std.specs.declared.cmp.Ordering.{Ordering}
use Rattle.std.specs.declared.cmp.Ordering.TheVariants.{Less, Equal, Greater}
use Rattle.std.specs.Cmp.{IsTotalOrder}
use Rattle.std.specs.List.Sorted.{IsPartitionedBy}
use Rattle.std.proofs.Math.Seq.{drop-cons}
use Rattle.std.proofs.lemmas.Bool.{cases_Bool}
use Rattle.std.proofs.lemmas.Bool.Decides.{nat_tests}
use Rattle.std.proofs.lemmas.Cmp.{on_total, then_total, back_total, nat_cmp_total, tied_itself, upto}
use Rattle.std.proofs.lemmas.List.{drop_all}
use Rattle.std.proofs.lemmas.Map.Lookups.{exact_unsigned}
use mathlib.Core.Bool.{false≢true}
use Rattle.fleet_name.specs.Name.{wire}
use Rattle.fleet_name.proofs.Lemmas.{Has-in_filter}
use Rattle.fleet_observe.specs.Members.{Has}
use Rattle.fleet_observe.specs.Observation.{ObservationData, AreObservations, expires, kind_number}
use Rattle.fleet_observe.specs.Lent.{IsLent}
use Rattle.fleet_observe.specs.declared.observation.kind.Kind.{Kind}
use Rattle.fleet_observe.specs.declared.observation.lent.LentObservation.{LentObservation}
use Rattle.fleet_observe.specs.Preference.{preference, preference_total}
use Rattle.fleet_front.proofs.Lemmas.{ordering_cases}
use Rattle.fleet_observe.proofs.Lemmas.{lent_exact, then_parts, preference_exact, kind_exact}
use Rattle.fleet_cache.specs.Live.{is_live, live_of}
use Rattle.fleet_cache.specs.Cached.{IsNeedless}
use Rattle.fleet_cache.specs.Front.{IsDescending}
use Rattle.fleet_cache.specs.steps.Keyed.{IsOfName}
use Rattle.fleet_cache.specs.steps.Row.{row, stamp_row, lent_row, AreApart}
use Rattle.fleet_cache.specs.steps.Orders.{row_total, over_to}
use Rattle.fleet_cache.specs.steps.Held.{IsHeld}
use Rattle.fleet_cache.specs.Dominates.{dominates}
use Rattle.fleet_cache.proofs.Holdings.{past_test}

-- the items from an index on: the one there, and the others
split_at : (xs : List ObservationData) (i : ℕ) (x : ObservationData) → i < length xs
    → x ≡ get_or xs i x → drop i xs ≡ x ∷ drop (i + 1) xs
split_at xs i x h e = drop-cons xs i x h ∙ ap (λ y. y ∷ drop (suc i) xs) (sym e)
    ∙ ap (λ n. x ∷ drop n xs) (sym (add-one i))

-- a member from an index on is the one there, or a later one
pub has_from : (xs : List ObservationData) (i : ℕ) (x z : ObservationData) → i < length xs
    → x ≡ get_or xs i x → Has (drop i xs) z → (x ≡ z) ⊎ Has (drop (i + 1) xs) z
has_from xs i x z h e has = subst (λ (v : List ObservationData). Has v z) (split_at xs i x h e) has

-- none is after the last one
pub none_behind : (xs : List ObservationData) (i : ℕ) (z : ObservationData) → length xs ≤ i
    → Has (drop i xs) z → ⊥
none_behind xs i z past has =
    subst (λ (v : List ObservationData). Has v z) (drop_all i xs past) has

-- a member from an index on is a member
has_dropped : (xs : List ObservationData) (i : ℕ) (z : ObservationData) → Has (drop i xs) z
    → Has xs z
has_dropped xs zero z h = h
has_dropped [] (suc i) z h = h
has_dropped (x ∷ xs) (suc i) z h = inr (has_dropped xs i z h)

pub has_at : (xs : List ObservationData) (i : ℕ) (x : ObservationData) → i < length xs
    → x ≡ get_or xs i x → Has xs x
has_at xs i x h e = has_dropped xs i x
    (subst (λ (v : List ObservationData). Has v x) (sym (split_at xs i x h e)) (inl refl))

-- the items of a list in order come after those before them
later_behind : (order : ObservationData → ObservationData → Ordering) (xs : List ObservationData)
    (i : ℕ) (x z : ObservationData) → IsDescending order xs → i < length xs → x ≡ get_or xs i x
    → Has (drop (suc i) xs) z → order x z ≡ Greater
later_behind order [] i x z down within is has = absurd has
later_behind order (y ∷ xs) zero x z down within is has =
    let same : x ≡ y = is in subst (λ v. order v z ≡ Greater) (sym same) (down.0 z has)
later_behind order (y ∷ xs) (suc i) x z down within is has =
    later_behind order xs i x z down.1 (omega (arith, within)) is has

has_got : (xs : List ObservationData) (i : ℕ) (d : ObservationData) → i < length xs
    → Has xs (get_or xs i d)
has_got [] i d within = absurd (omega (arith, within))
has_got (x ∷ xs) zero d within = inl refl
has_got (x ∷ xs) (suc i) d within = inr (has_got xs i d (omega (arith, within)))

in_order : (order : ObservationData → ObservationData → Ordering) (xs : List ObservationData)
    (i j : ℕ) (d : ObservationData) → IsDescending order xs → i < j → j < length xs
    → order (get_or xs i d) (get_or xs j d) ≡ Greater
in_order order [] i j d down before within = absurd (omega (arith, within))
in_order order (x ∷ xs) i zero d down before within = absurd (omega (arith, before))
in_order order (x ∷ xs) zero (suc j) d down before within =
    down.0 (get_or xs j d) (has_got xs j d (omega (arith, within)))
in_order order (x ∷ xs) (suc i) (suc j) d down before within =
    in_order order xs i j d down.1 (omega (arith, before)) (omega (arith, within))

stamp_row_total : IsTotalOrder stamp_row
stamp_row_total =
    then_total (on_total (λ (x : ObservationData). kind_number x.kind) (back_total nat_cmp_total))
    (then_total (on_total (λ (x : ObservationData). x.rtype) (back_total nat_cmp_total))
    (then_total (on_total (λ (x : ObservationData). x.rank) nat_cmp_total)
    (on_total (λ (x : ObservationData). x.stamp) nat_cmp_total)))

-- an order that goes on after a first comparison isn't above where the whole is below
not_above : (first whole part : Ordering) → (whole ≡ Less → is_gt part ≡ false)
    → ordering_then first whole ≡ Less → is_gt (ordering_then first part) ≡ false
not_above Less whole part f e = refl
not_above Equal whole part f e = f e
not_above Greater whole part f e = let w : Greater ≡ Less = e in absurd (cc)

-- nor is its first part
first_not_above : (first others : Ordering) → ordering_then first others ≡ Less
    → is_gt first ≡ false
first_not_above Less others e = refl
first_not_above Equal others e = refl
first_not_above Greater others e = let w : Greater ≡ Less = e in absurd (cc)

-- what comes later is not above up to the stamp
later_not_above : (x y : ObservationData) → row x y ≡ Greater → is_gt (stamp_row y x) ≡ false
later_not_above x y e =
    let below : row y x ≡ Less = row_total.antisymm y x ∙ ap ordering_reverse e in
    not_above (nat_cmp (kind_number x.kind) (kind_number y.kind)) _ _
    (not_above (nat_cmp x.rtype y.rtype) _ _
    (not_above (nat_cmp y.rank x.rank) _ _ (first_not_above (nat_cmp y.stamp x.stamp) _))) below

-- what is lent as an observation without a name
lent_place : LentObservation → ObservationData
lent_place lent = record {
  kind = lent.kind;
  name = [];
  rtype = lent.rtype;
  body = [];
  rank = lent.rank;
  stamp = lent.stamp;
  life = 0;
}

eq_or_lt : (i j : ℕ) → i ≤ j → (i ≡ j) ⊎ (i < j)
eq_or_lt i j from = elim (cases_Bool (nat_eq i j)) [
  | inl same ↦ inl (grind (arith, nat_tests, same))
  | inr other ↦ inr (grind (arith, nat_tests, other, from))
]

-- those of a front that come before what is lent are its first ones
pub parted : (xs : List ObservationData) (lent : LentObservation) → IsDescending row xs
    → IsPartitionedBy (λ o. is_gt (lent_row o lent)) xs
unfolding lent_place
parted xs lent down = λ i j d from within told. elim (eq_or_lt i j from) [
  | inl same ↦ subst (λ n. is_gt (lent_row (get_or xs n d) lent) ≡ true) (sym same) told
  | inr before ↦ elim (cases_Bool (is_gt (lent_row (get_or xs i d) lent))) [
    | inl above ↦ above
    | inr below ↦ absurd (false≢true (sym
        (upto stamp_row_total (get_or xs j d) (get_or xs i d) (lent_place lent)
        (later_not_above (get_or xs i d) (get_or xs j d) (in_order row xs i j d down before within))
        below) ∙ told))
  ]
]

-- what is lent is at its own place
lent_itself : (lent : LentObservation) (z : ObservationData) → IsLent lent z
    → lent_row z lent ≡ Equal
lent_itself lent z is = rw (is.kind, is.rtype, is.rank, is.stamp) (tied_itself stamp_row_total z)

-- so it is not among those that come before it
pub after_before : (xs : List ObservationData) (n : ℕ) (lent : LentObservation)
    (z : ObservationData) → ((i : ℕ) (d : ObservationData) → i < n → i < length xs
    → is_gt (lent_row (get_or xs i d) lent) ≡ true) → IsLent lent z → Has xs z → Has (drop n xs) z
after_before xs zero lent z above is has = has
after_before [] (suc n) lent z above is has = has
after_before (x ∷ xs) (suc n) lent z above is (inl same) =
    absurd (false≢true (sym (ap is_gt (ap (λ v. lent_row v lent) same ∙ lent_itself lent z is))
    ∙ above 0 x (omega arith) (omega arith)))
after_before (x ∷ xs) (suc n) lent z above is (inr later) =
    after_before xs n lent z (λ i d in_n in_xs. above (suc i) d (omega (arith, in_n))
    (omega (arith, in_xs))) is later

-- an order in which neither is above is one of equals
neither_above : (x y : ObservationData) → is_gt (stamp_row x y) ≡ false
    → is_gt (stamp_row y x) ≡ false → stamp_row x y ≡ Equal
neither_above x y e f = is_equal (stamp_row x y) (stamp_row y x) (stamp_row_total.antisymm y x) e f
  where
    is_equal : (a b : Ordering) → b ≡ ordering_reverse a → is_gt a ≡ false → is_gt b ≡ false
        → a ≡ Equal
    is_equal Less b e f g = absurd (false≢true (sym g ∙ ap is_gt e))
    is_equal Equal b e f g = refl
    is_equal Greater b e f g = absurd (false≢true (sym f))

-- the first that doesn't come before what is lent is all that can be it
pub only_first : (xs : List ObservationData) (n : ℕ) (x z : ObservationData)
    (lent : LentObservation) → IsDescending row xs → AreApart xs → n < length xs
    → x ≡ get_or xs n x → is_gt (lent_row x lent) ≡ false → IsLent lent z → Has (drop n xs) z
    → x ≡ z
only_first xs n x z lent down apart within at level is has = elim (has_from xs n x z within at has) [
  | inl same ↦ same
  | inr later ↦
      let ahead : row x z ≡ Greater = later_behind row xs n x z down within at
      (subst (λ k. Has (drop k xs) z) (add-one n) later) in
      let beside : is_gt (stamp_row x z) ≡ false =
      rw (← is.kind, ← is.rtype, ← is.rank, ← is.stamp) level in
      apart x z (has_at xs n x within at)
      (has_dropped xs (n + 1) z later) (neither_above x z beside (later_not_above x z ahead))
]

-- what is above by two comparisons of which the first ties is so by the second
then_above : (first second : Ordering) → first ≡ Equal → ordering_then first second ≡ Greater
    → second ≡ Greater
then_above Less second e f = let w : Less ≡ Greater = f in absurd (cc)
then_above Equal second e f = f
then_above Greater second e f = let w : Greater ≡ Equal = e in absurd (cc)

above_ends : (m n : ℕ) (others : Ordering) → ordering_then (nat_cmp m n) others ≡ Greater
    → nat_le n m ≡ true
above_ends m n others e = elim (cases_Bool (nat_lt m n)) [
  | inl less ↦ let w : Less ≡ Greater =
      subst (λ b. ordering_then (cond b Less (cond (m == n) Equal Greater)) others ≡ Greater) less e
      in absurd (cc)
  | inr other ↦ grind (arith, nat_tests, other)
]

-- of two items of one name, kind, type, rank and stamp the preferred one dominates the other
over_there : (x y : ObservationData) → x.name ≡ y.name → x.kind ≡ y.kind → x.rtype ≡ y.rtype
    → x.rank ≡ y.rank → x.stamp ≡ y.stamp → preference x y ≡ Greater → dominates x y ≡ true
over_there x y name kind rtype rank stamp above =
    let ranks : nat_cmp x.rank y.rank ≡ Equal =
    ap (nat_cmp x.rank) (sym rank) ∙ tied_itself nat_cmp_total x.rank in
    let stamps : nat_cmp x.stamp y.stamp ≡ Equal =
    ap (nat_cmp x.stamp) (sym stamp) ∙ tied_itself nat_cmp_total x.stamp in
    over_to x y (record {
      same_key = rw (name, kind, rtype) refl;
      preferred = above;
      outlives = above_ends (expires x) (expires y) _ (then_above (nat_cmp x.stamp y.stamp) _ stamps
          (then_above (nat_cmp x.rank y.rank) _ ranks above));
      later = grind (arith, nat_tests, stamp);
    })

-- the items of a name are apart
module _ (items here : List ObservationData) (n : List (List ℕ)) (kind : Kind) (held : IsHeld items)
    (of_name : IsOfName kind items n here) where
  pub are_apart : AreApart here
  are_apart x y there others e =
      let k = then_parts (nat_cmp (kind_number y.kind) (kind_number x.kind)) _ e in
      let t = then_parts (nat_cmp y.rtype x.rtype) _ k.1 in
      let r = then_parts (nat_cmp x.rank y.rank) (nat_cmp x.stamp y.stamp) t.1 in
      let name : x.name ≡ y.name = of_name.named x there ∙ sym (of_name.named y others) in
      let kinds : x.kind ≡ y.kind = kind_exact x.kind y.kind (sym (exact_unsigned _ _ k.0)) in
      let rtypes : x.rtype ≡ y.rtype = sym (exact_unsigned _ _ t.0) in
      let ranks : x.rank ≡ y.rank = exact_unsigned _ _ r.0 in
      let stamps : x.stamp ≡ y.stamp = exact_unsigned _ _ r.1 in
      let ours = of_name.member x there in
      let theirs = of_name.member y others in
      elim (ordering_cases (preference x y)) [
        | inr (inl same) ↦ preference_exact x y same
        | inr (inr above) ↦ absurd (false≢true (sym (held.front.undominated y theirs x ours)
            ∙ over_there x y name kinds rtypes ranks stamps above))
        | inl below ↦ absurd (false≢true (sym (held.front.undominated x ours y theirs)
            ∙ over_there y x (sym name) (sym kinds) (sym rtypes) (sym ranks) (sym stamps)
            (preference_total.antisymm y x ∙ ap ordering_reverse below)))
      ]

-- what is in memory need not be taken in
pub held_needless : (items : List ObservationData) (f : ℕ) (o : ObservationData)
    → AreObservations items → Has items o → IsNeedless f (live_of items f) o
held_needless items f o lawful has = elim (cases_Bool (is_live items f o)) [
  | inl live ↦ inr (o, Has-in_filter (is_live items f) items o has live, inl refl)
  | inr gone ↦ inl ((past_test items f o lawful (lawful o has)).0 (ap not gone))
]

-- what was found among the items of a name, and those are of what is in memory
module _ (items here : List ObservationData) (lent : LentObservation) (b : Bool)
    (of_name : (n : List (List ℕ)) (kind : Kind) → lent.name.now ≡ wire n
    → IsOfName kind items n here)
    (found : IsTrue b ↔ ((x : ObservationData) × Has here x × IsLent lent x)) where
  pub lent_held : (o : ObservationData) → IsLent lent o → IsTrue b → Has items o
  lent_held o is told =
      let there = found.0 told in
      subst (Has items) (lent_exact lent there.0 o there.2 is)
      ((of_name o.name o.kind is.named).member there.0 there.1)

  pub held_lent : (o : ObservationData) → IsLent lent o → Has items o → IsTrue b
  held_lent o is has = found.1 (
    o,
    (of_name o.name o.kind is.named).whole o has refl refl,
    is,
  )
