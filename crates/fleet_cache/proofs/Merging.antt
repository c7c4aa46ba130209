-- What two lists hold as one, and what a change of one of them does to the whole.
-- Serves what `Both`, `ListedFronts` serve.
use Rattle.std.proofs.Common.{ℕ, ◌+◌, ◌≤◌, ◌≡◌, true, false, List, [], ◌∷◌, ◌⊎◌, ◌↔◌, inl, inr, length, refl, sym, ap, ◌∙◌, subst, arith}
use mathlib.Core.Bool.{false≢true}
use Rattle.std.specs.List.{filter}
use Rattle.std.specs.Ordering.{is_lt, ordering_reverse}
use Rattle.std.specs.declared.cmp.Ordering.TheVariants.{Greater}
use Rattle.std.proofs.lemmas.Bool.{cases_Bool}
use Rattle.std.proofs.lemmas.Cmp.{nat_list_cmp_total}
use Rattle.std.proofs.lemmas.Map.Lookups.{exact_bytes}
use Rattle.fleet_name.specs.Name.{wire, IsName}
use Rattle.fleet_name.proofs.Lemmas.{wire_exact, Has-filter, Has-in_filter}
use Rattle.fleet_front.proofs.Lemmas.{ordering_cases, above, descending_same, IsDescending-filter}
use Rattle.fleet_observe.specs.Members.{Has}
use Rattle.fleet_observe.specs.Observation.{ObservationData}
use Rattle.fleet_observe.specs.Preference.{name_cmp}
use Rattle.fleet_cache.specs.Front.{IsDescending, IsFront}
use Rattle.fleet_cache.specs.Dominates.{dominates}
use Rattle.fleet_cache.specs.Cut.{CutData}
use Rattle.fleet_cache.specs.Cached.{item_order, IsCovered}
use Rattle.fleet_cache.specs.steps.Held.{IsHeld}
use Rattle.fleet_cache.specs.steps.Keyed.{HasNoKey, IsOfKey}
use Rattle.fleet_cache.specs.steps.Merged.{is_before, merged_from, merged}
use Rattle.fleet_cache.specs.steps.Packed.{octet_words, words_of}
use Rattle.fleet_cache.specs.steps.Reclaimed.{IsThinned, IsTrimmed, IsCleared}
use Rattle.fleet_cache.proofs.Keys.{place_before}
use Rattle.fleet_cache.proofs.Places.{place_laws}
use Rattle.fleet_cache.proofs.Slots.{over_words}

pub merged_nil : (xs : List ObservationData) → merged xs [] ≡ xs
merged_nil [] = refl
merged_nil (x ∷ xs) = ap (λ v. x ∷ v) (merged_nil xs)

-- one of x, of what P names and of the items is among them
module _ (x : ObservationData) (P : ObservationData → Type 0)
    (rest : List ObservationData → List ObservationData) where
  in_from : ((ys : List ObservationData) (z : ObservationData) → Has (rest ys) z → P z ⊎ Has ys z)
      → (ys : List ObservationData) (z : ObservationData) → Has (merged_from x rest ys) z
      → ((x ≡ z) ⊎ P z) ⊎ Has ys z
  in_from known [] z h = elim h [
    | inl e ↦ inl (inl e)
    | inr r ↦ elim (known [] z r) [ inl p ↦ inl (inr p) | inr q ↦ absurd q ]
  ]
  in_from known (y ∷ ys) z h = elim (cases_Bool (is_before x y)) [
    | inl yea ↦ elim (rw yea at h) [
      | inl e ↦ inl (inl e)
      | inr r ↦ elim (known (y ∷ ys) z r) [ inl p ↦ inl (inr p) | inr q ↦ inr q ]
    ]
    | inr nay ↦ elim (rw nay at h) [
      | inl e ↦ inr (inl e)
      | inr r ↦ elim (in_from known ys z r) [ inl p ↦ inl p | inr q ↦ inr (inr q) ]
    ]
  ]

  from_left : ((ys : List ObservationData) (z : ObservationData) → P z → Has (rest ys) z)
      → (ys : List ObservationData) (z : ObservationData) → (x ≡ z) ⊎ P z
      → Has (merged_from x rest ys) z
  from_left known [] z h = elim h [ inl e ↦ inl e | inr p ↦ inr (known [] z p) ]
  from_left known (y ∷ ys) z h = elim (cases_Bool (is_before x y)) [
    | inl yea ↦ rw yea (elim h [ inl e ↦ inl e | inr p ↦ inr (known (y ∷ ys) z p) ])
    | inr nay ↦ rw nay (inr (from_left known ys z h))
  ]

  from_right : ((ys : List ObservationData) (z : ObservationData) → Has ys z → Has (rest ys) z)
      → (ys : List ObservationData) (z : ObservationData) → Has ys z
      → Has (merged_from x rest ys) z
  from_right known [] z h = absurd h
  from_right known (y ∷ ys) z h = elim (cases_Bool (is_before x y)) [
    | inl yea ↦ rw yea (inr (known (y ∷ ys) z h))
    | inr nay ↦ rw nay (elim h [ inl e ↦ inl e | inr r ↦ inr (from_right known ys z r) ])
  ]

  from_size : (n : ℕ) → ((ys : List ObservationData) → length (rest ys) ≡ n + length ys)
      → (ys : List ObservationData) → length (merged_from x rest ys) ≡ n + 1 + length ys
  from_size n known [] = let k = known [] in omega (arith, k)
  from_size n known (y ∷ ys) = elim (cases_Bool (is_before x y)) [
    | inl yea ↦ rw yea (let k = known (y ∷ ys) in omega (arith, k))
    | inr nay ↦ rw nay (let k = from_size n known ys in omega (arith, k))
  ]

pub in_merged : (xs ys : List ObservationData) (z : ObservationData) → Has (merged xs ys) z
    → Has xs z ⊎ Has ys z
in_merged [] ys z h = inr h
in_merged (x ∷ xs) ys z h = in_from x (Has xs) (merged xs) (in_merged xs) ys z h

merged_left : (xs ys : List ObservationData) (z : ObservationData) → Has xs z
    → Has (merged xs ys) z
merged_left [] ys z h = absurd h
merged_left (x ∷ xs) ys z h = from_left x (Has xs) (merged xs) (merged_left xs) ys z h

merged_right : (xs ys : List ObservationData) (z : ObservationData) → Has ys z
    → Has (merged xs ys) z
merged_right [] ys z h = h
merged_right (x ∷ xs) ys z h = from_right x (Has xs) (merged xs) (merged_right xs) ys z h

merged_size : (xs ys : List ObservationData) → length (merged xs ys) ≡ length xs + length ys
merged_size [] ys = omega arith
merged_size (x ∷ xs) ys =
    let k = from_size x (Has xs) (merged xs) (length xs) (merged_size xs) ys in omega (arith, k)

-- the items of m are those of s and of r
pub record IsSplit (m s r : List ObservationData) : Type 0 where
  pub into : (z : ObservationData) → Has m z → Has s z ⊎ Has r z
  pub left : (z : ObservationData) → Has s z → Has m z
  pub right : (z : ObservationData) → Has r z → Has m z
  pub size : length m ≡ length s + length r

pub split_short : (xs ys : List ObservationData) → IsSplit (merged xs ys) xs ys
split_short xs ys = record {
  into = in_merged xs ys;
  left = merged_left xs ys;
  right = merged_right xs ys;
  size = merged_size xs ys;
}

pub split_long : (xs ys : List ObservationData) → IsSplit (merged xs ys) ys xs
split_long xs ys = record {
  into = λ z h. elim (in_merged xs ys z h) [ inl l ↦ inr l | inr r ↦ inl r ];
  left = merged_right xs ys;
  right = merged_left xs ys;
  size = (let k = merged_size xs ys in omega (arith, k));
}

-- where a part has one more at most, so has the whole
pub more_size : {m m' s n r : List ObservationData} → IsSplit m s r → IsSplit m' n r
    → length n ≤ length s + 1 → length m' ≤ length m + 1
more_size split split' size =
    let a = split.size in let b = split'.size in omega (arith, a, b, size)

-- each item is of a name
abbrev pub AreNamed : List ObservationData → Type 0
AreNamed xs = (x : ObservationData) → Has xs x → IsName x.name

-- no name is in both
abbrev pub AreApart : List ObservationData → List ObservationData → Type 0
AreApart xs ys = (x : ObservationData) → Has xs x → (y : ObservationData) → Has ys y
    → words_of x ≡ words_of y → ⊥

-- what is not before a name that is another is after it
behind : (x y : ObservationData) → (x.name ≡ y.name → ⊥) → is_before x y ≡ false
    → name_cmp x.name y.name ≡ Greater
behind x y apart e = elim (ordering_cases (name_cmp x.name y.name)) [
  | inl less ↦ absurd (false≢true (sym e ∙ ap is_lt less))
  | inr more ↦ elim more [
    | inl same ↦ absurd (apart (wire_exact x.name y.name (exact_bytes _ _ same)))
    | inr greater ↦ greater
  ]
]

before : (x y : ObservationData) → is_before x y ≡ true → name_cmp y.name x.name ≡ Greater
before x y e = elim (ordering_cases (name_cmp x.name y.name)) [
  | inl less ↦ nat_list_cmp_total.antisymm (wire y.name) (wire x.name) ∙ ap ordering_reverse less
  | inr more ↦ elim more [
    | inl same ↦ absurd (false≢true (sym (ap is_lt same) ∙ e))
    | inr greater ↦ absurd (false≢true (sym (ap is_lt greater) ∙ e))
  ]
]

-- one more before what descends
module _ (x : ObservationData) (xs : List ObservationData)
    (first : (z : ObservationData) → Has xs z → item_order x z ≡ Greater)
    (named : IsName x.name) where
  descend_from : ((ys : List ObservationData) → IsDescending item_order ys → AreNamed ys
      → AreApart (x ∷ xs) ys → IsDescending item_order (merged xs ys))
      → (ys : List ObservationData) → IsDescending item_order ys → AreNamed ys
      → AreApart (x ∷ xs) ys → IsDescending item_order (merged_from x (merged xs) ys)
  descend_from known [] e n apart = (
    λ z h. elim (in_merged xs [] z h) [ inl l ↦ first z l | inr r ↦ absurd r ],
    known [] e n apart,
  )
  descend_from known (y ∷ ys) e n apart = elim (cases_Bool (is_before x y)) [
    | inl yea ↦
        let up : item_order x y ≡ Greater =
        place_before x y named (n y (inl refl)) (before x y yea) in
        rw yea (
          λ z h. elim (in_merged xs (y ∷ ys) z h) [
            | inl l ↦ first z l
            | inr r ↦ elim r [
              | inl same ↦ subst (λ v. item_order x v ≡ Greater) same up
              | inr far ↦ above place_laws x y z up (e.0 z far)
            ]
          ],
          known (y ∷ ys) e n apart,
        )
    | inr nay ↦
        let up : item_order y x ≡ Greater =
        place_before y x (n y (inl refl)) named
        (behind x y (λ same. apart x (inl refl) y (inl refl) (ap (λ v. octet_words (wire v)) same)) nay) in
        rw nay (
          λ z h. elim (in_merged (x ∷ xs) ys z h) [
            | inl l ↦ elim l [
              | inl same ↦ subst (λ v. item_order y v ≡ Greater) same up
              | inr far ↦ above place_laws y x z up (first z far)
            ]
            | inr r ↦ e.0 z r
          ],
          descend_from known ys e.1 (λ z h. n z (inr h)) (λ v h w k. apart v h w (inr k)),
        )
  ]

-- in order, both are in order as one
pub merged_descends : (xs ys : List ObservationData) → IsDescending item_order xs
    → IsDescending item_order ys → AreNamed xs → AreNamed ys → AreApart xs ys
    → IsDescending item_order (merged xs ys)
merged_descends [] ys d e n m apart = e
merged_descends (x ∷ xs) ys d e n m apart = descend_from x xs d.0 (n x (inl refl))
    (λ zs f k far. merged_descends xs zs d.1 f (λ z h. n z (inr h)) k (λ v h w l. far v (inr h) w l))
    ys e m apart

-- of what is held, a part is the front of itself
pub part_front : (m s r : List ObservationData) → IsHeld m → IsSplit m s r → IsDescending item_order s
    → IsFront item_order dominates s s
part_front m s r held split order = record {
  descending = order;
  of_set = λ z h. h;
  undominated = λ z h w k. held.front.undominated z (split.left z h) w (split.left w k);
  whole = λ z h free. h;
}

-- what makes x needless is of its name
pub cover_words : (y x : ObservationData) → (y ≡ x) ⊎ (dominates y x ≡ true) → words_of y ≡ words_of x
cover_words y x c = elim c [ inl same ↦ ap words_of same | inr over ↦ over_words y x over ]

-- only the part with the names like that of x counts for it
pub split_covered : (m s r : List ObservationData) (x : ObservationData) → IsSplit m s r
    → AreApart (x ∷ s) r → IsCovered s x ↔ IsCovered m x
split_covered m s r x split apart = (
  (λ c. (c.0, split.left c.0 c.1, c.2)),
  λ c. (
    c.0,
    elim (split.into c.0 c.1) [
      | inl here ↦ here
      | inr far ↦ absurd (apart x (inl refl) c.0 far (sym (cover_words c.0 x c.2)))
    ],
    c.2,
  ),
)

-- x was taken into the part s of what is held, which is n then; the part r stays
module _ (m m' s n r : List ObservationData) (x : ObservationData) (held : IsHeld m)
    (split : IsSplit m s r) (split' : IsSplit m' n r) (order : IsDescending item_order m')
    (apart : AreApart (x ∷ s) r) (part : IsFront item_order dominates (x ∷ s) n) where
  -- what dominates another one is of the same part
  never : (w y : ObservationData) → Has (x ∷ s) w → Has r y → dominates w y ≡ false
  never w y h k = elim (cases_Bool (dominates w y)) [
    | inr nay ↦ nay
    | inl yea ↦ absurd (apart w h y k (over_words w y yea))
  ]

  never_back : (w y : ObservationData) → Has r w → Has (x ∷ s) y → dominates w y ≡ false
  never_back w y h k = elim (cases_Bool (dominates w y)) [
    | inr nay ↦ nay
    | inl yea ↦ absurd (apart y k w h (sym (over_words w y yea)))
  ]

  among : (y : ObservationData) → Has (x ∷ s) y → Has (x ∷ m) y
  among y h = elim h [ inl same ↦ inl same | inr far ↦ inr (split.left y far) ]

  apart_from : (y : ObservationData) → Has (x ∷ m) y → Has (x ∷ s) y ⊎ Has r y
  apart_from y h = elim h [
    | inl same ↦ inl (inl same)
    | inr far ↦ elim (split.into y far) [ inl l ↦ inl (inr l) | inr k ↦ inr k ]
  ]

  pub split_front : IsFront item_order dominates (x ∷ m) m'
  split_front = record {
    descending = order;
    of_set = λ y h. elim (split'.into y h) [
      | inl l ↦ among y (part.of_set y l)
      | inr k ↦ inr (split.right y k)
    ];
    undominated = λ y h w k. elim (split'.into y h) [
      | inl l ↦ elim (apart_from w k) [
        | inl here ↦ part.undominated y l w here
        | inr far ↦ never_back w y far (part.of_set y l)
      ]
      | inr l ↦ elim k [
        | inl same ↦ never w y (inl same) l
        | inr old ↦ held.front.undominated y (split.right y l) w old
      ]
    ];
    whole = λ y h free. elim (apart_from y h) [
      | inl here ↦ split'.left y (part.whole y here (λ w k. free w (among w k)))
      | inr far ↦ split'.right y far
    ];
  }

-- what is held of one map's names changed as a cut says
module _ (m m' s n r : List ObservationData) (words : List ℕ) (cut : CutData)
    (split : IsSplit m s r) (split' : IsSplit m' n r) (was : IsDescending item_order m)
    (order : IsDescending item_order m') where
  pub split_trimmed : IsTrimmed words cut s n → IsTrimmed words cut m m'
  split_trimmed trim lives known =
      let thin = trim lives (λ o h k. known o (split.left o h) k) in
      record {
        live_still = descending_same place_laws (filter lives m') (filter lives m)
            (IsDescending-filter item_order lives m' order)
            (IsDescending-filter item_order lives m was)
            (λ z h. into z thin (Has-filter lives m' z h))
            (λ z h. back z thin (Has-filter lives m z h));
        of_items = λ z h. elim (split'.into z h) [
          | inl l ↦ split.left z (thin.of_items z l)
          | inr k ↦ split.right z k
        ];
        size = (let a = split.size in let b = split'.size in omega (arith, a, b, thin.size));
      }
    where
      into : (z : ObservationData) → IsThinned lives s n → Has m' z × (lives z ≡ true)
          → Has (filter lives m) z
      into z thin h = Has-in_filter lives m z (elim (split'.into z h.0) [
        | inl l ↦ split.left z (thin.of_items z l)
        | inr k ↦ split.right z k
      ]) h.1

      back : (z : ObservationData) → IsThinned lives s n → Has m z × (lives z ≡ true)
          → Has (filter lives m') z
      back z thin h = Has-in_filter lives m' z (elim (split.into z h.0) [
        | inl l ↦ split'.left z (Has-filter lives n z (subst (λ v. Has v z) (sym thin.live_still)
            (Has-in_filter lives s z l h.1))).0
        | inr k ↦ split'.right z k
      ]) h.1

  pub split_cleared : ((o : ObservationData) → Has r o → words_of o ≡ words → ⊥)
      → IsCleared words cut n → IsCleared words cut m'
  split_cleared none clear o h k = elim (split'.into o h) [
    | inl l ↦ clear o l k
    | inr far ↦ absurd (none o far k)
  ]

-- what is found in the map of a key is found in both
module _ (m s r : List ObservationData) (words : List ℕ) (split : IsSplit m s r)
    (none : (o : ObservationData) → Has r o → words_of o ≡ words → ⊥) where
  pub split_none : HasNoKey s words → HasNoKey m words
  split_none gone o h k = elim (split.into o h) [ inl l ↦ gone o l k | inr far ↦ none o far k ]

  pub split_found : (f : List ObservationData) → IsOfKey s words f → IsOfKey m words f
  split_found f found = record {
    member = λ o h. split.left o (found.member o h);
    keyed = found.keyed;
    packable = found.packable;
    whole = λ o h k. elim (split.into o h) [
      | inl l ↦ found.whole o l k
      | inr far ↦ absurd (none o far k)
    ];
    own_front = found.own_front;
  }
