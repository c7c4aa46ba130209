-- What the laws of a ranked type give of fronts. Crates above cite these, and no other file of
-- proofs/.
-- Serves `Front::drop_hidden`, `Front::first_shown`, `Front::take`, and fleet_cache, fleet_gossip,
-- fleet_world.
use Rattle.std.proofs.Common.{◌≡◌, Bool, true, false, not, List, [], ◌∷◌, ◌++◌, ◌⊎◌, inl, inr, Result, Ok, Err, OnErr, sym, ap, refl, ◌∙◌, subst}
use mathlib.Core.Bool.{false≢true}
use Rattle.std.specs.declared.cmp.Ordering.{Ordering}
use Rattle.std.specs.declared.cmp.Ordering.TheVariants.{Less, Equal, Greater}
use Rattle.std.specs.Ordering.{is_gt, ordering_reverse}
use Rattle.std.specs.List.{filter}
use Rattle.std.proofs.lemmas.Bool.{cases_Bool, not-true}
use Rattle.std.proofs.lemmas.Cmp.{tied_itself}
use Rattle.fleet_name.proofs.Lemmas.{has_either, has_left, has_right, Has-filter, Has-in_filter}
use Rattle.fleet_front.specs.Front.{RankedLaws, Has, IsDescending, IsUndominated, IsFront, without_hidden}

-- what holds anyhow holds of a refusal
pub on_err : {T E P : Type 0} (r : Result T E) → P → OnErr r P
on_err (Ok x) p = tt
on_err (Err e) p = p

-- an ordering is one of three
pub ordering_cases : (o : Ordering) → (o ≡ Less) ⊎ ((o ≡ Equal) ⊎ (o ≡ Greater))
ordering_cases Less = inl refl
ordering_cases Equal = inr (inl refl)
ordering_cases Greater = inr (inr refl)

-- what the test says of a greater value
pub greater_from : (o : Ordering) → is_gt o ≡ true → o ≡ Greater
greater_from Less e = absurd (false≢true e)
greater_from Equal e = absurd (false≢true e)
greater_from Greater e = refl

-- a filter keeps the order
pub IsDescending-filter : {X : Type 0} (order : X → X → Ordering) (p : X → Bool) (xs : List X)
    → IsDescending order xs → IsDescending order (filter p xs)
IsDescending-filter order p [] d = tt
IsDescending-filter order p (y ∷ ys) d = elim (cases_Bool (p y)) [
  | inl k ↦ rw k ((λ z h. d.0 z (Has-filter p ys z h).0), IsDescending-filter order p ys d.1)
  | inr k ↦ rw k (IsDescending-filter order p ys d.1)
]

-- two descending lists are one, where all of the first are above all of the second
pub IsDescending-append : {X : Type 0} (order : X → X → Ordering) (xs ys : List X)
    → IsDescending order xs → IsDescending order ys
    → ((x y : X) → Has xs x → Has ys y → order x y ≡ Greater) → IsDescending order (xs ++ ys)
IsDescending-append order [] ys d e f = e
IsDescending-append order (x ∷ xs) ys d e f = (
  λ z h. elim (has_either xs ys z h) [ inl l ↦ d.0 z l | inr r ↦ f x z (inl refl) r ],
  IsDescending-append order xs ys d.1 e (λ v z h k. f v z (inr h) k),
)

-- the parts of a descending list are descending, and all of the first are above the second's
pub IsDescending-parts : {X : Type 0} (order : X → X → Ordering) (xs ys : List X)
    → IsDescending order (xs ++ ys) → IsDescending order xs × IsDescending order ys
    × ((x y : X) → Has xs x → Has ys y → order x y ≡ Greater)
IsDescending-parts order [] ys d = (tt, d, λ x y h k. absurd h)
IsDescending-parts order (x ∷ xs) ys d =
    let r = IsDescending-parts order xs ys d.1 in (
      (λ z h. d.0 z (has_left xs ys z h), r.0),
      r.1,
      λ v z h k. elim h [
        | inl e ↦ subst (λ u. order u z ≡ Greater) e (d.0 z (has_right xs ys z k))
        | inr m ↦ r.2 v z m k
      ],
    )

module _ {T C : Type 0} {order : T → T → Ordering} {dominates : T → T → Bool}
    {hidden : C → T → Bool} (laws : RankedLaws order dominates hidden) where
  -- from below to above, and back
  turned : (x y : T) → order x y ≡ Less → order y x ≡ Greater
  turned x y e = laws.total.antisymm y x ∙ ap ordering_reverse e

  turned_back : (x y : T) → order x y ≡ Greater → order y x ≡ Less
  turned_back x y e = laws.total.antisymm y x ∙ ap ordering_reverse e

  -- above one that is above is above
  pub above : (x y z : T) → order x y ≡ Greater → order y z ≡ Greater → order x z ≡ Greater
  above x y z e f = turned z x (laws.total.trans z y x (turned_back y z f) (turned_back x y e))

  -- nothing dominates itself
  pub not_itself : (x : T) → dominates x x ≡ true → ⊥
  not_itself x e = let g = laws.greater x x e in let s = tied_itself laws.total x in cc

  -- what is undominated in s, or x, and above x
  abbrev pub Peak : List T → T → Type 0
  Peak s x = (y : T) × ((y ≡ x) ⊎ (Has s y × (dominates y x ≡ true))) × IsUndominated dominates s y

  -- z is above the peak so far: it is the new one
  over_peak : (z : T) (s : List T) (x : T) (p : Peak s x) → dominates z p.0 ≡ true → Peak (z ∷ s) x
  over_peak z s x p e = (
    z,
    inr (
      inl refl,
      elim p.1 [
        | inl same ↦ ap (dominates z) (sym same) ∙ e
        | inr far ↦ laws.chained z p.0 x e far.1
      ],
    ),
    λ w h. elim (cases_Bool (dominates w z)) [
      | inr f ↦ f
      | inl t ↦ elim h [
        | inl same ↦ absurd (not_itself z (ap (λ v. dominates v z) same ∙ t))
        | inr rest ↦ absurd (false≢true (sym (p.2 w rest) ∙ laws.chained w z p.0 t e))
      ]
    ],
  )

  -- z is not above the peak so far
  same_peak : (z : T) (s : List T) (x : T) (p : Peak s x) → dominates z p.0 ≡ false → Peak (z ∷ s) x
  same_peak z s x p e = (
    p.0,
    elim p.1 [ inl same ↦ inl same | inr far ↦ inr (inr far.0, far.1) ],
    λ w h. elim h [
      | inl same ↦ ap (λ v. dominates v p.0) (sym same) ∙ e
      | inr rest ↦ p.2 w rest
    ],
  )

  -- a set is finite, so each value has an undominated one that is it or dominates it
  pub climb : (s : List T) (x : T) → Peak s x
  climb [] x = (x, inl refl, λ z h. absurd h)
  climb (z ∷ s) x = elim (cases_Bool (dominates z (climb s x).0)) [
    | inl e ↦ over_peak z s x (climb s x) e
    | inr e ↦ same_peak z s x (climb s x) e
  ]

  -- a front is the front of its own items
  pub front_itself : (s items : List T) → IsFront order dominates s items
      → IsFront order dominates items items
  front_itself s items front = record {
    descending = front.descending;
    of_set = λ y h. h;
    undominated = λ i h w m. front.undominated i h w (front.of_set w m);
    whole = λ w m free. m;
  }

  -- a cut commutes with the front
  pub front_shown : (c : C) (s items : List T) → IsFront order dominates s items
      → IsFront order dominates (without_hidden hidden c s) (without_hidden hidden c items)
  front_shown c s items front = record {
    descending = IsDescending-filter order _ items front.descending;
    of_set = λ y h. let k = Has-filter _ items y h in Has-in_filter _ s y (front.of_set y k.0) k.1;
    undominated =
        λ i h w m. front.undominated i (Has-filter _ items i h).0 w (Has-filter _ s w m).0;
    whole = λ w m free. let k = Has-filter _ s w m in
        Has-in_filter _ items w (front.whole w k.0 (λ y h. all_free w k.1 free y h)) k.1;
  }
    where
      all_free : (w : T) → not (hidden c w) ≡ true
          → IsUndominated dominates (without_hidden hidden c s) w
          → IsUndominated dominates s w
      all_free w seen free y h = elim (cases_Bool (dominates y w)) [
        | inr f ↦ f
        | inl t ↦ elim (cases_Bool (hidden c y)) [
          | inl hid ↦ absurd (false≢true (sym (not-true _ seen) ∙ laws.hides_below c y w hid t))
          | inr vis ↦ free y (Has-in_filter _ s y h (ap not vis))
        ]
      ]

  -- of two values one alone is the greater
  pub never_both : (x y : T) → order x y ≡ Greater → order y x ≡ Greater → ⊥
  never_both x y e f = let g : order y x ≡ Less = turned_back x y e in cc

  -- two descending lists of the same values are one
  pub descending_same : (xs ys : List T) → IsDescending order xs → IsDescending order ys
      → ((z : T) → Has xs z → Has ys z) → ((z : T) → Has ys z → Has xs z) → xs ≡ ys
  descending_same [] [] d e f g = refl
  descending_same [] (y ∷ ys) d e f g = absurd (g y (inl refl))
  descending_same (x ∷ xs) [] d e f g = absurd (f x (inl refl))
  descending_same (x ∷ xs) (y ∷ ys) d e f g =
      let top : x ≡ y = elim (f x (inl refl)) [
        | inl same ↦ sym same
        | inr later ↦ elim (g y (inl refl)) [
          | inl same ↦ same
          | inr far ↦ absurd (never_both x y (d.0 y far) (e.0 x later))
        ]
      ] in
      let left : (z : T) → Has xs z → Has ys z = λ z h. elim (f z (inr h)) [
        | inl same ↦ absurd
            (never_both x x (subst (λ v. order x v ≡ Greater) (sym (top ∙ same)) (d.0 z h))
            (subst (λ v. order x v ≡ Greater) (sym (top ∙ same)) (d.0 z h)))
        | inr old ↦ old
      ] in
      let right : (z : T) → Has ys z → Has xs z = λ z h. elim (g z (inr h)) [
        | inl same ↦ absurd
            (never_both y y (subst (λ v. order y v ≡ Greater) (sym (sym top ∙ same)) (e.0 z h))
            (subst (λ v. order y v ≡ Greater) (sym (sym top ∙ same)) (e.0 z h)))
        | inr old ↦ old
      ] in
      let rest = descending_same xs ys d.1 e.1 left right in
      cc

  -- a set has one front, whatever the order and the number in which its values are listed
  pub front_same : (s t xs ys : List T) → IsFront order dominates s xs
      → IsFront order dominates t ys → ((z : T) → Has s z → Has t z) → ((z : T) → Has t z → Has s z)
      → xs ≡ ys
  front_same s t xs ys a b f g = descending_same xs ys a.descending b.descending
      (λ z h. b.whole z (f z (a.of_set z h)) (λ w m. a.undominated z h w (g w m)))
      (λ z h. a.whole z (g z (b.of_set z h)) (λ w m. b.undominated z h w (f w m)))
