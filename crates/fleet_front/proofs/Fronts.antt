-- What taking a value in makes of a front.
-- Serves `Front::first_shown`, `Front::take`.
use Rattle.std.proofs.Common.{◌≡◌, Bool, true, false, ◌||◌, not, if◌then◌else◌, List, [], ◌∷◌, ◌⊎◌, inl, inr, sym, ap, refl, ◌∙◌, subst}
use mathlib.Core.Bool.{false≢true}
use Rattle.std.specs.List.{filter, insert, list_any}
use Rattle.std.specs.Cmp.{Equal-is}
use Rattle.std.specs.declared.cmp.Ordering.{Ordering}
use Rattle.std.specs.declared.cmp.Ordering.TheVariants.{Less, Equal, Greater}
use Rattle.std.specs.Ordering.{is_eq, is_gt, ordering_reverse}
use Rattle.std.proofs.lemmas.Bool.{cases_Bool, not-true, or_parts}
use Rattle.std.proofs.lemmas.Cmp.{tied_itself}
use Rattle.fleet_name.proofs.Lemmas.{Has-filter, Has-in_filter}
use Rattle.fleet_front.specs.Front.{RankedLaws, Has, IsDescending, IsUndominated, IsFront, IsCovered, IsGreatest, is_covered, count_above}
use Rattle.fleet_front.proofs.Lemmas.{greater_from, IsDescending-filter, above, not_itself, climb}

less_from_tests : (o : Ordering) → is_gt o ≡ false → is_eq o ≡ false → o ≡ Less
less_from_tests Less e f = refl
less_from_tests Equal e f = absurd (false≢true (sym f))
less_from_tests Greater e f = absurd (false≢true (sym e))

-- where the second of two is false, the first holds
or_left : (a b : Bool) → (a || b) ≡ true → b ≡ false → a ≡ true
or_left true b e f = refl
or_left false b e f = absurd (false≢true (sym f ∙ e))

-- what `list_any` says
pub any_false : {X : Type 0} (test : X → Bool) (xs : List X) → list_any test xs ≡ false → (y : X)
    → Has xs y → test y ≡ false
any_false test [] e y h = absurd h
any_false test (x ∷ xs) e y (inl same) =
    ap test (sym same) ∙ (or_parts (test x) (list_any test xs) e).0
any_false test (x ∷ xs) e y (inr rest) =
    any_false test xs (or_parts (test x) (list_any test xs) e).1 y rest

pub any_true : {X : Type 0} (test : X → Bool) (xs : List X) → list_any test xs ≡ true
    → (y : X) × Has xs y × (test y ≡ true)
any_true test [] e = absurd (false≢true e)
any_true test (x ∷ xs) e = elim (cases_Bool (test x)) [
  | inl k ↦ (x, inl refl, k)
  | inr k ↦ let r = any_true test xs (rw k at e) in (r.0, inr r.1, r.2)
]

-- x in its place
abbrev pub insert_by : {X : Type 0} → (X → X → Ordering) → X → List X → List X
insert_by order x [] = x ∷ []
insert_by order x (y ∷ ys) =
    if is_gt (order y x) then y ∷ insert_by order x ys else x ∷ y ∷ ys

pub insert-count_above : {X : Type 0} (order : X → X → Ordering) (x : X) (ys : List X)
    → insert ys (count_above order x ys) x ≡ insert_by order x ys
insert-count_above order x [] = refl
insert-count_above order x (y ∷ ys) = elim (cases_Bool (is_gt (order y x))) [
  | inl k ↦ rw k (ap (λ t. y ∷ t) (insert-count_above order x ys))
  | inr k ↦ rw k refl
]

pub Has-insert_by : {X : Type 0} (order : X → X → Ordering) (x : X) (ys : List X) (z : X)
    → Has (insert_by order x ys) z → (x ≡ z) ⊎ Has ys z
Has-insert_by order x [] z h = h
Has-insert_by order x (y ∷ ys) z h = elim (cases_Bool (is_gt (order y x))) [
  | inl k ↦ elim (rw k at h) [
    | inl same ↦ inr (inl same)
    | inr rest ↦ elim (Has-insert_by order x ys z rest) [ inl e ↦ inl e | inr r ↦ inr (inr r) ]
  ]
  | inr k ↦ rw k at h
]

pub Has-inserted : {X : Type 0} (order : X → X → Ordering) (x : X) (ys : List X) (z : X)
    → (x ≡ z) ⊎ Has ys z → Has (insert_by order x ys) z
Has-inserted order x [] z h = h
Has-inserted order x (y ∷ ys) z h = elim (cases_Bool (is_gt (order y x))) [
  | inl k ↦ rw k (elim h [
    | inl e ↦ inr (Has-inserted order x ys z (inl e))
    | inr old ↦ elim old [ inl e ↦ inl e | inr r ↦ inr (Has-inserted order x ys z (inr r)) ]
  ])
  | inr k ↦ rw k h
]

module _ {T C : Type 0} {order : T → T → Ordering} {dominates : T → T → Bool}
    {hidden : C → T → Bool} (laws : RankedLaws order dominates hidden) where
  -- the test for what is covered
  pub covered_from : (x : T) (items : List T) → is_covered order dominates x items ≡ true
      → IsCovered dominates items x
  covered_from x items cov =
      let by = any_true (λ y. is_eq (order y x) || dominates y x) items cov in (
        by.0,
        by.1,
        elim (cases_Bool (dominates by.0 x)) [
          | inl t ↦ inr t
          | inr f ↦ inl (laws.exact by.0 x ((Equal-is (order by.0 x)).0 (or_left _ _ by.2 f)))
        ],
      )

  pub uncovered_from : (x : T) (items : List T) → is_covered order dominates x items ≡ false
      → IsCovered dominates items x → ⊥
  uncovered_from x items unc c =
      let k =
      or_parts (is_eq (order c.0 x)) (dominates c.0 x)
      (any_false (λ v. is_eq (order v x) || dominates v x) items unc c.0 c.1) in
      elim c.2 [
        | inl same ↦ false≢true
            (sym k.0 ∙ ap is_eq (ap (λ v. order v x) same ∙ tied_itself laws.total x))
        | inr over ↦ false≢true (sym k.1 ∙ over)
      ]

  -- the value is there or dominated: nothing changes
  pub front_covered : (x : T) (s items : List T) → is_covered order dominates x items ≡ true
      → IsFront order dominates s items → IsFront order dominates (x ∷ s) items
  front_covered x s items cov front = record {
    descending = front.descending;
    of_set = λ y h. inr (front.of_set y h);
    undominated = λ i h w m. elim m [
      | inl same ↦ ap (λ v. dominates v i) (sym same) ∙ not_over i h
      | inr old ↦ front.undominated i h w old
    ];
    whole = λ w m free. elim m [
      | inl same ↦ by_cover w same free
      | inr old ↦ front.whole w old (λ y k. free y (inr k))
    ];
  }
    where
      by : (y : T) × Has items y × ((is_eq (order y x) || dominates y x) ≡ true)
      by = any_true (λ y. is_eq (order y x) || dominates y x) items cov

      cases : (by.0 ≡ x) ⊎ (dominates by.0 x ≡ true)
      cases = elim (cases_Bool (dominates by.0 x)) [
        | inl t ↦ inr t
        | inr f ↦ inl (laws.exact by.0 x ((Equal-is (order by.0 x)).0 (or_left _ _ by.2 f)))
      ]

      not_over : (i : T) → Has items i → dominates x i ≡ false
      not_over i h = elim (cases_Bool (dominates x i)) [
        | inr f ↦ f
        | inl t ↦ elim cases [
          | inl same ↦
              absurd (false≢true
              (sym (front.undominated i h by.0 (front.of_set by.0 by.1)) ∙ ap (λ v. dominates v i)
              same
              ∙ t))
          | inr over ↦
              absurd (false≢true
              (sym (front.undominated i h by.0 (front.of_set by.0 by.1))
              ∙ laws.chained by.0 x i over t))
        ]
      ]

      by_cover : (w : T) → x ≡ w → IsUndominated dominates (x ∷ s) w → Has items w
      by_cover w same free = elim cases [
        | inl here ↦ subst (Has items) (here ∙ same) by.1
        | inr over ↦
            absurd (false≢true
            (sym (free by.0 (inr (front.of_set by.0 by.1))) ∙ ap (dominates by.0) (sym same)
            ∙ over))
      ]

  -- x goes among smaller and greater values
  IsDescending-insert_by : (x : T) (ys : List T) → ((y : T) → Has ys y → is_eq (order y x) ≡ false)
      → IsDescending order ys → IsDescending order (insert_by order x ys)
  IsDescending-insert_by x [] apart d = ((λ y h. absurd h), tt)
  IsDescending-insert_by x (y ∷ ys) apart d = elim (cases_Bool (is_gt (order y x))) [
    | inl e ↦
        let after : (z : T) → Has (insert_by order x ys) z → order y z ≡ Greater = λ z h.
        elim (Has-insert_by order x ys z h) [
          | inl same ↦ ap (order y) (sym same) ∙ greater_from _ e
          | inr old ↦ d.0 z old
        ] in
        rw e (after, IsDescending-insert_by x ys (λ z h. apart z (inr h)) d.1)
    | inr e ↦
        let top : order x y ≡ Greater =
        laws.total.antisymm x y ∙ ap ordering_reverse (less_from_tests _ e (apart y (inl refl))) in
        let after : (z : T) → Has (y ∷ ys) z → order x z ≡ Greater = λ z h. elim h [
          | inl same ↦ ap (order x) (sym same) ∙ top
          | inr old ↦ above laws x y z top (d.0 z old)
        ] in
        rw e (after, d)
  ]

  -- the items after x was taken
  abbrev pub with_value : T → List T → List T
  with_value x items = insert_by order x (filter (λ y. not (dominates x y)) items)

  -- the value is new and undominated: it goes in, and what it dominates goes
  pub front_inserted : (x : T) (s items : List T) → is_covered order dominates x items ≡ false
      → IsFront order dominates s items → IsFront order dominates (x ∷ s) (with_value x items)
  front_inserted x s items unc front = record {
    descending =
        IsDescending-insert_by x kept (λ y h. (uncovered y (Has-filter _ items y h).0).0)
        (IsDescending-filter order _ items front.descending);
    of_set = λ y h. elim (Has-insert_by order x kept y h) [
      | inl same ↦ inl same
      | inr old ↦ inr (front.of_set y (Has-filter _ items y old).0)
    ];
    undominated = λ i h w m. elim (Has-insert_by order x kept i h) [
      | inl same ↦ subst (λ v. dominates w v ≡ false) same (top w m)
      | inr old ↦ elim m [
        | inl here ↦ ap (λ v. dominates v i) (sym here) ∙ not-true _ (Has-filter _ items i old).1
        | inr there ↦ front.undominated i (Has-filter _ items i old).0 w there
      ]
    ];
    whole = λ w m free. elim m [
      | inl same ↦ Has-inserted order x kept w (inl same)
      | inr old ↦ Has-inserted order x kept w
          (inr (Has-in_filter _ items w (front.whole w old (λ y k. free y (inr k)))
          (ap not (free x (inl refl)))))
    ];
  }
    where
      kept : List T
      kept = filter (λ y. not (dominates x y)) items

      uncovered : (y : T) → Has items y → (is_eq (order y x) ≡ false) × (dominates y x ≡ false)
      uncovered y h =
          or_parts _ _ (any_false (λ v. is_eq (order v x) || dominates v x) items unc y h)

      top : (w : T) → Has (x ∷ s) w → dominates w x ≡ false
      top w m = elim (cases_Bool (dominates w x)) [
        | inr f ↦ f
        | inl t ↦ elim m [
          | inl same ↦ absurd (not_itself laws x (ap (λ v. dominates v x) same ∙ t))
          | inr old ↦ elim (climb laws s x).1 [
            | inl here ↦
                absurd (false≢true (sym ((climb laws s x).2 w old) ∙ ap (dominates w) here ∙ t))
            | inr far ↦
                absurd (false≢true
                (sym (uncovered (climb laws s x).0
                (front.whole (climb laws s x).0 far.0 (climb laws s x).2)).1 ∙ far.1))
          ]
        ]
      ]

  -- the first item is the greatest of the set
  pub front_first : (s rest : List T) (x : T) → IsFront order dominates s (x ∷ rest)
      → IsGreatest order s x
  front_first s rest x front = record {
    member = front.of_set x (inl refl);
    greatest = λ y h. elim (climb laws s y).1 [
      | inl same ↦ among y
          (subst (Has (x ∷ rest)) same
          (front.whole (climb laws s y).0 (subst (Has s) (sym same) h) (climb laws s y).2))
      | inr far ↦
          inl (elim (among (climb laws s y).0 (front.whole (climb laws s y).0 far.0
          (climb laws s y).2)) [
            | inl over ↦ above laws x (climb laws s y).0 y over
                (laws.greater (climb laws s y).0 y far.1)
            | inr here ↦ ap (λ v. order v y) here ∙ laws.greater (climb laws s y).0 y far.1
          ])
    ];
  }
    where
      among : (y : T) → Has (x ∷ rest) y → (order x y ≡ Greater) ⊎ (x ≡ y)
      among y (inl same) = inr same
      among y (inr later) = inl (front.descending.0 y later)

  -- a set with no front is empty
  pub front_none : (s : List T) → IsFront order dominates s [] → s ≡ []
  front_none [] front = refl
  front_none (x ∷ s) front = elim (climb laws (x ∷ s) x).1 [
    | inl same ↦
        absurd (front.whole x (inl refl)
        (subst (IsUndominated dominates (x ∷ s)) same (climb laws (x ∷ s) x).2))
    | inr far ↦ absurd (front.whole (climb laws (x ∷ s) x).0 far.0 (climb laws (x ∷ s) x).2)
  ]
