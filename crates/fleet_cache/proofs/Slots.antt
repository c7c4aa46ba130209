-- What an edit of one slot does to the items.
-- Serves `Fronts::both`, `short::store`, `front_of`, `store::store`, and what `Both`,
-- `ListedFronts`, `Looked`, `Merging`, `Storing`, `Trimming` serve.
use Rattle.std.proofs.Common.{ℕ, ◌+◌, ◌≤◌, length, length-append, arith, ◌≡◌, Bool, true, false, List, [], ◌∷◌, ◌++◌, ◌⊎◌, ◌↔◌, inl, inr, Some, None, sym, ap, refl, ◌∙◌, subst, append_assoc}
use mathlib.Core.Bool.{false≢true}
use Rattle.std.specs.Map.{lookup, set_value, values_of}
use Rattle.std.specs.BTreeMap.{insert_entry}
use Rattle.std.specs.declared.cmp.Ordering.{Ordering}
use Rattle.std.specs.declared.cmp.Ordering.TheVariants.{Less, Equal, Greater}
use Rattle.std.specs.Ordering.{is_eq, ordering_reverse}
use Rattle.std.proofs.lemmas.Cmp.{tied_itself, nat_list_cmp_total}
use Rattle.std.proofs.lemmas.Map.Lookups.{exact_bytes}
use Rattle.fleet_observe.specs.Members.{Has}
use Rattle.fleet_name.specs.Name.{wire}
use Rattle.fleet_observe.specs.Observation.{ObservationData}
use Rattle.fleet_observe.specs.Preference.{octets_cmp, name_cmp}
use Rattle.fleet_observe.proofs.Lemmas.{key_exact}
use Rattle.fleet_cache.specs.Front.{IsDescending, IsFront}
use Rattle.fleet_cache.specs.Dominates.{dominates}
use Rattle.fleet_cache.specs.steps.Row.{row}
use Rattle.fleet_cache.specs.steps.Packed.{octet_words, words_of, IsPackable}
use Rattle.fleet_cache.specs.Cached.{item_order, IsCovered}
use Rattle.fleet_cache.specs.steps.Slots.{items_of, concat, is_nil, IsSlot, IsLaid, IsPut}
use Rattle.fleet_cache.proofs.Packed.{packed_cmp, packed_exact}
use Rattle.fleet_cache.specs.steps.Orders.{cut_laws, over_from}
use Rattle.fleet_cache.proofs.Keys.{place_of_name, place_before}
use Rattle.fleet_cache.proofs.Places.{place_laws}
use Rattle.std.proofs.lemmas.Bool.{cases_Bool}
use Rattle.std.specs.Cmp.{Equal-is}
use Rattle.fleet_front.proofs.Lemmas.{ordering_cases, IsDescending-append, climb, front_itself}
use Rattle.fleet_name.proofs.Lemmas.{has_left, has_right, has_either}

-- the items are the values joined
pub joined_values : {K : Type 0} (es : List (K × List ObservationData))
    → concat (values_of es) ≡ items_of es
joined_values [] = refl
joined_values (e ∷ es) = ap (λ t. e.1 ++ t) (joined_values es)

-- what dominates is of the name of what it dominates
pub over_words : (p o : ObservationData) → dominates p o ≡ true → words_of p ≡ words_of o
over_words p o e =
    let k = key_exact p.name o.name p.kind o.kind p.rtype o.rtype (over_from p o e).same_key in
    ap (λ n. octet_words (wire n)) k.0

-- within a name, the greater comes first
descend_within_name : (xs : List ObservationData) (k : List ℕ)
    → ((x : ObservationData) → Has xs x → (words_of x) ≡ k)
    → ((x : ObservationData) → Has xs x → IsPackable x.name) → IsDescending row xs
    → IsDescending item_order xs
descend_within_name [] k same fits d = tt
descend_within_name (x ∷ xs) k same fits d = (
  (λ y h. let a = fits x (inl refl) in let b = fits y (inr h) in
      let one : x.name ≡ y.name = packed_exact x.name y.name a b
      (same x (inl refl) ∙ sym (same y (inr h))) in
      place_of_name x y a.named b.named one ∙ d.0 y h),
  descend_within_name xs k (λ y h. same y (inr h)) (λ y h. fits y (inr h)) d.1,
)

-- nothing is the front of nothing
pub nil_front : {X : Type 0} (R : X → X → Ordering) (D : X → X → Bool) → IsFront R D [] []
nil_front R D = record {
  descending = tt;
  of_set = λ y h. h;
  undominated = λ y h w m. absurd h;
  whole = λ y h free. h;
}

-- a set with a member has some front
pub some_of : (s items : List ObservationData) (x : ObservationData) → Has s x
    → IsFront row dominates s items → is_nil items ≡ false
some_of s [] x h front = elim (climb cut_laws s x).1 [
  | inl same ↦ absurd (front.whole (climb cut_laws s x).0 (subst (Has s) (sym same) h)
      (climb cut_laws s x).2)
  | inr far ↦ absurd (front.whole (climb cut_laws s x).0 far.0 (climb cut_laws s x).2)
]
some_of s (y ∷ items) x h front = refl

-- an item is in a slot
pub in_slot : {K : Type 0} (es : List (K × List ObservationData)) (x : ObservationData)
    → Has (items_of es) x → (e : K × List ObservationData) × Has es e × Has e.1 x
in_slot [] x h = absurd h
in_slot (e ∷ es) x h = elim (has_either e.1 (items_of es) x h) [
  | inl l ↦ (e, inl refl, l)
  | inr r ↦ let s = in_slot es x r in (s.0, inr s.1, s.2)
]

pub items_of-append : {K : Type 0} (xs ys : List (K × List ObservationData))
    → items_of (xs ++ ys) ≡ items_of xs ++ items_of ys
items_of-append [] ys = refl
items_of-append (e ∷ xs) ys = ap (λ t. e.1 ++ t) (items_of-append xs ys)
    ∙ sym (append_assoc e.1 (items_of xs) (items_of ys))

module _ {K : Type 0} (octets : K → List ℕ) where
  abbrev Slot : Type 0
  Slot = K × List ObservationData

  abbrev by_key : Slot → Slot → Ordering
  by_key a b = octets_cmp (octets b.0) (octets a.0)

  -- the items descend by place
  pub items_descend : (es : List Slot) → IsLaid octets es → IsDescending item_order (items_of es)
  items_descend [] laid = tt
  items_descend (e ∷ es) laid = IsDescending-append item_order e.1 (items_of es)
      (descend_within_name e.1 (octets e.0) (laid.slots e (inl refl)).one_key
      (laid.slots e (inl refl)).packable (laid.slots e (inl refl)).own_front.descending)
      (items_descend es (record {
        slots = λ f h. laid.slots f (inr h);
        ascending = laid.ascending.1;
      }))
      (λ x y h k. let s = in_slot es y k in
      let kx : (words_of x) ≡ octets e.0 = (laid.slots e (inl refl)).one_key x h in
      let ky : (words_of y) ≡ octets s.0.0 = (laid.slots s.0 (inr s.1)).one_key y s.2 in
      let fx = (laid.slots e (inl refl)).packable x h in
      let fy = (laid.slots s.0 (inr s.1)).packable y s.2 in
      let up : name_cmp y.name x.name ≡ Greater =
      sym (packed_cmp y.name x.name fy fx) ∙ ap (λ v. octets_cmp v (words_of x)) ky
      ∙ ap (octets_cmp (octets s.0.0)) kx ∙ laid.ascending.0 s.0 s.1 in
      place_before x y fx.named fy.named up)

  -- one slot replaced, or put in: what the items become. The items besides it are of other keys
  pub one_front : (s a f g b : List ObservationData) (x : ObservationData)
      → ((y : ObservationData) → Has a y → (words_of y) ≡ (words_of x) → ⊥)
      → ((y : ObservationData) → Has b y → (words_of y) ≡ (words_of x) → ⊥)
      → ((y : ObservationData) → Has f y → (words_of y) ≡ (words_of x))
      → IsFront row dominates (x ∷ f) g
      → IsDescending item_order (a ++ (g ++ b))
      → IsFront item_order dominates s (a ++ (f ++ b))
      → IsFront item_order dominates (x ∷ s) (a ++ (g ++ b))
  one_front s a f g b x in_a in_b in_f new d front = record {
    descending = d;
    of_set = λ y h. elim (three a g b y h) [
      | inl l ↦ inr (front.of_set y (has_left a _ y l))
      | inr m ↦ elim m [
        | inl c ↦ elim (new.of_set y c) [
          | inl e ↦ inl e
          | inr old ↦
              inr (front.of_set y (has_right a _ y (has_left f b y old)))
        ]
        | inr r ↦ inr (front.of_set y (has_right a _ y (has_right f b y r)))
      ]
    ];
    undominated = λ y h w m. elim (cases_Bool (dominates w y)) [
      | inr nay ↦ nay
      | inl over ↦ elim (three a g b y h) [
        | inl l ↦ elim m [
          | inl e ↦ absurd (in_a y l (sym (ap words_of e ∙ over_words w y over)))
          | inr old ↦ front.undominated y (has_left a _ y l) w old
        ]
        | inr n ↦ elim n [
          | inr r ↦ elim m [
            | inl e ↦ absurd (in_b y r (sym (ap words_of e ∙ over_words w y over)))
            | inr old ↦ front.undominated y (has_right a _ y (has_right f b y r)) w old
          ]
          | inl c ↦ elim m [
            | inl e ↦ new.undominated y c w (inl e)
            | inr old ↦ absurd (false≢true (sym (above y c w old over) ∙ over))
          ]
        ]
      ]
    ];
    whole = λ y m free. elim m [
      | inl e ↦ has_right a _ y (has_left g b y
          (new.whole y (inl e) (λ w h. elim h [
            | inl i ↦ free w (inl i)
            | inr k ↦
                free w (inr (front.of_set w (has_right a _ w (has_left f b w k))))
          ])))
      | inr old ↦ elim (three a f b y (front.whole y old (λ w h. free w (inr h)))) [
        | inl l ↦ has_left a _ y l
        | inr n ↦ elim n [
          | inl c ↦ has_right a _ y (has_left g b y
              (new.whole y (inr c) (λ w h. elim h [
                | inl i ↦ free w (inl i)
                | inr k ↦
                    free w (inr (front.of_set w (has_right a _ w (has_left f b w k))))
              ])))
          | inr r ↦ has_right a _ y (has_right g b y r)
        ]
      ]
    ];
  }
    where
      three : (p q r : List ObservationData) (y : ObservationData) → Has (p ++ (q ++ r)) y → Has p y
          ⊎ (Has q y ⊎ Has r y)
      three p q r y h = elim (has_either p (q ++ r) y h) [
        | inl l ↦ inl l
        | inr m ↦
            inr (has_either q r y m)
      ]

      key_of_new : (y : ObservationData) → Has g y → (words_of y) ≡ (words_of x)
      key_of_new y c = elim (new.of_set y c) [ inl e ↦ ap words_of (sym e) | inr k ↦ in_f y k ]

      -- w of s dominates y of g: the undominated one above w is in f
      above : (y : ObservationData) → Has g y → (w : ObservationData) → Has s w
          → dominates w y ≡ true → dominates w y ≡ false
      above y c w old over =
          let p = climb place_laws s w in
          let top : dominates p.0 y ≡ true = elim p.1 [
            | inl e ↦ ap (λ v. dominates v y) e ∙ over
            | inr far ↦ place_laws.chained p.0 w y far.1 over
          ] in
          let member : Has s p.0 = elim p.1 [ inl e ↦ subst (Has s) (sym e) old | inr far ↦ far.0 ]
          in
          let key : (words_of p.0) ≡ (words_of x) = over_words p.0 y top ∙ key_of_new y c in
          elim (three a f b p.0 (front.whole p.0 member p.2)) [
            | inl l ↦ absurd (in_a p.0 l key)
            | inr n ↦ elim n [
              | inr r ↦ absurd (in_b p.0 r key)
              | inl k ↦ absurd (false≢true (sym (new.undominated y c p.0 (inr k)) ∙ top))
            ]
          ]

  -- what comes before a key and after it
  pub record Around (es : List Slot) (q : List ℕ) (f : List ObservationData) : Type 0 where
    pub pre : List Slot
    pub post : List Slot
    pub lies : items_of es ≡ items_of pre ++ (f ++ items_of post)
    pub laid_pre : IsLaid octets pre
    pub laid_post : IsLaid octets post
    pub below : (e : Slot) → Has pre e → octets_cmp (octets e.0) q ≡ Less
    pub over : (e : Slot) → Has post e → octets_cmp q (octets e.0) ≡ Less
    pub among : (e : Slot) → Has pre e → Has es e

  turn_down : (a b : List ℕ) → octets_cmp a b ≡ Greater → octets_cmp b a ≡ Less
  turn_down a b e = nat_list_cmp_total.antisymm b a ∙ ap ordering_reverse e

  turn_up : (a b : List ℕ) → octets_cmp a b ≡ Less → octets_cmp b a ≡ Greater
  turn_up a b e = nat_list_cmp_total.antisymm b a ∙ ap ordering_reverse e

  rest_laid : (e : Slot) (es : List Slot) → IsLaid octets (e ∷ es) → IsLaid octets es
  rest_laid e es laid = record { slots = λ f h. laid.slots f (inr h); ascending = laid.ascending.1 }

  cons_laid : (e : Slot) (es : List Slot) → IsSlot (octets e.0) e.1
      → ((f : Slot) → Has es f → octets_cmp (octets f.0) (octets e.0) ≡ Greater) → IsLaid octets es
      → IsLaid octets (e ∷ es)
  cons_laid e es slot first laid = record {
    slots = λ f h. elim
        h [ inl same ↦ subst (λ v. IsSlot (octets v.0) v.1) same slot | inr r ↦ laid.slots f r ];
    ascending = (first, laid.ascending);
  }

  nil_laid : IsLaid octets []
  nil_laid = record { slots = λ f h. absurd h; ascending = tt }

  -- one more slot before
  more_around : (e : Slot) (es : List Slot) (q : List ℕ) (f : List ObservationData)
      → IsLaid octets (e ∷ es) → octets_cmp (octets e.0) q ≡ Less → Around es q f
      → Around (e ∷ es) q f
  more_around e es q f laid less a = record {
    pre = e ∷ a.pre;
    post = a.post;
    lies = ap (λ t. e.1 ++ t) a.lies ∙ sym (append_assoc e.1 (items_of a.pre)
        (f ++ items_of a.post));
    laid_pre = cons_laid e a.pre (laid.slots e (inl refl)) (λ d h. laid.ascending.0 d (a.among d h))
        a.laid_pre;
    laid_post = a.laid_post;
    below = λ d h. elim h [
      | inl same ↦ subst (λ v. octets_cmp (octets v.0) q ≡ Less) same less
      | inr r ↦ a.below d r
    ];
    over = a.over;
    among = λ d h. elim h [ inl same ↦ inl same | inr r ↦ inr (a.among d r) ];
  }

  -- the key is there
  pub record Present (es : List Slot) (q : List ℕ) (f : List ObservationData) : Type 0 where
    pub around : Around es q f
    pub slot : IsSlot q f
    pub at : Slot
    pub member : Has es at
    pub is_key : octets at.0 ≡ q
    pub written : (g : List ObservationData) → set_value (λ k. is_eq (octets_cmp q (octets k))) es g
        ≡ around.pre ++ (at.0, g) ∷ around.post

  pub slot_of_key : (es : List Slot) (q : List ℕ) (f : List ObservationData) → IsLaid octets es
      → lookup (λ k. is_eq (octets_cmp q (octets k))) es ≡ Some f → Present es q f
  unfolding more_around
  slot_of_key [] q f laid found = absurd (cc)
  slot_of_key (e ∷ es) q f laid found = elim (cases_Bool (is_eq (octets_cmp q (octets e.0)))) [
    | inl same ↦
        let here : q ≡ octets e.0 = exact_bytes _ _ ((Equal-is _).0 same) in
        let value : Some e.1 ≡ Some f = rw same at found in
        let is : e.1 ≡ f = cc in
        record {
          around = record {
            pre = [];
            post = es;
            lies = ap (λ t. t ++ items_of es) is;
            laid_pre = nil_laid;
            laid_post = rest_laid e es laid;
            below = λ d h. absurd h;
            over = λ d h. rw here (turn_down (octets d.0) (octets e.0) (laid.ascending.0 d h));
            among = λ d h. absurd h;
          };
          slot = subst (IsSlot q) is (subst (λ v. IsSlot v e.1) (sym here)
              (laid.slots e (inl refl)));
          at = e;
          member = inl refl;
          is_key = sym here;
          written = λ g. rw same refl;
        }
    | inr apart ↦
        let rest = slot_of_key es q f (rest_laid e es laid) (rw apart at found) in
        let first : octets_cmp (octets e.0) q ≡ Less = subst (λ v. octets_cmp (octets e.0) v ≡ Less)
        rest.is_key (turn_down (octets rest.at.0) (octets e.0)
        (laid.ascending.0 rest.at rest.member)) in
        record {
          around = more_around e es q f laid first rest.around;
          slot = rest.slot;
          at = rest.at;
          member = inr rest.member;
          is_key = rest.is_key;
          written = λ g. rw apart (ap (λ t. e ∷ t) (rest.written g));
        }
  ]

  -- the key is not there
  pub record Absent (es : List Slot) (k : K) : Type 0 where
    pub around : Around es (octets k) []
    pub inserted : (g : List ObservationData)
        → insert_entry (λ x y. octets_cmp (octets x) (octets y)) es k g ≡ around.pre ++ (k, g)
        ∷ around.post

  pub gap_of_key : (es : List Slot) (k : K) → IsLaid octets es
      → lookup (λ j. is_eq (octets_cmp (octets k) (octets j))) es ≡ None → Absent es k
  unfolding more_around
  gap_of_key [] k laid found = record {
    around = record {
      pre = [];
      post = [];
      lies = refl;
      laid_pre = nil_laid;
      laid_post = nil_laid;
      below = λ d h. absurd h;
      over = λ d h. absurd h;
      among = λ d h. h;
    };
    inserted = λ g. refl;
  }
  gap_of_key (e ∷ es) k laid found = elim (ordering_cases (octets_cmp (octets k) (octets e.0))) [
    | inl less ↦ record {
      around = record {
        pre = [];
        post = e ∷ es;
        lies = refl;
        laid_pre = nil_laid;
        laid_post = laid;
        below = λ d h. absurd h;
        over = λ d h. elim h [
          | inl same ↦ subst (λ v. octets_cmp (octets k) (octets v.0) ≡ Less) same less
          | inr r ↦ nat_list_cmp_total.trans (octets k) (octets e.0) (octets d.0) less
              (turn_down (octets d.0) (octets e.0) (laid.ascending.0 d r))
        ];
        among = λ d h. absurd h;
      };
      inserted = λ g. rw less refl;
    }
    | inr more ↦ elim more [
      | inl same ↦ let gone : Some e.1 ≡ None = rw same at found in absurd (cc)
      | inr greater ↦
          let left : lookup (λ j. is_eq (octets_cmp (octets k) (octets j))) es ≡ None =
          rw greater at found in
          let rest = gap_of_key es k (rest_laid e es laid) left in
          record {
            around = more_around e es (octets k) [] laid (turn_down (octets k) (octets e.0) greater)
                rest.around;
            inserted = λ g. rw greater (ap (λ t. e ∷ t) (rest.inserted g));
          }
    ]
  ]

  -- what lies round a key is of other keys
  not_before : (es : List Slot) (q : List ℕ) (f : List ObservationData) (a : Around es q f)
      (y : ObservationData) → Has (items_of a.pre) y → words_of y ≡ q → ⊥
  not_before es q f a y h same =
      let e = in_slot a.pre y h in
      let at : octets_cmp (octets e.0.0) q ≡ Equal =
      ap (λ v. octets_cmp v q) (sym ((a.laid_pre.slots e.0 e.1).one_key y e.2) ∙ same)
      ∙ tied_itself nat_list_cmp_total q in
      let lt : octets_cmp (octets e.0.0) q ≡ Less = a.below e.0 e.1 in cc

  not_behind : (es : List Slot) (q : List ℕ) (f : List ObservationData) (a : Around es q f)
      (y : ObservationData) → Has (items_of a.post) y → words_of y ≡ q → ⊥
  not_behind es q f a y h same =
      let e = in_slot a.post y h in
      let at : octets_cmp q (octets e.0.0) ≡ Equal =
      ap (octets_cmp q) (sym ((a.laid_post.slots e.0 e.1).one_key y e.2) ∙ same)
      ∙ tied_itself nat_list_cmp_total q in
      let lt : octets_cmp q (octets e.0.0) ≡ Less = a.over e.0 e.1 in cc

  -- the items of a key are those of its front
  pub in_front : (es : List Slot) (q : List ℕ) (f : List ObservationData) (a : Around es q f)
      (y : ObservationData) → Has (items_of es) y → words_of y ≡ q → Has f y
  in_front es q f a y h same = elim (has_either (items_of a.pre) (f ++ items_of a.post) y
      (subst (λ v. Has v y) a.lies h)) [
        | inl l ↦ absurd (not_before es q f a y l same)
        | inr m ↦ elim (has_either f (items_of a.post) y m) [
          | inl here ↦ here
          | inr r ↦
              absurd (not_behind es q f a y r same)
        ]
      ]

  pub in_items : (es : List Slot) (q : List ℕ) (f : List ObservationData) (a : Around es q f)
      (y : ObservationData) → Has f y → Has (items_of es) y
  in_items es q f a y h = subst (λ v. Has v y) (sym a.lies)
      (has_right (items_of a.pre) (f ++ items_of a.post) y (has_left f (items_of a.post) y h))

  -- what makes x needless is in the front of its key
  pub covered_in_front : (es : List Slot) (x : ObservationData) (f : List ObservationData)
      (a : Around es (words_of x) f) → IsCovered f x ↔ IsCovered (items_of es) x
  covered_in_front es x f a = (
    (λ c. (c.0, in_items es (words_of x) f a c.0 c.1, c.2)),
    λ c. (
      c.0,
      in_front es (words_of x) f a c.0 c.1
          (elim c.2 [
            | inl same ↦ ap words_of same
            | inr over ↦ over_words c.0 x over
          ]),
      c.2,
    ),
  )

  pub put_at : (es : List Slot) (f g : List ObservationData) (x : ObservationData) (kept : Bool)
      (k : K) → octets k ≡ (words_of x) → (a : Around es (words_of x) f)
      → ((y : ObservationData) → Has f y → (words_of y) ≡ (words_of x)) → IsPackable x.name
      → ((y : ObservationData) → Has f y → IsPackable y.name)
      → IsFront row dominates (x ∷ f) g → length g ≤ length f + 1 → (kept ≡ false)
      ↔ IsCovered f x → IsPut octets es (a.pre ++ (k, g) ∷ a.post) x kept
  put_at es f g x kept k is_key a in_f fits in_fits new size needless =
      let laid_new : IsLaid octets (a.pre ++ (k, g) ∷ a.post) = record {
        slots = λ e h. elim (has_either a.pre ((k, g) ∷ a.post) e h) [
          | inl l ↦ a.laid_pre.slots e l
          | inr m ↦ elim m [
            | inl same ↦ subst (λ v. IsSlot (octets v.0) v.1) same (record {
              some = some_of (x ∷ f) g x (inl refl) new;
              one_key = λ y c. elim (new.of_set y c) [
                | inl e ↦ ap words_of (sym e) ∙ sym is_key
                | inr old ↦ in_f y old ∙ sym is_key
              ];
              packable = λ y c. elim (new.of_set y c) [
                | inl e ↦
                    subst (λ (v : ObservationData). IsPackable v.name) e fits
                | inr old ↦ in_fits y old
              ];
              own_front = front_itself cut_laws (x ∷ f) g new;
            })
            | inr r ↦ a.laid_post.slots e r
          ]
        ];
        ascending = IsDescending-append by_key a.pre ((k, g) ∷ a.post) a.laid_pre.ascending (
          (λ d h. rw is_key (turn_up (words_of x) (octets d.0) (a.over d h))),
          a.laid_post.ascending,
        )
            (λ d e h m. elim m [
              | inl same ↦ subst (λ v. by_key d v ≡ Greater) same
                  (rw is_key (turn_up (octets d.0) (words_of x) (a.below d h)))
              | inr r ↦ turn_up (octets d.0) (octets e.0)
                  (nat_list_cmp_total.trans (octets d.0) (words_of x) (octets e.0) (a.below d h)
                  (a.over e r))
            ]);
      } in
      let lies : items_of (a.pre ++ (k, g) ∷ a.post) ≡ items_of a.pre ++ (g ++ items_of a.post) =
      items_of-append a.pre ((k, g) ∷ a.post) in
      record {
        laid = laid_new;
        taken = λ s front. subst (IsFront item_order dominates (x ∷ s)) (sym lies)
            (one_front s (items_of a.pre) f g (items_of a.post) x
            (not_before es (words_of x) f a)
            (not_behind es (words_of x) f a)
            in_f
            new
            (subst (IsDescending item_order) lies (items_descend _ laid_new))
            (subst (IsFront item_order dominates s) a.lies front));
        size =
            let p = items_of a.pre in
            let q = items_of a.post in
            let n = ap length lies in
            let o = ap length a.lies in
            let i = length-append p (g ++ q) in
            let j = length-append g q in
            let k = length-append p (f ++ q) in
            let l = length-append f q in
            omega (arith, n, o, i, j, k, l, size);
        needless = (
          (λ e. (covered_in_front es x f a).0 (needless.0 e)),
          λ c. needless.1 ((covered_in_front es x f a).1 c),
        );
      }

  -- the front of a key that is there was changed in place
  pub put_edited : (es new : List Slot) (f g : List ObservationData) (x : ObservationData)
      (kept : Bool) → IsLaid octets es → lookup (λ k. is_eq (octets_cmp (words_of x) (octets k))) es
      ≡ Some f → new ≡ set_value (λ k. is_eq (octets_cmp (words_of x) (octets k))) es g
      → IsPackable x.name → IsFront row dominates (x ∷ f) g → length g ≤ length f + 1
      → (kept ≡ false) ↔ IsCovered f x → IsPut octets es new x kept
  put_edited es new f g x kept laid found is fits front size needless =
      let p = slot_of_key es (words_of x) f laid found in
      subst (λ v. IsPut octets es v x kept) (sym (is ∙ p.written g))
      (put_at es f g x kept p.at.0 p.is_key p.around p.slot.one_key fits p.slot.packable front
      size needless)

  -- the front of a new key was put in
  pub put_entered : (es new : List Slot) (g : List ObservationData) (x : ObservationData) (k : K)
      → octets k ≡ (words_of x) → IsLaid octets es
      → lookup (λ j. is_eq (octets_cmp (words_of x) (octets j))) es ≡ None
      → new ≡ insert_entry (λ i j. octets_cmp (octets i) (octets j)) es k g → IsPackable x.name
      → IsFront row dominates (x ∷ []) g → length g ≤ 1 → IsPut octets es new x true
  put_entered es new g x k same laid found is fits front size =
      let p = gap_of_key es k laid (rw same found) in
      let here = subst (λ q. (a : Around es q [])
      × ((v : List ObservationData) → insert_entry (λ i j. octets_cmp (octets i) (octets j)) es k v
      ≡ a.pre ++ (k, v) ∷ a.post)) same (p.around, p.inserted) in
      subst (λ v. IsPut octets es v x true) (sym (is ∙ here.1 g))
      (put_at es [] g x true k same here.0 (λ y h. absurd h) fits (λ y h. absurd h) front size
      ((λ e. absurd (false≢true (sym e))), λ c. absurd c.1))
