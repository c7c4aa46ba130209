-- How the items of a cache follow the set.
-- Serves `Cache::holds`, `Cache::is_past_lent`, `Cache::merge`, `Cache::same`, `Cache::take`,
-- `Cache::take_copy`, `Cache::take_list`, the laws `merges`, `one_cache`, what `Holdings`,
-- `KeysHoldFew`, `OneAnswer` serve, and fleet_gossip, fleet_world.
use Rattle.std.proofs.Common.{ℕ, ◌≡◌, ◌<◌, ◌≤◌, true, false, not, List, [], ◌∷◌, ◌++◌, ◌⊎◌, inl, inr, length, take, slice_get, Some, Result, Ok, Err, OnOk, OnErr, sym, ap, refl, ◌∙◌, subst, arith, length-append}
use mathlib.Core.Bool.{false≢true}
use Rattle.std.proofs.Math.Seq.{take-append_seam}
use Rattle.std.specs.Result.{is_ok, is_err}
use Rattle.std.proofs.lemmas.Bool.Decides.{nat_tests}
use Rattle.fleet_observe.specs.Members.{Has}
use Rattle.fleet_observe.specs.Observation.{ObservationData, IsObservation, AreObservations}
use Rattle.fleet_cache.specs.Front.{IsUndominated, IsFront, without_hidden}
use Rattle.fleet_cache.specs.Live.{has_ended}
use Rattle.fleet_cache.specs.Void.{IsVoid, is_void}
use Rattle.fleet_cache.specs.Cached.{item_order, CacheData, IsCached, IsCovered, IsNeedless, IsSameSet}
use Rattle.fleet_cache.proofs.Places.{place_laws}
use Rattle.fleet_cache.proofs.Voids.{unvoided_to, unvoided_by, void_outlived}
use Rattle.fleet_cache.proofs.Beats.{beats, dominates_beats, outlasts_beats, beats_chain, beaten_hidden, beats_laws, beats_itself, beats_shown, shown_parts, shown_of, lives_in, cached_front, cached_from}
use Rattle.std.proofs.lemmas.Bool.{cases_Bool, not-true}
use Rattle.fleet_front.specs.Front.{IsCovered as IsCoveredBy}
use Rattle.fleet_front.proofs.Lemmas.{climb, descending_same}
use Rattle.fleet_name.proofs.Lemmas.{Has-filter, Has-in_filter, has_left, has_right, has_either}

-- what is shown later was shown before
pub shown_twice : (f m : ℕ) (s : List ObservationData) → f ≤ m
    → without_hidden has_ended m (without_hidden has_ended f s) ≡ without_hidden has_ended m s
shown_twice f m [] le = refl
shown_twice f m (x ∷ s) le = elim (cases_Bool (has_ended f x)) [
  | inl e ↦
      let later : has_ended m x ≡ true = grind (arith, nat_tests, e) in
      rw (e, later) (shown_twice f m s le)
  | inr e ↦ rw e (elim (cases_Bool (has_ended m x)) [
    | inl h ↦ rw h (shown_twice f m s le)
    | inr h ↦ rw h (ap (λ t. x ∷ t) (shown_twice f m s le))
  ])
]

-- nothing of it has ended
pub all_shown : (m : ℕ) (s : List ObservationData)
    → ((x : ObservationData) → Has s x → has_ended m x ≡ false) → without_hidden has_ended m s ≡ s
all_shown m [] h = refl
all_shown m (x ∷ s) h = rw (h x (inl refl)) (ap (λ t. x ∷ t) (all_shown m s (λ y k. h y (inr k))))

-- one that is there, or is beaten
front_covered : (s items : List ObservationData) (x : ObservationData) → IsCoveredBy beats items x
    → IsFront item_order beats s items → IsFront item_order beats (x ∷ s) items
front_covered s items x c front = record {
  descending = front.descending;
  of_set = λ y h. inr (front.of_set y h);
  undominated = λ y h w m. elim m [
    | inl same ↦ ap (λ v. beats v y) (sym same) ∙ not_over y h
    | inr old ↦ front.undominated y h w old
  ];
  whole = λ y m free. elim m [
    | inl same ↦ by_cover y same free
    | inr old ↦
        front.whole y old (λ w k. free w (inr k))
  ];
}
  where
    above : (y : ObservationData) → Has items y → beats c.0 y ≡ false
    above y h = front.undominated y h c.0 (front.of_set c.0 c.1)

    not_over : (y : ObservationData) → Has items y → beats x y ≡ false
    not_over y h = elim (cases_Bool (beats x y)) [
      | inr nay ↦ nay
      | inl over ↦ elim c.2 [
        | inl same ↦ absurd (false≢true (sym (above y h) ∙ (ap (λ v. beats v y) same ∙ over)))
        | inr far ↦ absurd (false≢true (sym (above y h) ∙ beats_chain c.0 x y far over))
      ]
    ]

    by_cover : (y : ObservationData) → x ≡ y → IsUndominated beats (x ∷ s) y → Has items y
    by_cover y same free = elim c.2 [
      | inl here ↦ subst (Has items) (here ∙ same) c.1
      | inr far ↦ absurd (false≢true (sym (free c.0 (inr (front.of_set c.0 c.1)))
          ∙ (ap (beats c.0) (sym same) ∙ far)))
    ]

pub more_lawful : (s : List ObservationData) (x : ObservationData) → IsObservation x → AreObservations s
    → AreObservations (x ∷ s)
more_lawful s x one all o h = elim h [
  | inl same ↦ subst IsObservation same one
  | inr old ↦
      all o old
]

module _ (s items : List ObservationData) (f : ℕ) (x : ObservationData) (lawful : IsObservation x)
    (cached : IsCached s f items) where
  -- an observation that has ended at the floor
  pub cached_ended : has_ended f x ≡ true → IsCached (x ∷ s) f items
  cached_ended e = cached_from (x ∷ s) items f (more_lawful s x lawful cached.lawful)
      (rw e (cached_front s items f cached))

  -- one that is there, or is beaten
  cached_beaten : IsCoveredBy beats items x → IsCached (x ∷ s) f items
  cached_beaten c = cached_from (x ∷ s) items f (more_lawful s x lawful cached.lawful)
      (elim (cases_Bool (has_ended f x)) [
        | inl e ↦ rw e (cached_front s items f cached)
        | inr e ↦ rw e (front_covered (without_hidden has_ended f s) items x c
            (cached_front s items f cached))
      ])

  -- one that is there, or is dominated
  pub cached_covered : IsCovered items x → IsCached (x ∷ s) f items
  cached_covered c = cached_beaten (
    c.0,
    c.1,
    elim c.2 [ inl same ↦ inl same | inr over ↦ inr (dominates_beats c.0 x over) ],
  )

  -- one that an item withdraws
  pub cached_void : IsVoid items x → IsCached (x ∷ s) f items
  cached_void v =
      let l = lives_in s f v.0 (cached.front.of_set v.0 v.1) in
      let longer = void_outlived v.0 x (cached.lawful v.0 l.member) lawful v.2 in
      cached_beaten (
        v.0,
        v.1,
        inr (outlasts_beats v.0 x (record { voids = v.2; outlives = longer })),
      )

  -- one that need not be held
  pub cached_needless : IsNeedless f items x → IsCached (x ∷ s) f items
  cached_needless (inl (inl ended)) = cached_ended (grind (arith, nat_tests, ended))
  cached_needless (inl (inr v)) = cached_void v
  cached_needless (inr c) = cached_covered c

-- each item is of the set, and has not ended
pub item_of_set : (s items : List ObservationData) (f : ℕ) → IsCached s f items
    → (x : ObservationData) → Has items x → Has s x × (has_ended f x ≡ false)
item_of_set s items f cached x h = let l = lives_in s f x (cached.front.of_set x h)
    in (l.member, l.lasts)

-- none of the items withdraws another
pub item_unvoided : (s items : List ObservationData) (f : ℕ) → IsCached s f items
    → (x : ObservationData) → Has items x → is_void items x ≡ false
item_unvoided s items f cached x h =
    let l = lives_in s f x (cached.front.of_set x h) in
    unvoided_to items x
    (λ g k. unvoided_by s x g l.unvoided (lives_in s f g (cached.front.of_set g k)).member)

-- the items are those of their own set
pub cached_itself : (s items : List ObservationData) (f : ℕ) → IsCached s f items
    → IsCached items f items
cached_itself s items f cached = cached_from items items f
    (λ o h. cached.lawful o (item_of_set s items f cached o h).0)
    (subst (λ v. IsFront item_order beats v items)
    (sym (all_shown f items (λ o h. (item_of_set s items f cached o h).1)))
    (beats_itself (without_hidden has_ended f s) items (cached_front s items f cached)))

pub cached_purged : (s items : List ObservationData) (f m : ℕ) → f ≤ m → IsCached s f items
    → IsCached s m (without_hidden has_ended m items)
cached_purged s items f m le cached = cached_from s (without_hidden has_ended m items) m
    cached.lawful (subst (λ v. IsFront item_order beats v (without_hidden has_ended m items))
    (shown_twice f m s le) (beats_shown m (without_hidden has_ended f s) items
    (cached_front s items f cached)))

-- the items of a cache stand for its set: taken into another at no lower floor, they give the cache
-- of both
pub cached_both : (s u theirs items : List ObservationData) (f g : ℕ) → g ≤ f → IsCached u g theirs
    → IsCached (theirs ++ s) f items → IsCached (u ++ s) f items
cached_both s u theirs items f g le from cached =
    cached_from (u ++ s) items f
    (λ o h. elim (has_either u s o h) [
      | inl l ↦ from.lawful o l
      | inr r ↦
          cached.lawful o (has_right theirs s o r)
    ])
    (record {
      descending = held.descending;
      of_set = λ x h. widen x (held.of_set x h);
      undominated = λ x h w m. elim (cases_Bool (beats w x)) [
        | inr nay ↦ nay
        | inl over ↦ absurd (false≢true (sym (held.undominated x h (peak w m).0 (peak w m).1)
            ∙ elim (peak w m).2 [
              | inl same ↦ ap (λ v. beats v x) same ∙ over
              | inr far ↦ beats_chain (peak w m).0 w x far over
            ]))
      ];
      whole = λ x m free. held.whole x (narrow x m free) (λ w h. free w (widen w h));
    })
  where
    held : IsFront item_order beats (without_hidden has_ended f (theirs ++ s)) items
    held = cached_front (theirs ++ s) items f cached

    theirs_held : IsFront item_order beats (without_hidden has_ended g u) theirs
    theirs_held = cached_front u theirs g from

    later : (x : ObservationData) → has_ended f x ≡ false → has_ended g x ≡ false
    later x e = elim (cases_Bool (has_ended g x)) [
      | inr no_end ↦ no_end
      | inl end ↦
          absurd (false≢true (sym e ∙ grind (arith, nat_tests, end)))
    ]

    widen : (x : ObservationData) → Has (without_hidden has_ended f (theirs ++ s)) x
        → Has (without_hidden has_ended f (u ++ s)) x
    widen x h = let k = Has-filter (λ o. not (has_ended f o)) (theirs ++ s) x h
        in elim (has_either theirs s x k.0) [
          | inl l ↦ Has-in_filter (λ o. not (has_ended f o)) (u ++ s) x
              (has_left u s x (Has-filter (λ o. not (has_ended g o)) u x (theirs_held.of_set x l)).0)
              k.1
          | inr r ↦ Has-in_filter (λ o. not (has_ended f o)) (u ++ s) x (has_right u s x r) k.1
        ]

    -- what beats w, or w itself, among what is shown of theirs and s
    peak : (w : ObservationData) → Has (without_hidden has_ended f (u ++ s)) w
        → (p : ObservationData) × Has (without_hidden has_ended f (theirs ++ s)) p
        × ((p ≡ w) ⊎ (beats p w ≡ true))
    peak w m = let k = Has-filter (λ o. not (has_ended f o)) (u ++ s) w m
        in elim (has_either u s w k.0) [
          | inr r ↦ (
            w,
            Has-in_filter (λ o. not (has_ended f o)) (theirs ++ s) w (has_right theirs s w r) k.1,
            inl refl,
          )
          | inl l ↦
              let there : Has (without_hidden has_ended g u) w =
              Has-in_filter (λ o. not (has_ended g o)) u w l (ap not (later w (not-true _ k.1))) in
              let c = climb beats_laws (without_hidden has_ended g u) w in
              let member : Has (without_hidden has_ended g u) c.0 =
              elim c.1 [
                | inl same ↦ subst (Has (without_hidden has_ended g u)) (sym same) there
                | inr far ↦ far.0
              ] in
              let seen : has_ended f c.0 ≡ false = elim c.1 [
                | inl same ↦ ap (has_ended f) same ∙ not-true _ k.1
                | inr far ↦ elim (cases_Bool (has_ended f c.0)) [
                  | inr nay ↦ nay
                  | inl end ↦
                      absurd (false≢true (sym (not-true _ k.1)
                      ∙ beaten_hidden f c.0 w end far.1))
                ]
              ] in (
                c.0,
                Has-in_filter (λ o. not (has_ended f o)) (theirs ++ s) c.0
                    (has_left theirs s c.0 (theirs_held.whole c.0 member c.2)) (ap not seen),
                elim c.1 [ inl same ↦ inl same | inr far ↦ inr far.1 ],
              )
        ]

    narrow : (x : ObservationData) → Has (without_hidden has_ended f (u ++ s)) x
        → IsUndominated beats (without_hidden has_ended f (u ++ s)) x
        → Has (without_hidden has_ended f (theirs ++ s)) x
    narrow x m free = let k = Has-filter (λ o. not (has_ended f o)) (u ++ s) x m
        in elim (has_either u s x k.0) [
          | inr r ↦ Has-in_filter (λ o. not (has_ended f o)) (theirs ++ s) x
              (has_right theirs s x r) k.1
          | inl l ↦ Has-in_filter (λ o. not (has_ended f o)) (theirs ++ s) x
              (has_left theirs s x (theirs_held.whole x
              (Has-in_filter (λ o. not (has_ended g o)) u x l (ap not (later x (not-true _ k.1))))
              (λ w h. elim (cases_Bool (beats w x)) [
                | inr nay ↦ nay
                | inl over ↦ elim (cases_Bool (has_ended f w)) [
                  | inl end ↦ absurd (false≢true (sym (not-true _ k.1)
                      ∙ beaten_hidden f w x end over))
                  | inr seen ↦ free w (Has-in_filter (λ o. not (has_ended f o)) (u ++ s) w
                      (has_left u s w (Has-filter (λ o. not (has_ended g o)) u w h).0)
                      (ap not seen))
                ]
              ]))) k.1
        ]

-- equal sets at equal floors are held alike
pub cached_same : (s t xs ys : List ObservationData) (f : ℕ) → IsCached s f xs → IsCached t f ys
    → IsSameSet s t → xs ≡ ys
cached_same s t xs ys f a b same =
    let p = cached_front s xs f a in
    let q = cached_front t ys f b in
    descending_same place_laws xs ys p.descending q.descending
    (λ z h. q.whole z (over z (p.of_set z h)) (λ w m. p.undominated z h w (back w m)))
    (λ z h. p.whole z (back z (q.of_set z h)) (λ w m. q.undominated z h w (over w m)))
  where
    over : (z : ObservationData) → Has (without_hidden has_ended f s) z
        → Has (without_hidden has_ended f t) z
    over z h = let k = shown_parts s f z h in shown_of t f z (same.into z k.0) k.1

    back : (z : ObservationData) → Has (without_hidden has_ended f t) z
        → Has (without_hidden has_ended f s) z
    back z h = let k = shown_parts t f z h in shown_of s f z (same.back z k.0) k.1

-- the order in which a set is listed does not count
pub cached_listed : (s t items : List ObservationData) (f : ℕ) → IsCached s f items → IsSameSet s t
    → IsCached t f items
cached_listed s t items f a same =
    let p = cached_front s items f a in
    cached_from t items f (λ o h. a.lawful o (same.back o h)) (record {
      descending = p.descending;
      of_set = λ z h. let k = shown_parts s f z (p.of_set z h)
          in shown_of t f z (same.into z k.0) k.1;
      undominated = λ z h w m. let k = shown_parts t f w m
          in p.undominated z h w (shown_of s f w (same.back w k.0) k.1);
      whole = λ z m free. let k = shown_parts t f z m
          in p.whole z (shown_of s f z (same.back z k.0) k.1)
          (λ w h. let j = shown_parts s f w h in free w (shown_of t f w (same.into w j.0) j.1));
    })

-- one more of a list was taken
more_same : (ys s : List ObservationData) (x : ObservationData)
    → IsSameSet (x ∷ (ys ++ s)) ((ys ++ x ∷ []) ++ s)
more_same ys s x = record {
  into = λ z h. elim h [
    | inl e ↦ has_left (ys ++ x ∷ []) s z (has_right ys (x ∷ []) z (inl e))
    | inr m ↦ elim (has_either ys s z m) [
      | inl l ↦
          has_left (ys ++ x ∷ []) s z (has_left ys (x ∷ []) z l)
      | inr r ↦
          has_right (ys ++ x ∷ []) s z r
    ]
  ];
  back = λ z h. elim (has_either (ys ++ x ∷ []) s z h) [
    | inl l ↦ elim (has_either ys (x ∷ []) z l) [
      | inl a ↦ inr (has_left ys s z a)
      | inr b ↦
          elim b [ inl e ↦ inl e | inr none ↦ absurd none ]
    ]
    | inr r ↦ inr (has_right ys s z r)
  ];
}

pub cached_more : (ys s items : List ObservationData) (f : ℕ) (x : ObservationData)
    → IsCached (x ∷ (ys ++ s)) f items → IsCached ((ys ++ x ∷ []) ++ s) f items
cached_more ys s items f x cached = cached_listed (x ∷ (ys ++ s)) ((ys ++ x ∷ []) ++ s) items f
    cached (more_same ys s x)

-- the last of a list, or the first
pub last_first : (s : List ObservationData) (x : ObservationData) → IsSameSet (s ++ x ∷ []) (x ∷ s)
last_first s x = record {
  into = λ z h. elim (has_either s (x ∷ []) z h) [
    | inl l ↦ inr l
    | inr r ↦
        elim r [ inl e ↦ inl e | inr none ↦ absurd none ]
  ];
  back = λ z h. elim h [ inl e ↦ has_right s (x ∷ []) z (inl e) | inr m ↦ has_left s (x ∷ []) z m ];
}

pub first_last : (s : List ObservationData) (x : ObservationData) → IsSameSet (x ∷ s) (s ++ x ∷ [])
first_last s x = record { into = (last_first s x).back; back = (last_first s x).into }

-- a cache took a list in, and its floor stayed
pub record HasTaken (before after : CacheData) (list : List ObservationData) : Type 0 where
  pub cached : (s : List ObservationData) → IsCached s before.floor before.items
      → IsCached (list ++ s) after.floor after.items
  pub floor : after.floor ≡ before.floor

pub taken_none : (held : CacheData) → HasTaken held held []
taken_none held = record { cached = λ s cached. cached; floor = refl }

-- and one more
pub taken_more : (before mid after : CacheData) (list : List ObservationData) (x : ObservationData)
    → HasTaken before mid list → ((s : List ObservationData) → IsCached s mid.floor mid.items
    → IsCached (x ∷ s) after.floor after.items) → after.floor ≡ mid.floor
    → HasTaken before after (list ++ x ∷ [])
taken_more before mid after list x taken one same = record {
  cached = λ s cached. cached_more list s after.items after.floor x
      (one (list ++ s) (taken.cached s cached));
  floor = same ∙ taken.floor;
}

-- where a list begins with what was taken, its front part of that length is what was taken
pub taken_is : (ys rest all : List ObservationData) (n : ℕ) → all ≡ ys ++ rest → n ≡ length ys
    → take n all ≡ ys
taken_is ys rest all n e l = rw (e, l) (take-append_seam ys rest)

pub taken_within : (ys rest all : List ObservationData) (x : ObservationData) (n : ℕ)
    → all ≡ ys ++ x ∷ rest → n ≡ length ys → n < length all
taken_within ys rest all x n e l = let whole = ap length e in let parts =
    length-append ys (x ∷ rest) in omega (arith, l, whole, parts)

-- and the first one that was not taken is of the list
pub seam_at : (ys rest all : List ObservationData) (x : ObservationData) (n : ℕ)
    → all ≡ ys ++ x ∷ rest → n ≡ length ys → slice_get all n ≡ Some x
seam_at ys rest all x n e l = rw (e, l) (at_seam ys)
  where
    at_seam : (ys : List ObservationData) → slice_get (ys ++ x ∷ rest) (length ys) ≡ Some x
    at_seam [] = refl
    at_seam (y ∷ ys) = at_seam ys

-- a result that is known to be one or the other
pub at_ok : {T E P : Type 0} (r : Result T E) → is_ok r ≡ true → OnOk r P → P
at_ok (Ok x) e p = p
at_ok (Err y) e p = absurd (false≢true e)

pub at_err : {T E P : Type 0} (r : Result T E) → true ≡ is_err r → OnErr r P → P
at_err (Ok x) e p = absurd (false≢true (sym e))
at_err (Err y) e p = p
