-- How what is held follows the set.
-- Serves `Cache::answer_at`, `Cache::is_past`, `Cache::is_past_lent`, `Cache::items`,
-- `Cache::needs`, `Cache::purge`, `Cache::take`, `Held::may_deny`, `Held::may_deny_above`,
-- `Held::may_flush`, `Held::may_flush_above`, `Held::may_flush_any`, `Held::take`, `trim`, and what
-- `Both`, `DominanceLemmas`, `LentItems`, `Past`, `Reclaiming` serve.
use Rattle.std.proofs.Common.{ℕ, ◌≡◌, ◌≤◌, get_or, Result, Ok, Err, IfOk, OnErr, Bool, true, false, not, ◌&&◌, nat_lt, List, [], ◌∷◌, ◌++◌, ◌↔◌, inl, inr, length, sym, ap, refl, ◌∙◌, subst, arith}
use mathlib.Core.Bool.{false≢true}
use Rattle.std.specs.List.{filter}
use Rattle.std.proofs.lemmas.Bool.{cases_Bool, not-true}
use Rattle.std.proofs.lemmas.Bool.Decides.{nat_tests}
use Rattle.fleet_name.proofs.Lemmas.{Has-filter, Has-in_filter, has_right, has_either}
use Rattle.fleet_front.proofs.Lemmas.{climb, front_itself, IsDescending-filter}
use Rattle.fleet_observe.specs.Members.{Has}
use Rattle.fleet_observe.specs.declared.observation.kind.Kind.{Kind}
use Rattle.fleet_observe.specs.Observation.{ObservationData, IsObservation, AreObservations, expires}
use Rattle.fleet_cache.specs.Front.{IsDescending, IsFront, IsUndominated, without_hidden}
use Rattle.fleet_cache.specs.Void.{Voids, IsVoid, is_void}
use Rattle.fleet_cache.specs.Live.{has_ended, is_live, live_of}
use Rattle.fleet_cache.specs.Dominates.{dominates}
use Rattle.fleet_cache.specs.Cached.{item_order, IsCached, IsCovered, IsPast, IsNeedless, IsSameSet}
use Rattle.fleet_cache.specs.steps.Held.{IsHeld, IsTaken}
use Rattle.fleet_cache.specs.steps.Noted.{NotedData, AreNoted, HasNone, HasNoneShorter}
use Rattle.fleet_cache.specs.steps.Reclaimed.{IsThinned, IsReclaimed}
use Rattle.fleet_cache.specs.steps.Orders.{over_from}
use Rattle.fleet_cache.proofs.Places.{place_laws}
use Rattle.fleet_cache.proofs.Voids.{void_from, void_to, unvoided_by, unvoided_to, voids_below, voids_over, flush_stays, void_outlived}
use Rattle.fleet_cache.proofs.Beats.{live_parts, live_to, lives_in, live_in}
use Rattle.fleet_cache.proofs.Existence.{cache_of}
use Rattle.fleet_cache.proofs.Caches.{cached_itself, cached_same, cached_listed, cached_both, cached_purged, more_lawful, last_first, first_last}

-- what has ended, or is void, is not live
pub gone_ended : (s : List ObservationData) (t : ℕ) (x : ObservationData) → has_ended t x ≡ true
    → is_live s t x ≡ false
gone_ended s t x e = elim (cases_Bool (is_live s t x)) [
  | inr nay ↦ nay
  | inl yea ↦ absurd (false≢true (sym (live_parts s t x yea).0 ∙ e))
]

pub gone_void : (s : List ObservationData) (t : ℕ) (x : ObservationData) → is_void s x ≡ true
    → is_live s t x ≡ false
gone_void s t x e = elim (cases_Bool (is_live s t x)) [
  | inr nay ↦ nay
  | inl yea ↦ absurd (false≢true (sym (live_parts s t x yea).1 ∙ e))
]

-- what dominates what is live is live
pub live_longer : (s : List ObservationData) (t : ℕ) (p o : ObservationData) → dominates p o ≡ true
    → is_live s t o ≡ true → is_live s t p ≡ true
live_longer s t p o over live =
    let le = (over_from p o over).outlives in
    let l = live_parts s t o live in
    let lasts : has_ended t p ≡ false = grind (arith, nat_tests, le, l.0) in
    live_to s t p lasts (elim (cases_Bool (is_void s p)) [
      | inr nay ↦ nay
      | inl yea ↦ let v = void_from s p yea in absurd (false≢true
          (sym l.1 ∙ void_to s o (v.0, v.1, voids_below v.0 p o v.2 over)))
    ])

-- pruning loses no flush that withdraws
module _ (s items : List ObservationData) (front : IsFront item_order dominates s items) where
  peak_of : (g : ObservationData) → Has s g → (p : ObservationData) × Has items p
      × ((x : ObservationData) → Voids g x → Voids p x)
  peak_of g h = let c = climb place_laws s g in elim c.1 [
    | inl same ↦ (
      c.0,
      front.whole c.0 (subst (Has s) (sym same) h) c.2,
      λ x v. subst (λ w. Voids w x) (sym same) v,
    )
    | inr far ↦ (
      c.0,
      front.whole c.0 far.0 c.2,
      λ x v. voids_over c.0 g x far.1 v,
    )
  ]

  void_pruned : (x : ObservationData) → is_void s x ≡ is_void items x
  void_pruned x = elim (cases_Bool (is_void s x)) [
    | inl yea ↦
        let v = void_from s x yea in
        let p = peak_of v.0 v.1 in
        yea ∙ sym (void_to items x (p.0, p.1, p.2 x v.2))
    | inr nay ↦ nay ∙ sym (unvoided_to items x
        (λ g h. unvoided_by s x g nay (front.of_set g h)))
  ]

  live_pruned : (t : ℕ) (x : ObservationData) → is_live s t x ≡ is_live items t x
  live_pruned t x = ap (λ b. nat_lt t (expires x) && not b) (void_pruned x)

  pub pruned_cached : (f : ℕ) → AreObservations s → IsCached s f (live_of items f)
  pruned_cached f lawful = record {
    lawful = lawful;
    front = record {
      descending = IsDescending-filter item_order (is_live items f) items front.descending;
      of_set = λ x h. let k = Has-filter (is_live items f) items x h
          in Has-in_filter (is_live s f) s x (front.of_set x k.0) (live_pruned f x ∙ k.1);
      undominated = λ x h w m. front.undominated x (Has-filter (is_live items f) items x h).0 w
          (Has-filter (is_live s f) s w m).0;
      whole = λ x m free. let k = Has-filter (is_live s f) s x m
          in Has-in_filter (is_live items f) items x
          (front.whole x k.0 (λ w h. undominated x k.1 free w h)) (sym (live_pruned f x) ∙ k.1);
    };
  }
    where
      undominated : (x : ObservationData) → is_live s f x ≡ true
          → IsUndominated dominates (live_of s f) x → IsUndominated dominates s x
      undominated x live free w h = elim (cases_Bool (dominates w x)) [
        | inr nay ↦ nay
        | inl over ↦ absurd (false≢true (sym (free w (Has-in_filter (is_live s f) s w h
            (live_longer s f w x over live))) ∙ over))
      ]

-- what is live of what is held is its cache
pub held_cached : (items : List ObservationData) (f : ℕ) → IsHeld items
    → IsCached items f (live_of items f)
held_cached items f held = pruned_cached items items held.front f held.lawful

-- and the cache of its own set
pub held_itself : (items : List ObservationData) (f : ℕ) → IsHeld items
    → IsCached (live_of items f) f (live_of items f)
held_itself items f held = cached_itself items (live_of items f) f (held_cached items f held)

itself : (s : List ObservationData) → IsSameSet s s
itself s = record { into = λ x h. h; back = λ x h. h }

-- sets with one cache have one with more
swapped : (s u items w more : List ObservationData) (f : ℕ) → IsCached s f items
    → IsCached u f items → IsCached (s ++ w) f more → IsCached (u ++ w) f more
swapped s u items w more f a b both =
    let own = cached_itself s items f a in
    let c = cache_of (items ++ w) f (λ o h. elim (has_either items w o h) [
      | inl l ↦ own.lawful o l
      | inr r ↦ both.lawful o (has_right s w o r)
    ]) in
    let same : c.0 ≡ more = cached_same (s ++ w) (s ++ w) c.0 more f
    (cached_both w s items c.0 f f (omega arith) a c.1) both (itself (s ++ w)) in
    subst (IsCached (u ++ w) f) same (cached_both w u items c.0 f f (omega arith) b c.1)

-- one more was taken in
module _ (items new : List ObservationData) (x : ObservationData) (held : IsHeld items)
    (one : IsObservation x) (front : IsFront item_order dominates (x ∷ items) new) where
  pub taken_held : IsHeld new
  taken_held = record {
    lawful = λ o h. more_lawful items x one held.lawful o (front.of_set o h);
    front = front_itself place_laws (x ∷ items) new front;
  }

  pub taken_cached : (s : List ObservationData) (f : ℕ) → IsCached s f (live_of items f)
      → IsCached (x ∷ s) f (live_of new f)
  taken_cached s f cached =
      let both = pruned_cached (x ∷ items) new front f (more_lawful items x one held.lawful) in
      cached_listed (s ++ x ∷ []) (x ∷ s) (live_of new f) f
      (swapped items s (live_of items f) (x ∷ []) (live_of new f) f (held_cached items f held)
      cached (cached_listed (x ∷ items) (items ++ x ∷ []) (live_of new f) f both
      (first_last items x)))
      (last_first s x)

-- what is past is what is not live
pub past_test : (items : List ObservationData) (f : ℕ) (x : ObservationData)
    → AreObservations items → IsObservation x
    → (not (is_live items f x) ≡ true) ↔ IsPast f (live_of items f) x
past_test items f x lawful one = (
  (λ e. elim (cases_Bool (has_ended f x)) [
    | inl end ↦ inl (grind (arith, nat_tests, end))
    | inr lasts ↦ elim (cases_Bool (is_void items x)) [
      | inr spared ↦ absurd (false≢true (sym (not-true (is_live items f x) e)
          ∙ live_to items f x lasts spared))
      | inl void ↦ inr (in_sight lasts (void_from items x void))
    ]
  ]),
  λ past. ap not (elim past [
    | inl end ↦ gone_ended items f x (grind (arith, nat_tests, end))
    | inr v ↦ gone_void items f x
        (void_to items x (v.0, (lives_in items f v.0 v.1).member, v.2))
  ]),
)
  where
    in_sight : has_ended f x ≡ false → IsVoid items x → IsVoid (live_of items f) x
    in_sight lasts v =
        let longer = void_outlived v.0 x (lawful v.0 v.1) one v.2 in
        let seen : has_ended f v.0 ≡ false = grind (arith, nat_tests, longer, lasts) in (
          v.0,
          live_in items f v.0 (record {
            member = v.1;
            lasts = seen;
            unvoided = unvoided_to items v.0 (λ g k. flush_stays g v.0 v.2.flush);
          }),
          v.2,
        )

-- what is not past need not be held just where what is held covers it
pub needless_test : (items : List ObservationData) (f : ℕ) (x : ObservationData)
    → AreObservations items → IsObservation x → ¬ IsPast f (live_of items f) x
    → IsCovered items x ↔ IsNeedless f (live_of items f) x
needless_test items f x lawful one current = (
  (λ c. inr (
    c.0,
    Has-in_filter (is_live items f) items c.0 c.1 (elim c.2 [
      | inl same ↦ ap (is_live items f) same ∙ live
      | inr over ↦ live_longer items f c.0 x over live
    ]),
    c.2,
  )),
  λ n. elim n [
    | inl past ↦ absurd (current past)
    | inr c ↦ (c.0, (Has-filter (is_live items f) items c.0 c.1).0, c.2)
  ],
)
  where
    live : is_live items f x ≡ true
    live = elim (cases_Bool (is_live items f x)) [
      | inl yea ↦ yea
      | inr nay ↦ absurd (current ((past_test items f x lawful one).0 (ap not nay)))
    ]

-- what is live is no more than what is there
pub live_shorter : (lives : ObservationData → Bool) (s : List ObservationData)
    → length (filter lives s) ≤ length s
live_shorter lives [] = omega arith
live_shorter lives (x ∷ s) = elim (cases_Bool (lives x)) [
  | inl e ↦ rw e (let n = live_shorter lives s in omega (arith, n))
  | inr e ↦ rw e (let n = live_shorter lives s in omega (arith, n))
]

-- the same set at a later floor
pub purged_cached : (s items : List ObservationData) (f m : ℕ) → f ≤ m → IsHeld items
    → IsCached s f (live_of items f) → IsCached s m (live_of items m)
purged_cached s items f m le held cached =
    let same : without_hidden has_ended m (live_of items f) ≡ live_of items m =
    cached_same items items (without_hidden has_ended m (live_of items f)) (live_of items m) m
    (cached_purged items (live_of items f) f m le (held_cached items f held))
    (held_cached items m held) (itself items) in
    subst (IsCached s m) same (cached_purged s (live_of items f) f m le cached)

-- tests that agree on the members let the same ones through
filtered_alike : (p q : ObservationData → Bool) (s : List ObservationData)
    → ((x : ObservationData) → Has s x → p x ≡ q x) → filter p s ≡ filter q s
filtered_alike p q [] same = refl
filtered_alike p q (x ∷ s) same = elim (cases_Bool (q x)) [
  | inl e ↦ let f : p x ≡ true = same x (inl refl) ∙ e in
      rw (e, f) (ap (λ v. x ∷ v) (filtered_alike p q s (λ y h. same y (inr h))))
  | inr e ↦ let f : p x ≡ false = same x (inl refl) ∙ e in
      rw (e, f) (filtered_alike p q s (λ y h. same y (inr h)))
]

-- where none was dropped but what is not live, what is live stays
pub thinned_reclaimed : (m : ℕ) (items rest : List ObservationData) → AreObservations items
    → IsThinned (is_live items m) items rest → IsReclaimed m items rest
thinned_reclaimed m items rest lawful thin = record {
  live_still = filtered_alike (is_live rest m) (is_live items m) rest alike ∙ thin.live_still;
  of_items = thin.of_items;
  size = thin.size;
}
  where
    -- a live flush was not dropped
    stays : (x : ObservationData) → Has items x → is_live items m x ≡ true → Has rest x
    stays x h live = (Has-filter (is_live items m) rest x (subst (λ v. Has v x)
        (sym thin.live_still) (Has-in_filter (is_live items m) items x h live))).0

    void_still : (x : ObservationData) → Has rest x → has_ended m x ≡ false → IsVoid items x
        → IsVoid rest x
    void_still x h lasts v =
        let longer = void_outlived v.0 x (lawful v.0 v.1) (lawful x (thin.of_items x h)) v.2 in
        let seen : has_ended m v.0 ≡ false = grind (arith, nat_tests, longer, lasts) in (
          v.0,
          stays v.0 v.1 (live_to items m v.0 seen (unvoided_to items v.0
              (λ g k. flush_stays g v.0 v.2.flush))),
          v.2,
        )

    alike : (x : ObservationData) → Has rest x → is_live rest m x ≡ is_live items m x
    alike x h = elim (cases_Bool (has_ended m x)) [
      | inl end ↦ gone_ended rest m x end ∙ sym (gone_ended items m x end)
      | inr lasts ↦ elim (cases_Bool (is_void items x)) [
        | inl void ↦ gone_void rest m x (void_to rest x (void_still x h lasts
            (void_from items x void))) ∙ sym (gone_void items m x void)
        | inr spared ↦ live_to rest m x lasts (unvoided_to rest x
            (λ g k. unvoided_by items x g spared (thin.of_items g k)))
            ∙ sym (live_to items m x lasts spared)
      ]
    ]

-- in order, what is left of what is held is held
pub thinned_held : (items rest : List ObservationData) → IsHeld items → IsDescending item_order rest
    → ((x : ObservationData) → Has rest x → Has items x) → IsHeld rest
thinned_held items rest held order of_items = record {
  lawful = λ x h. held.lawful x (of_items x h);
  front = record {
    descending = order;
    of_set = λ x h. h;
    undominated = λ x h w k. held.front.undominated x (of_items x h) w (of_items w k);
    whole = λ x h free. h;
  };
}

-- an observation was taken in, or what is held was left as it was
pub stored_held : {E : Type 0} (items new : List ObservationData) (x : ObservationData)
    → IsHeld items → IsObservation x → (r : Result Bool E) → IfOk r (IsTaken items new x)
    → OnErr r (new ≡ items)
    → IsHeld new × ((o : ObservationData) → Has new o → Has (x ∷ items) o)
stored_held items new x held one (Err e) taken same =
    (subst IsHeld (sym same) held, λ o h. inr (subst (λ v. Has v o) same h))
stored_held items new x held one (Ok kept) taken same =
    (taken_held items new x held one taken.front, taken.front.of_set)

-- where a length is not noted, no name of it is there
pub noted_none : (kind : Kind) (noted : NotedData) (items : List ObservationData) (size : ℕ)
    → AreNoted kind noted items → get_or noted.lengths size false ≡ false → HasNone kind size items
noted_none kind noted items size are none o h is of_size =
    false≢true (sym none ∙ (ap (λ v. get_or noted.lengths v false) (sym of_size)
    ∙ (are o h is).marked))

-- where no shorter length is noted, no shorter name is there
pub noted_longer : (kind : Kind) (noted : NotedData) (items : List ObservationData) (size : ℕ)
    → AreNoted kind noted items → nat_lt noted.least size ≡ false
    → HasNoneShorter kind size items
noted_longer kind noted items size are none o h is =
    let within = (are o h is).within in grind (arith, nat_tests, none, within)
