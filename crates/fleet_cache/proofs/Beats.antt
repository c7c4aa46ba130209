-- One relation for both ways in which an observation makes another one needless: it dominates it, or
-- withdraws it. A cache is the front of its set by this relation.
-- Serves what `Answers`, `Best`, `Caches`, `Holdings`, `IsStale`, `Past`, `Rounds`, `TestsHold`
-- serve, and fleet_gossip, fleet_world.
use Rattle.std.proofs.Common.{ℕ, ◌≡◌, Bool, true, false, not, ◌&&◌, ◌||◌, nat_le, List, ◌⊎◌, inl, inr, sym, ap, refl, ◌∙◌, subst, arith}
use mathlib.Core.Bool.{false≢true}
use Rattle.std.specs.declared.cmp.Ordering.{Ordering}
use Rattle.std.specs.declared.cmp.Ordering.TheVariants.{Equal, Greater}
use Rattle.std.specs.Ordering.{nat_cmp, ordering_then}
use Rattle.std.specs.Cmp.{IsTotalOrder}
use Rattle.std.proofs.lemmas.Cmp.{on_total, then_total, nat_cmp_total, tied_itself}
use Rattle.std.proofs.lemmas.Bool.{cases_Bool, not-true, and_parts, and_from, or_cases, or_left, or_right}
use Rattle.std.proofs.lemmas.Bool.Decides.{nat_tests}
use Rattle.fleet_name.specs.Name.{IsUnder}
use Rattle.fleet_name.proofs.Lemmas.{Has-filter, Has-in_filter}
use Rattle.fleet_front.specs.Front.{RankedLaws}
use Rattle.fleet_front.proofs.Lemmas.{IsDescending-filter}
use Rattle.fleet_observe.specs.Members.{Has}
use Rattle.fleet_observe.specs.declared.observation.kind.Kind.{Kind}
use Rattle.fleet_observe.specs.declared.observation.kind.Kind.TheVariants.{NameError, NoData, Positive, Flush}
use Rattle.fleet_observe.specs.Observation.{ObservationData, AreObservations, kind_number, expires}
use Rattle.fleet_observe.specs.Preference.{preference, preference_total}
use Rattle.fleet_observe.proofs.Lemmas.{then_parts, preference_exact}
use Rattle.fleet_cache.specs.Front.{IsFront, IsUndominated, without_hidden}
use Rattle.fleet_cache.specs.Void.{Voids, voids, is_void}
use Rattle.fleet_cache.specs.Live.{has_ended, is_live, live_of}
use Rattle.fleet_cache.specs.Dominates.{dominates}
use Rattle.fleet_cache.specs.Cached.{item_order, IsCached}
use Rattle.fleet_cache.specs.steps.Orders.{over_from, over_chain}
use Rattle.fleet_cache.proofs.SameKeys.{key_parts}
use Rattle.fleet_cache.proofs.Voids.{voids_from, voids_to, void_from, void_to, unvoided_by, voids_below, void_outlived}

-- p dominates o, or withdraws it and lasts as long
abbrev pub beats : ObservationData → ObservationData → Bool
beats p o = dominates p o || (voids p o && nat_le (expires o) (expires p))

-- p withdraws o and lasts as long
pub record Outlasts (p o : ObservationData) : Type 0 where
  pub voids : Voids p o
  pub outlives : nat_le (expires o) (expires p) ≡ true

pub beats_cases : (p o : ObservationData) → beats p o ≡ true → (dominates p o ≡ true) ⊎ Outlasts p o
beats_cases p o e =
    elim (or_cases (dominates p o) (voids p o && nat_le (expires o) (expires p)) e) [
      | inl over ↦ inl over
      | inr both ↦ let b = and_parts (voids p o) (nat_le (expires o) (expires p)) both
          in inr (record { voids = voids_from p o b.0; outlives = b.1 })
    ]

pub dominates_beats : (p o : ObservationData) → dominates p o ≡ true → beats p o ≡ true
dominates_beats p o e = or_left _ _ e

pub outlasts_beats : (p o : ObservationData) → Outlasts p o → beats p o ≡ true
outlasts_beats p o v = or_right _ _ (and_from _ _ (voids_to p o v.voids) v.outlives)

pub beaten_ends : (p o : ObservationData) → beats p o ≡ true
    → nat_le (expires o) (expires p) ≡ true
beaten_ends p o e = elim (beats_cases p o e) [
  | inl over ↦ (over_from p o over).outlives
  | inr out ↦ out.outlives
]

pub beats_chain : (x y z : ObservationData) → beats x y ≡ true → beats y z ≡ true
    → beats x z ≡ true
beats_chain x y z e f = elim (beats_cases x y e) [
  | inl a ↦ elim (beats_cases y z f) [
    | inl b ↦ dominates_beats x z (over_chain x y z a b)
    | inr b ↦
        let over = over_from x y a in
        let key = key_parts x y over.same_key in
        outlasts_beats x z (record {
          voids = record {
            flush = key.kind ∙ b.voids.flush;
            other = b.voids.other;
            under = subst (IsUnder z.name) (sym key.name) b.voids.under;
            later = grind (arith, nat_tests, over.later, b.voids.later);
          };
          outlives = grind (arith, nat_tests, over.outlives, b.outlives);
        })
  ]
  | inr a ↦ elim (beats_cases y z f) [
    | inl b ↦
        let longer = (over_from y z b).outlives in
        outlasts_beats x z (record {
          voids = voids_below x y z a.voids b;
          outlives = grind (arith, nat_tests, longer, a.outlives);
        })
    | inr b ↦ absurd (a.voids.other b.voids.flush)
  ]
]

pub beaten_hidden : (t : ℕ) (x y : ObservationData) → has_ended t x ≡ true → beats x y ≡ true
    → has_ended t y ≡ true
beaten_hidden t x y e f = let longer = beaten_ends x y f in grind (arith, nat_tests, longer, e)

-- an order in which what beats is the greater: flushes first
abbrev ahead : ObservationData → ObservationData → Ordering
ahead x y = ordering_then (nat_cmp (kind_number x.kind) (kind_number y.kind)) (preference x y)

ahead_total : IsTotalOrder ahead
ahead_total = then_total (on_total (λ (x : ObservationData). kind_number x.kind) nat_cmp_total)
    preference_total

ahead_exact : (x y : ObservationData) → ahead x y ≡ Equal → x ≡ y
ahead_exact x y e = preference_exact x y
    (then_parts (nat_cmp (kind_number x.kind) (kind_number y.kind)) (preference x y) e).1

flush_first : (k : Kind) → (k ≡ Flush → ⊥) → nat_cmp 4 (kind_number k) ≡ Greater
flush_first NameError e = refl
flush_first NoData e = refl
flush_first Positive e = refl
flush_first Flush e = absurd (e refl)

ahead_beats : (x y : ObservationData) → beats x y ≡ true → ahead x y ≡ Greater
ahead_beats x y e = elim (beats_cases x y e) [
  | inl a ↦
      let over = over_from x y a in
      let same : nat_cmp (kind_number x.kind) (kind_number y.kind) ≡ Equal =
      ap (λ k. nat_cmp (kind_number k) (kind_number y.kind)) (key_parts x y over.same_key).kind
      ∙ tied_itself nat_cmp_total (kind_number y.kind) in
      ap (λ o. ordering_then o (preference x y)) same ∙ over.preferred
  | inr a ↦
      let first : nat_cmp (kind_number x.kind) (kind_number y.kind) ≡ Greater =
      ap (λ k. nat_cmp (kind_number k) (kind_number y.kind)) a.voids.flush
      ∙ flush_first y.kind a.voids.other in
      ap (λ o. ordering_then o (preference x y)) first
]

pub beats_laws : RankedLaws ahead beats has_ended
beats_laws = record {
  total = ahead_total;
  exact = ahead_exact;
  chained = beats_chain;
  greater = ahead_beats;
  hides_below = beaten_hidden;
}

-- a front is the front of its own items
pub beats_itself : (s items : List ObservationData) → IsFront item_order beats s items
    → IsFront item_order beats items items
beats_itself s items front = record {
  descending = front.descending;
  of_set = λ y h. h;
  undominated = λ i h w m. front.undominated i h w (front.of_set w m);
  whole = λ w m free. m;
}

-- a moment commutes with the front
pub beats_shown : (t : ℕ) (s items : List ObservationData) → IsFront item_order beats s items
    → IsFront item_order beats (without_hidden has_ended t s) (without_hidden has_ended t items)
beats_shown t s items front = record {
  descending = IsDescending-filter item_order _ items front.descending;
  of_set = λ y h. let k = Has-filter (λ o. not (has_ended t o)) items y h
      in Has-in_filter (λ o. not (has_ended t o)) s y (front.of_set y k.0) k.1;
  undominated = λ i h w m. front.undominated i (Has-filter (λ o. not (has_ended t o)) items i h).0 w
      (Has-filter (λ o. not (has_ended t o)) s w m).0;
  whole = λ w m free. let k = Has-filter (λ o. not (has_ended t o)) s w m in
      Has-in_filter (λ o. not (has_ended t o)) items w
      (front.whole w k.0 (λ y h. all_free w k.1 free y h)) k.1;
}
  where
    all_free : (w : ObservationData) → not (has_ended t w) ≡ true
        → IsUndominated beats (without_hidden has_ended t s) w
        → IsUndominated beats s w
    all_free w seen free y h = elim (cases_Bool (beats y w)) [
      | inr f ↦ f
      | inl b ↦ elim (cases_Bool (has_ended t y)) [
        | inl end ↦ absurd (false≢true (sym (not-true _ seen) ∙ beaten_hidden t y w end b))
        | inr vis ↦ free y (Has-in_filter (λ o. not (has_ended t o)) s y h (ap not vis))
      ]
    ]

-- what is shown of a set
pub shown_parts : (s : List ObservationData) (t : ℕ) (x : ObservationData)
    → Has (without_hidden has_ended t s) x → Has s x × (has_ended t x ≡ false)
shown_parts s t x h = let k = Has-filter (λ o. not (has_ended t o)) s x h
    in (k.0, not-true (has_ended t x) k.1)

pub shown_of : (s : List ObservationData) (t : ℕ) (x : ObservationData) → Has s x
    → has_ended t x ≡ false → Has (without_hidden has_ended t s) x
shown_of s t x h e = Has-in_filter (λ o. not (has_ended t o)) s x h (ap not e)

-- what is live of it
pub record LivesIn (s : List ObservationData) (t : ℕ) (x : ObservationData) : Type 0 where
  pub member : Has s x
  pub lasts : has_ended t x ≡ false
  pub unvoided : is_void s x ≡ false

pub live_parts : (s : List ObservationData) (t : ℕ) (x : ObservationData) → is_live s t x ≡ true
    → (has_ended t x ≡ false) × (is_void s x ≡ false)
live_parts s t x e =
    let p = and_parts _ (not (is_void s x)) e in
    let lasts : has_ended t x ≡ false = grind (arith, nat_tests, p.0) in
    (lasts, not-true (is_void s x) p.1)

pub live_to : (s : List ObservationData) (t : ℕ) (x : ObservationData) → has_ended t x ≡ false
    → is_void s x ≡ false → is_live s t x ≡ true
live_to s t x e f = and_from _ _ (grind (arith, nat_tests, e)) (ap not f)

pub lives_in : (s : List ObservationData) (t : ℕ) (x : ObservationData) → Has (live_of s t) x
    → LivesIn s t x
lives_in s t x h =
    let k = Has-filter (is_live s t) s x h in
    let p = live_parts s t x k.1 in
    record { member = k.0; lasts = p.0; unvoided = p.1 }

pub live_in : (s : List ObservationData) (t : ℕ) (x : ObservationData) → LivesIn s t x
    → Has (live_of s t) x
live_in s t x l = Has-in_filter (is_live s t) s x l.member (live_to s t x l.lasts l.unvoided)

module _ (s items : List ObservationData) (f : ℕ) (lawful : AreObservations s) where
  -- what is void is beaten by what is shown
  void_beaten : (x : ObservationData) → Has s x → has_ended f x ≡ false → is_void s x ≡ true
      → (g : ObservationData) × Has (without_hidden has_ended f s) g × (beats g x ≡ true)
  void_beaten x h lasts e =
      let v = void_from s x e in
      let longer = void_outlived v.0 x (lawful v.0 v.1) (lawful x h) v.2 in
      let seen : has_ended f v.0 ≡ false = grind (arith, nat_tests, longer, lasts) in (
        v.0,
        shown_of s f v.0 v.1 seen,
        outlasts_beats v.0 x (record { voids = v.2; outlives = longer }),
      )

  -- what is void dominates only what is void
  void_below : (w x : ObservationData) → dominates w x ≡ true → is_void s w ≡ true
      → is_void s x ≡ true
  void_below w x over e = let v = void_from s w e
      in void_to s x (v.0, v.1, voids_below v.0 w x v.2 over)

  pub front_to_beats : IsFront item_order dominates (live_of s f) items
      → IsFront item_order beats (without_hidden has_ended f s) items
  front_to_beats front = record {
    descending = front.descending;
    of_set = λ x h. let l = lives_in s f x (front.of_set x h) in shown_of s f x l.member l.lasts;
    undominated = λ x h w m. elim (cases_Bool (beats w x)) [
      | inr nay ↦ nay
      | inl yea ↦ absurd (unbeaten x h w m yea)
    ];
    whole = λ x m free. front.whole x (live_in s f x (spared x m free)) (λ w h. undominated x w h free);
  }
    where
      unbeaten : (x : ObservationData) → Has items x → (w : ObservationData)
          → Has (without_hidden has_ended f s) w → beats w x ≡ true → ⊥
      unbeaten x h w m yea =
          let l = lives_in s f x (front.of_set x h) in
          let p = shown_parts s f w m in
          elim (beats_cases w x yea) [
            | inr out ↦ false≢true
                (sym (unvoided_by s x w l.unvoided p.0) ∙ voids_to w x out.voids)
            | inl over ↦ elim (cases_Bool (is_void s w)) [
              | inl void ↦ false≢true (sym l.unvoided ∙ void_below w x over void)
              | inr live ↦ false≢true (sym (front.undominated x h w
                  (live_in s f w (record { member = p.0; lasts = p.1; unvoided = live }))) ∙ over)
            ]
          ]

      spared : (x : ObservationData) → Has (without_hidden has_ended f s) x
          → IsUndominated beats (without_hidden has_ended f s) x → LivesIn s f x
      spared x m free =
          let p = shown_parts s f x m in
          elim (cases_Bool (is_void s x)) [
            | inr live ↦ record { member = p.0; lasts = p.1; unvoided = live }
            | inl void ↦ let b = void_beaten x p.0 p.1 void
                in absurd (false≢true (sym (free b.0 b.1) ∙ b.2))
          ]

      undominated : (x w : ObservationData) → Has (live_of s f) w
          → IsUndominated beats (without_hidden has_ended f s) x → dominates w x ≡ false
      undominated x w h free = elim (cases_Bool (dominates w x)) [
        | inr nay ↦ nay
        | inl over ↦ let l = lives_in s f w h in absurd (false≢true
            (sym (free w (shown_of s f w l.member l.lasts)) ∙ dominates_beats w x over))
      ]

  pub front_from_beats : IsFront item_order beats (without_hidden has_ended f s) items
      → IsFront item_order dominates (live_of s f) items
  front_from_beats front = record {
    descending = front.descending;
    of_set = λ x h. live_in s f x (spared x h);
    undominated = λ x h w m. elim (cases_Bool (dominates w x)) [
      | inr nay ↦ nay
      | inl over ↦ let l = lives_in s f w m in absurd (false≢true (sym (front.undominated x h w
          (shown_of s f w l.member l.lasts)) ∙ dominates_beats w x over))
    ];
    whole = λ x m free. let l = lives_in s f x m
        in front.whole x (shown_of s f x l.member l.lasts) (λ w h. unbeaten x l free w h);
  }
    where
      spared : (x : ObservationData) → Has items x → LivesIn s f x
      spared x h =
          let p = shown_parts s f x (front.of_set x h) in
          elim (cases_Bool (is_void s x)) [
            | inr live ↦ record { member = p.0; lasts = p.1; unvoided = live }
            | inl void ↦ let b = void_beaten x p.0 p.1 void
                in absurd (false≢true (sym (front.undominated x h b.0 b.1) ∙ b.2))
          ]

      unbeaten : (x : ObservationData) → LivesIn s f x → IsUndominated dominates (live_of s f) x
          → (w : ObservationData) → Has (without_hidden has_ended f s) w → beats w x ≡ false
      unbeaten x l free w h = elim (cases_Bool (beats w x)) [
        | inr nay ↦ nay
        | inl yea ↦
            let p = shown_parts s f w h in
            elim (beats_cases w x yea) [
              | inr out ↦ absurd (false≢true
                  (sym (unvoided_by s x w l.unvoided p.0) ∙ voids_to w x out.voids))
              | inl over ↦ elim (cases_Bool (is_void s w)) [
                | inl void ↦ absurd (false≢true (sym l.unvoided ∙ void_below w x over void))
                | inr live ↦ absurd (false≢true (sym (free w
                    (live_in s f w (record { member = p.0; lasts = p.1; unvoided = live }))) ∙ over))
              ]
            ]
      ]

-- a cache is the front of what its set shows, by what beats
pub cached_front : (s items : List ObservationData) (f : ℕ) → IsCached s f items
    → IsFront item_order beats (without_hidden has_ended f s) items
cached_front s items f cached = front_to_beats s items f cached.lawful cached.front

pub cached_from : (s items : List ObservationData) (f : ℕ) → AreObservations s
    → IsFront item_order beats (without_hidden has_ended f s) items → IsCached s f items
cached_from s items f lawful front = record {
  lawful = lawful;
  front = front_from_beats s items f lawful front;
}
