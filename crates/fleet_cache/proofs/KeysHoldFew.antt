-- How many observations of one key are undominated.
-- Serves law `keys_hold_few`.
use Rattle.std.proofs.Common.{◌≡◌, ℕ, ◌+◌, ◌*◌, ◌<◌, ◌≤◌, Bool, true, false, ◌&&◌, nat_eq, nat_le, nat_lt, List, [], ◌∷◌, inl, inr, length, refl, sym, ap, ◌∙◌, arith}
use mathlib.Core.Bool.{false≢true}
use Rattle.std.specs.List.{filter}
use Rattle.std.specs.Cmp.{Equal-is}
use Rattle.std.specs.Ordering.{nat_cmp, ordering_then}
use Rattle.std.specs.declared.cmp.Ordering.{Ordering}
use Rattle.std.specs.declared.cmp.Ordering.TheVariants.{Less, Equal, Greater}
use Rattle.std.proofs.lemmas.Bool.{cases_Bool, cases_eq, and_parts}
use Rattle.std.proofs.lemmas.Bool.Decides.{nat_tests}
use Rattle.std.proofs.lemmas.Cmp.{tied_itself, nat_cmp_total, nat_list_cmp_total}
use Rattle.std.proofs.lemmas.Map.Lookups.{exact_bytes}
use Rattle.fleet_name.proofs.Lemmas.{Has-filter}
use Rattle.fleet_front.proofs.Lemmas.{IsDescending-filter}
use Rattle.fleet_observe.specs.Members.{Has}
use Rattle.fleet_observe.specs.Observation.{ObservationData, AreObservations, IsNegativeKind, IsNegative, expires, key_of}
use Rattle.fleet_observe.specs.Preference.{octets_cmp, preference}
use Rattle.fleet_cache.specs.Front.{IsDescending}
use Rattle.fleet_cache.specs.Dominates.{dominates, is_same_key}
use Rattle.fleet_cache.specs.Cached.{item_order, IsCached}
use Rattle.fleet_cache.specs.steps.Held.{IsHeld}
use Rattle.fleet_cache.specs.steps.Orders.{over_to}
use Rattle.fleet_cache.specs.steps.Rounds.{count}
use Rattle.fleet_cache.proofs.Counting.{count_none}
use Rattle.fleet_cache.proofs.Caches.{cached_itself}
use Rattle.fleet_cache.proofs.SameKeys.{key_parts}

less_not_greater : (o : Ordering) → o ≡ Less → o ≡ Greater → ⊥
less_not_greater o l g = let no : Less ≡ Greater = sym l ∙ g in cc

same_key : (p o : ObservationData) → is_same_key p o ≡ true → key_of p ≡ key_of o
same_key p o e = exact_bytes (key_of p) (key_of o) ((Equal-is _).0 e)

-- the order of two numbers
below : (m n : ℕ) → m < n → nat_cmp m n ≡ Less
below m n less = let yea : nat_lt m n ≡ true = grind (arith, nat_tests, less) in rw yea refl

module _ (a b : ObservationData) (key : key_of a ≡ key_of b) (rank : a.rank ≡ b.rank)
    (after : item_order a b ≡ Greater) (free : dominates a b ≡ false) where
  preferred : preference a b ≡ Greater
  preferred =
      let tied : octets_cmp (key_of b) (key_of a) ≡ Equal =
      ap (octets_cmp (key_of b)) key ∙ tied_itself nat_list_cmp_total (key_of b) in
      sym (ap (λ o. ordering_then o (preference a b)) tied) ∙ after

  no_over : nat_le (expires b) (expires a) ≡ true → nat_le b.stamp a.stamp ≡ true → ⊥
  no_over ends stamps = false≢true (sym free ∙ over_to a b (record {
    same_key = key;
    preferred = preferred;
    outlives = ends;
    later = stamps;
  }))

  tied_rank : nat_cmp a.rank b.rank ≡ Equal
  tied_rank = ap (nat_cmp a.rank) (sym rank) ∙ tied_itself nat_cmp_total a.rank

  not_before : a.stamp < b.stamp → ⊥
  not_before less = less_not_greater (preference a b)
      (rw (tied_rank, below a.stamp b.stamp less) refl) preferred

  ends_first : expires a < expires b
  ends_first = elim (cases_Bool (nat_lt (expires a) (expires b))) [
    | inl yea ↦ grind (arith, nat_tests, yea)
    | inr nay ↦
        let ends : nat_le (expires b) (expires a) ≡ true = grind (arith, nat_tests, nay) in
        elim (cases_Bool (nat_lt a.stamp b.stamp)) [
          | inl less ↦ absurd (not_before (grind (arith, nat_tests, less)))
          | inr least ↦ absurd (no_over ends (grind (arith, nat_tests, least)))
        ]
  ]

  stamped_later : b.stamp < a.stamp
  stamped_later = elim (cases_Bool (nat_lt b.stamp a.stamp)) [
    | inl yea ↦ grind (arith, nat_tests, yea)
    | inr nay ↦ elim (cases_eq a.stamp b.stamp) [
      | inl same ↦ absurd (less_not_greater (preference a b)
          (rw (
            tied_rank,
            ap (nat_cmp a.stamp) (sym same) ∙ tied_itself nat_cmp_total a.stamp,
            below (expires a) (expires b) ends_first,
          ) refl) preferred)
      | inr other ↦
          let most : a.stamp ≤ b.stamp = grind (arith, nat_tests, nay) in
          absurd (not_before (omega (arith, most, other)))
    ]
  ]

  -- what is preferred lives two seconds less at least
  pub lives_less : a.life + 2 ≤ b.life
  lives_less = omega (arith, ends_first, stamped_later)

-- observations of one key and one rank, in order and undominated
record IsRun (most : ℕ) (xs : List ObservationData) : Type 0 where
  descending : IsDescending item_order xs
  free : (x y : ObservationData) → Has xs x → Has xs y → dominates x y ≡ false
  key : (x y : ObservationData) → Has xs x → Has xs y → key_of x ≡ key_of y
  rank : (x y : ObservationData) → Has xs x → Has xs y → x.rank ≡ y.rank
  life : (x : ObservationData) → Has xs x → (1 ≤ x.life) × (x.life ≤ most)

run_rest : (most : ℕ) (x : ObservationData) (xs : List ObservationData) → IsRun most (x ∷ xs)
    → IsRun most xs
run_rest most x xs r = record {
  descending = r.descending.1;
  free = λ v w h k. r.free v w (inr h) (inr k);
  key = λ v w h k. r.key v w (inr h) (inr k);
  rank = λ v w h k. r.rank v w (inr h) (inr k);
  life = λ v h. r.life v (inr h);
}

run_climbs : (most : ℕ) (x : ObservationData) (xs : List ObservationData) → IsRun most (x ∷ xs)
    → x.life + 2 * length xs ≤ most
run_climbs most x [] r = omega (arith, (r.life x (inl refl)).1)
run_climbs most x (y ∷ ys) r =
    let rest = run_climbs most y ys (run_rest most x (y ∷ ys) r) in
    let step = lives_less x y (r.key x y (inl refl) (inr (inl refl))) (r.rank x y (inl refl) (inr (inl refl)))
    (r.descending.0 y (inl refl)) (r.free x y (inl refl) (inr (inl refl))) in
    omega (arith, rest, step)

run_within : (most : ℕ) (xs : List ObservationData) → IsRun most xs → 2 * length xs ≤ most + 1
run_within most [] r = omega arith
run_within most (x ∷ xs) r =
    let climbs = run_climbs most x xs r in
    let first = (r.life x (inl refl)).0 in
    omega (arith, climbs, first)

-- of a rank
abbrev is_ranked : (ObservationData → Bool) → ℕ → ObservationData → Bool
is_ranked mine rank o = mine o && nat_eq o.rank rank

-- a list is those of its ranks
by_ranks : (mine : ObservationData → Bool) (items : List ObservationData)
    → ((o : ObservationData) → Has items o → mine o ≡ true → (1 ≤ o.rank) × (o.rank ≤ 3))
    → count mine items
    ≡ count (is_ranked mine 1) items + count (is_ranked mine 2) items + count (is_ranked mine 3) items
by_ranks mine [] ranks = refl
by_ranks mine (x ∷ items) ranks =
    let rest = by_ranks mine items (λ o h. ranks o (inr h)) in
    elim (cases_Bool (mine x)) [
      | inr nay ↦ rw nay rest
      | inl yea ↦
          let r = ranks x (inl refl) yea in
          elim (cases_eq x.rank 1) [
            | inl one ↦ rw (yea, one) (omega (arith, rest))
            | inr not_one ↦ elim (cases_eq x.rank 2) [
              | inl two ↦ rw (yea, two) (omega (arith, rest))
              | inr not_two ↦
                  let three : x.rank ≡ 3 = omega (arith, r.0, r.1, not_one, not_two) in
                  rw (yea, three) (omega (arith, rest))
            ]
          ]
    ]

-- lawful observations in order, none of them dominated by another
pub record AreApart (items : List ObservationData) : Type 0 where
  pub lawful : AreObservations items
  pub descending : IsDescending item_order items
  pub free : (x y : ObservationData) → Has items x → Has items y → dominates x y ≡ false

-- such are the items of a cache
pub cached_apart : (s items : List ObservationData) (floor : ℕ) → IsCached s floor items
    → AreApart items
cached_apart s items floor cached = record {
  lawful = (cached_itself s items floor cached).lawful;
  descending = cached.front.descending;
  free = λ x y h k. cached.front.undominated y k x (cached.front.of_set x h);
}

-- and what is in memory
pub held_apart : (items : List ObservationData) → IsHeld items → AreApart items
held_apart items held = record {
  lawful = held.lawful;
  descending = held.front.descending;
  free = λ x y h k. held.front.undominated y k x h;
}

module _ (items : List ObservationData) (own : AreApart items) (p : ObservationData) where
  abbrev mine : ObservationData → Bool
  mine = is_same_key p

  run_of : (most rank : ℕ)
      → ((o : ObservationData) → Has items o → mine o ≡ true → o.life ≤ most)
      → IsRun most (filter (is_ranked mine rank) items)
  run_of most rank lives =
      record {
        descending = IsDescending-filter item_order (is_ranked mine rank) items own.descending;
        free = λ x y h k. own.free x y (in_items x h).0 (in_items y k).0;
        key = λ x y h k. sym (same_key p x (in_items x h).1) ∙ same_key p y (in_items y k).1;
        rank = λ x y h k. ranked (in_items x h).2 ∙ sym (ranked (in_items y k).2);
        life = λ x h. ((own.lawful x (in_items x h).0).life.0, lives x (in_items x h).0 (in_items x h).1);
      }
    where
      in_items : (x : ObservationData) → Has (filter (is_ranked mine rank) items) x
          → Has items x × (is_same_key p x ≡ true) × (nat_eq x.rank rank ≡ true)
      in_items x h =
          let f = Has-filter (is_ranked mine rank) items x h in
          let both = and_parts (is_same_key p x) (nat_eq x.rank rank) f.1 in
          (f.0, both.0, both.1)

      ranked : {r : ℕ} → nat_eq r rank ≡ true → r ≡ rank
      ranked e = grind (arith, nat_tests, e)

  ranks : (o : ObservationData) → Has items o → mine o ≡ true → (1 ≤ o.rank) × (o.rank ≤ 3)
  ranks o h yea = let r = (own.lawful o h).rank in (r.0, r.1)

  pub key_holds : count mine items ≤ 129600
  key_holds =
      let lives : (o : ObservationData) → Has items o → mine o ≡ true → o.life ≤ 86400 =
      λ o h yea. (own.lawful o h).life.1 in
      let all = by_ranks mine items ranks in
      let one = run_within 86400 (filter (is_ranked mine 1) items) (run_of 86400 1 lives) in
      let two = run_within 86400 (filter (is_ranked mine 2) items) (run_of 86400 2 lives) in
      let three = run_within 86400 (filter (is_ranked mine 3) items) (run_of 86400 3 lives) in
      omega (arith, all, one, two, three)

  -- of a denial: of two ranks
  module _ (denies : IsNegativeKind p.kind) where
    negative : (o : ObservationData) → Has items o → mine o ≡ true → IsNegative o
    negative o h yea =
        let kind : p.kind ≡ o.kind = (key_parts p o (same_key p o yea)).kind in
        elim denies [
          | inl error ↦ ((own.lawful o h).name_error (sym kind ∙ error)).0
          | inr none ↦ ((own.lawful o h).no_data (sym kind ∙ none)).0
        ]

    none_second : (o : ObservationData) → Has items o → is_ranked mine 2 o ≡ true → ⊥
    none_second o h yea =
        let parts = and_parts (mine o) (nat_eq o.rank 2) yea in
        let two : o.rank ≡ 2 = grind (arith, nat_tests, parts.1) in
        elim (negative o h parts.0).rank [
          | inl one ↦ let e : 2 ≡ 1 = sym two ∙ one in absurd (omega (arith, e))
          | inr three ↦ let e : 2 ≡ 3 = sym two ∙ three in absurd (omega (arith, e))
        ]

    pub denial_holds : count mine items ≤ 10800
    denial_holds =
        let lives : (o : ObservationData) → Has items o → mine o ≡ true → o.life ≤ 10800 =
        λ o h yea. (negative o h yea).life.1 in
        let all = by_ranks mine items ranks in
        let one = run_within 10800 (filter (is_ranked mine 1) items) (run_of 10800 1 lives) in
        let two = count_none (is_ranked mine 2) items none_second in
        let three = run_within 10800 (filter (is_ranked mine 3) items) (run_of 10800 3 lives) in
        omega (arith, all, one, two, three)
