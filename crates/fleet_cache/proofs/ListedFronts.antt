-- The fronts that each of the two maps has after a key.
-- Serves `Fronts::long_behind`, `Fronts::short_behind`, `Cursor::pass`, `Round::go_on`,
-- `Round::step`, `take_in`, the laws `memory_falls`, `memory_follows`.
use Rattle.std.proofs.Common.{◌≡◌, ℕ, suc, zero, ◌<◌, ◌≤◌, ◌&&◌, Bool, true, false, List, [], ◌∷◌, inl, inr, length, drop, refl, sym, ap, ◌∙◌, subst, arith}
use mathlib.Core.Bool.{false≢true}
use Rattle.std.specs.List.{All, filter}
use Rattle.std.specs.Ordering.{is_lt}
use Rattle.std.specs.declared.cmp.Ordering.{Ordering}
use Rattle.std.specs.declared.cmp.Ordering.TheVariants.{Less, Equal, Greater}
use Rattle.std.proofs.lemmas.Bool.{and_parts, and_from, cases_eq}
use Rattle.fleet_name.specs.Name.{wire}
use Rattle.fleet_name.proofs.Lemmas.{Has-filter, Has-in_filter, has_left, has_right}
use Rattle.fleet_front.proofs.Lemmas.{IsDescending-filter}
use Rattle.fleet_observe.specs.Members.{Has}
use Rattle.fleet_observe.specs.Observation.{ObservationData}
use Rattle.fleet_observe.specs.Preference.{octets_cmp}
use Rattle.fleet_cache.specs.declared.words.TheConstants.{SHORT_WORDS, WEIGHTS, WORD_OCTETS}
use Rattle.fleet_cache.specs.declared.words.ShortKey.{ShortKey}
use Rattle.fleet_cache.specs.Front.{IsDescending}
use Rattle.fleet_cache.specs.steps.Keyed.{IsOfKey}
use Rattle.fleet_cache.specs.steps.Listed.{ListsFronts, IsShortAfter, IsLongAfter}
use Rattle.fleet_cache.specs.steps.Merged.{merged}
use Rattle.fleet_cache.specs.steps.Packed.{weigh, octet_words, octet_words_within, words_of, short_words, AreLong}
use Rattle.fleet_cache.specs.steps.Slots.{is_nil, items_of, IsLaid}
use Rattle.fleet_cache.proofs.Both.{short_four}
use Rattle.fleet_cache.proofs.Merging.{IsSplit, split_short, split_long}
use Rattle.fleet_cache.proofs.ShortKeys.{field_cmp, same_cmp}
use Rattle.fleet_cache.proofs.Slots.{in_slot}

-- what holds of each index holds of each member
pub of_members : {X : Type 0} (P : X → Type 0) (xs : List X) → All P xs → (x : X) → Has xs x → P x
of_members P [] all x h = absurd h
of_members P (y ∷ ys) all x h = elim h [
  | inl here ↦ subst P here (all 0 y (omega arith))
  | inr far ↦ of_members P ys (λ k d within. all (suc k) d (omega (arith, within))) x far
]

less_from : (o : Ordering) → is_lt o ≡ true → o ≡ Less
less_from Less e = refl
less_from Equal e = absurd (false≢true e)
less_from Greater e = absurd (false≢true e)

least_of : (a b c d : ℕ) (rest : List ℕ) → 4 ≤ length (a ∷ b ∷ c ∷ d ∷ rest)
least_of a b c d rest = omega arith

most_of : (a b c d : ℕ) (rest : List ℕ) → length rest ≤ 28 → length (a ∷ b ∷ c ∷ d ∷ rest) ≤ 32
most_of a b c d rest m = omega (arith, m)

-- a name has as many words as a short one at least, and as the longest one at most
pub words_least : (octets : List ℕ) → 4 ≤ length (octet_words octets)
unfolding octet_words
words_least octets = least_of (weigh WEIGHTS octets) (weigh WEIGHTS (drop 8 octets))
    (weigh WEIGHTS (drop 8 (drop 8 octets))) (weigh WEIGHTS (drop 8 (drop 8 (drop 8 octets))))
    (octet_words_within 28 (drop 8 (drop 8 (drop 8 (drop 8 octets)))))

within_most : (k : ℕ) (octets : List ℕ) → length (octet_words_within k octets) ≤ k
within_most zero octets = omega arith
within_most (suc k) [] = omega arith
within_most (suc k) (x ∷ octets) = let m = within_most k (drop WORD_OCTETS (x ∷ octets)) in omega (arith, m)

pub words_most : (octets : List ℕ) → length (octet_words octets) ≤ 32
unfolding octet_words
words_most octets = most_of (weigh WEIGHTS octets) (weigh WEIGHTS (drop 8 octets))
    (weigh WEIGHTS (drop 8 (drop 8 octets))) (weigh WEIGHTS (drop 8 (drop 8 (drop 8 octets))))
    (octet_words_within 28 (drop 8 (drop 8 (drop 8 (drop 8 octets)))))
    (within_most 28 (drop 8 (drop 8 (drop 8 (drop 8 octets)))))

-- a front that has something has a first observation
pub one_of : (xs : List ObservationData) → is_nil xs ≡ false → (o : ObservationData) × Has xs o
one_of [] some = absurd (false≢true (sym some))
one_of (x ∷ xs) some = (x, inl refl)

-- what a slot has is among the items
of_slot : {K : Type 0} (es : List (K × List ObservationData)) (e : K × List ObservationData)
    → Has es e → (o : ObservationData) → Has e.1 o → Has (items_of es) o
of_slot [] e h o k = absurd h
of_slot (f ∷ es) e h o k = elim h [
  | inl here ↦ has_left f.1 (items_of es) o (subst (λ v. Has v.1 o) (sym here) k)
  | inr far ↦ has_right f.1 (items_of es) o (of_slot es e far o k)
]

-- those of a map for which a test is true
module _ {K : Type 0} (octets : K → List ℕ) (m r : List ObservationData)
    (es : List (K × List ObservationData)) (laid : IsLaid octets es)
    (split : IsSplit m (items_of es) r) (test : K → Bool) (IsSuch : List ℕ → Type 0)
    (tells : (e : K × List ObservationData) → Has es e → test e.0 ≡ true → IsSuch (octets e.0))
    (told : (e : K × List ObservationData) → Has es e → IsSuch (octets e.0) → test e.0 ≡ true)
    (apart : (o : ObservationData) → Has r o → IsSuch (words_of o) → ⊥) where
  abbrev chosen : List (K × List ObservationData)
  chosen = filter (λ (e : K × List ObservationData). test e.0) es

  pub lists : (rs : List (K × List ObservationData)) → rs ≡ chosen
      → All (λ (e : K × List ObservationData). IsOfKey m (octets e.0) e.1) rs
      → ListsFronts octets m IsSuch rs
  lists rs is all = record {
    of_key = of_members (λ (e : K × List ObservationData). IsOfKey m (octets e.0) e.1) rs all;
    some = λ e h. (laid.slots e (among e h).0).some;
    such = λ e h. tells e (among e h).0 (among e h).1;
    whole = λ o h such. elim (split.into o h) [
      | inl mine ↦ let e = in_slot es o mine in (
        e.0,
        subst (λ v. Has v e.0) (sym is) (Has-in_filter (λ v. test v.0) es e.0 e.1
            (told e.0 e.1 (subst IsSuch ((laid.slots e.0 e.1).one_key o e.2) such))),
        e.2,
      )
      | inr other ↦ absurd (apart o other such)
    ];
    ascending = subst (λ v. IsDescending order v) (sym is)
        (IsDescending-filter order (λ v. test v.0) es laid.ascending);
  }
    where
      order : K × List ObservationData → K × List ObservationData → Ordering
      order a b = octets_cmp (octets b.0) (octets a.0)

      among : (e : K × List ObservationData) → Has rs e → Has es e × (test e.0 ≡ true)
      among e h = Has-filter (λ v. test v.0) es e (subst (λ v. Has v e) is h)

-- the slots of both maps
module _ {K : Type 0} (octets : K → List ℕ) (ss : List (ShortKey × List ObservationData))
    (ls : List (K × List ObservationData)) (laid : IsLaid short_words ss)
    (after : IsLaid octets ls) (long : AreLong (items_of ls)) where
  -- of short names, those after a key
  pub lists_short : (key : ShortKey) (c : List ℕ) → short_words key ≡ c
      → (rs : List (ShortKey × List ObservationData))
      → rs ≡ filter (λ e. is_lt (field_cmp key e.0) && true) ss
      → All (λ e. IsOfKey (merged (items_of ss) (items_of ls)) (short_words e.0) e.1) rs
      → ListsFronts short_words (merged (items_of ss) (items_of ls)) (IsShortAfter c) rs
  lists_short key c same = lists short_words (merged (items_of ss) (items_of ls)) (items_of ls) ss
      laid (split_short (items_of ss) (items_of ls)) (λ k. is_lt (field_cmp key k) && true)
      (IsShortAfter c)
      (λ e h yes. (
        refl,
        λ four. subst (λ v. octets_cmp v (short_words e.0) ≡ Less) same (sym (same_cmp key e.0)
            ∙ less_from (field_cmp key e.0) (and_parts (is_lt (field_cmp key e.0)) true yes).0),
      ))
      (λ e h such. and_from (is_lt (field_cmp key e.0)) true (ap is_lt (same_cmp key e.0
      ∙ (ap (λ v. octets_cmp v (short_words e.0)) same ∙ such.1 (ap length (sym same))))) refl)
      (λ o h such. long o h such.0)

  -- or all, where there is no key
  pub lists_all_short : (c : List ℕ) → (length c ≡ SHORT_WORDS → ⊥)
      → (rs : List (ShortKey × List ObservationData)) → rs ≡ filter (λ e. true) ss
      → All (λ e. IsOfKey (merged (items_of ss) (items_of ls)) (short_words e.0) e.1) rs
      → ListsFronts short_words (merged (items_of ss) (items_of ls)) (IsShortAfter c) rs
  lists_all_short c none = lists short_words (merged (items_of ss) (items_of ls)) (items_of ls) ss
      laid (split_short (items_of ss) (items_of ls)) (λ k. true) (IsShortAfter c)
      (λ e h yes. (refl, λ four. absurd (none four))) (λ e h such. refl)
      (λ o h such. long o h such.0)

  long_words : (e : K × List ObservationData) → Has ls e → SHORT_WORDS < length (octets e.0)
  long_words e h =
      let one = one_of e.1 (after.slots e h).some in
      let same : length (words_of one.0) ≡ length (octets e.0) =
      ap length ((after.slots e h).one_key one.0 one.1) in
      let least = words_least (wire one.0.name) in
      elim (cases_eq (length (octets e.0)) 4) [
        | inl four ↦ absurd (long one.0 (of_slot ls e h one.0 one.1) (same ∙ four))
        | inr more ↦ omega (arith, least, same, more)
      ]

  -- of the others, those after a key
  pub lists_long : (c : List ℕ) (rs : List (K × List ObservationData))
      → rs ≡ filter (λ e. is_lt (octets_cmp c (octets e.0)) && true) ls
      → All (λ e. IsOfKey (merged (items_of ss) (items_of ls)) (octets e.0) e.1) rs
      → ListsFronts octets (merged (items_of ss) (items_of ls)) (IsLongAfter c) rs
  lists_long c = lists octets (merged (items_of ss) (items_of ls)) (items_of ss) ls
      after (split_long (items_of ss) (items_of ls))
      (λ k. is_lt (octets_cmp c (octets k)) && true) (IsLongAfter c)
      (λ e h yes. (
        long_words e h,
        less_from (octets_cmp c (octets e.0)) (and_parts (is_lt (octets_cmp c (octets e.0))) true yes).0,
      ))
      (λ e h such. and_from (is_lt (octets_cmp c (octets e.0))) true (ap is_lt such.1) refl)
      (λ o h such. let four = short_four ss laid o h in let more = such.0 in omega (arith, four, more))
