-- What the two maps hold together: short names are in one of them, the others in the other one.
-- Serves `Fronts::at`, `Fronts::covers`, `Fronts::front`, `Fronts::long_behind`,
-- `Fronts::short_behind`, `Fronts::store`, `Fronts::trim`, `Held::trim`, and what `ListedFronts`
-- serves.
use Rattle.std.proofs.Common.{ℕ, ◌≡◌, Bool, true, false, not, List, [], ◌∷◌, ◌↔◌, inl, inr, Option, Some, None, MatchOption, Bor, Result, Ok, Err, IfOk, OnErr, length, refl, sym, ap, ◌∙◌, subst}
use Rattle.std.specs.Map.{lookup}
use mathlib.Core.Bool.{true≢false}
use Rattle.std.specs.Option.{option_copied}
use Rattle.std.specs.Ordering.{is_eq}
use Rattle.fleet_observe.specs.Members.{Has}
use Rattle.fleet_observe.specs.Observation.{ObservationData}
use Rattle.fleet_observe.specs.Preference.{octets_cmp}
use Rattle.fleet_cache.specs.declared.words.ShortKey.{ShortKey}
use Rattle.fleet_cache.specs.Front.{IsDescending}
use Rattle.fleet_cache.specs.Cut.{CutData, is_hidden}
use Rattle.fleet_cache.specs.Cached.{item_order, IsCovered}
use Rattle.fleet_cache.specs.steps.Held.{IsHeld, IsTaken}
use Rattle.fleet_cache.specs.steps.Keyed.{HasNoKey, IsOfKey}
use Rattle.fleet_cache.specs.steps.Merged.{merged}
use Rattle.fleet_cache.specs.steps.Packed.{words_of, short_words, AreLong}
use Rattle.fleet_cache.specs.steps.Reclaimed.{IsTrimmed, IsCleared}
use Rattle.fleet_cache.specs.steps.Slots.{is_nil, items_of, IsLaid, IsPut}
use Rattle.fleet_cache.proofs.Holdings.{thinned_held}
use Rattle.fleet_cache.proofs.Looked.{look_none, look_some}
use Rattle.fleet_cache.proofs.Merging.{AreNamed, AreApart, IsSplit, split_short, split_long, more_size, merged_descends, part_front, cover_words, split_covered, split_front, split_trimmed, split_cleared, split_none, split_found}
use Rattle.fleet_cache.proofs.ShortKeys.{field_cmp, same_test}
use Rattle.fleet_cache.proofs.Slots.{in_slot, items_descend, slot_of_key}

abbrev Slots : Type 0 → Type 0
Slots K = List (K × List ObservationData)

named : {K : Type 0} (octets : K → List ℕ) (es : Slots K) → IsLaid octets es
    → AreNamed (items_of es)
named octets es laid x h = let e = in_slot es x h in ((laid.slots e.0 e.1).packable x e.2).named

-- the words of what the map of short names holds are four
pub short_four : (es : Slots ShortKey) → IsLaid short_words es → (o : ObservationData)
    → Has (items_of es) o → length (words_of o) ≡ 4
short_four es laid o h =
    let e = in_slot es o h in ap length ((laid.slots e.0 e.1).one_key o e.2)

-- what is found in a map
front_found : {K : Type 0} (octets : K → List ℕ) (q : List ℕ) (es : Slots K)
    (laid : IsLaid octets es) (r : Option (Bor (List ObservationData)))
    → option_copied r ≡ lookup (λ k. is_eq (octets_cmp q (octets k))) es
    → MatchOption r (HasNoKey (items_of es) q) (λ f. IsOfKey (items_of es) q f.now)
front_found octets q es laid None e = look_none octets q es laid (sym e)
front_found octets q es laid (Some f) e = look_some octets q es f.now laid (sym e)

-- and so in both
both_found : (m s r : List ObservationData) (words : List ℕ) → IsSplit m s r
    → ((o : ObservationData) → Has r o → words_of o ≡ words → ⊥)
    → (f : Option (Bor (List ObservationData)))
    → MatchOption f (HasNoKey s words) (λ v. IsOfKey s words v.now)
    → MatchOption f (HasNoKey m words) (λ v. IsOfKey m words v.now)
both_found m s r words split none None found = split_none m s r words split none found
both_found m s r words split none (Some f) found = split_found m s r words split none f.now found

twice : (b : Bool) → b ≡ not (not b)
twice true = refl
twice false = refl

-- a cut brings nothing in
pub trimmed_among : {m m' : List ObservationData} (q : List ℕ) (cut : CutData) → IsTrimmed q cut m m'
    → (o : ObservationData) → Has m' o → Has m o
trimmed_among q cut trim = (trim (λ o. not (is_hidden cut o))
    (λ o h k. twice (is_hidden cut o))).of_items

-- what makes x needless is in the front of its key
pub key_free : (m : List ObservationData) (q : List ℕ) (x : ObservationData) → HasNoKey m q
    → q ≡ words_of x → ¬ IsCovered m x
key_free m q x none is c = none c.0 c.1 (cover_words c.0 x c.2 ∙ sym is)

pub key_covered : (m : List ObservationData) (q : List ℕ) (f : List ObservationData)
    (x : ObservationData) → IsOfKey m q f → q ≡ words_of x → IsCovered f x ↔ IsCovered m x
key_covered m q f x found is = (
  (λ c. (c.0, found.member c.0 c.1, c.2)),
  λ c. (c.0, found.whole c.0 c.1 (cover_words c.0 x c.2 ∙ sym is), c.2),
)

-- the slots of both maps
module _ {K : Type 0} (octets : K → List ℕ) where
  both_apart : (ss : Slots ShortKey) (ls : Slots K) → IsLaid short_words ss → AreLong (items_of ls)
      → AreApart (items_of ss) (items_of ls)
  both_apart ss ls laid long x h y k same =
      long y k (ap length (sym same) ∙ short_four ss laid x h)

  pub both_descend : (ss : Slots ShortKey) (ls : Slots K) → IsLaid short_words ss
      → IsLaid octets ls → AreLong (items_of ls)
      → IsDescending item_order (merged (items_of ss) (items_of ls))
  both_descend ss ls laid after long = merged_descends (items_of ss) (items_of ls)
      (items_descend short_words ss laid) (items_descend octets ls after)
      (named short_words ss laid) (named octets ls after) (both_apart ss ls laid long)

  module _ (ss : Slots ShortKey) (ls : Slots K) (laid : IsLaid short_words ss)
      (after : IsLaid octets ls) (long : AreLong (items_of ls)) where
    abbrev Whole : List ObservationData
    Whole = merged (items_of ss) (items_of ls)

    none_long : (q : List ℕ) → length q ≡ 4 → (o : ObservationData) → Has (items_of ls) o
        → words_of o ≡ q → ⊥
    none_long q four o h same = long o h (ap length same ∙ four)

    none_short : (q : List ℕ) → (length q ≡ 4 → ⊥) → (o : ObservationData) → Has (items_of ss) o
        → words_of o ≡ q → ⊥
    none_short q more o h same = more (ap length (sym same) ∙ short_four ss laid o h)

    pub look_short : (key : ShortKey) (q : List ℕ) → short_words key ≡ q
        → (r : Option (Bor (List ObservationData)))
        → option_copied r ≡ lookup (λ k. is_eq (field_cmp key k)) ss
        → MatchOption r (HasNoKey Whole q) (λ f. IsOfKey Whole q f.now)
    look_short key q is r e =
        subst (λ w. MatchOption r (HasNoKey Whole w) (λ f. IsOfKey Whole w f.now)) is
        (both_found Whole (items_of ss) (items_of ls) (short_words key)
        (split_short (items_of ss) (items_of ls)) (none_long (short_words key) refl) r
        (front_found short_words (short_words key) ss laid r
        (e ∙ ap (λ t. lookup t ss) (same_test key))))

    pub look_long : (q : List ℕ) → (length q ≡ 4 → ⊥) → (r : Option (Bor (List ObservationData)))
        → option_copied r ≡ lookup (λ k. is_eq (octets_cmp q (octets k))) ls
        → MatchOption r (HasNoKey Whole q) (λ f. IsOfKey Whole q f.now)
    look_long q more r e =
        both_found Whole (items_of ls) (items_of ss) q (split_long (items_of ss) (items_of ls))
        (none_short q more) r (front_found octets q ls after r e)

    -- the front of a key that is in one of the maps
    pub found_short : (key : ShortKey) (f : List ObservationData)
        → lookup (λ k. is_eq (field_cmp key k)) ss ≡ Some f → IsOfKey Whole (short_words key) f
    found_short key f e = split_found Whole (items_of ss) (items_of ls) (short_words key)
        (split_short (items_of ss) (items_of ls)) (none_long (short_words key) refl) f
        (look_some short_words (short_words key) ss f laid
        (sym (ap (λ t. lookup t ss) (same_test key)) ∙ e))

    -- a key in the map of long names is none of a short one
    keyed_long : (q : List ℕ) (f : List ObservationData) → IsOfKey (items_of ls) q f
        → is_nil f ≡ false → length q ≡ 4 → ⊥
    keyed_long q (x ∷ f) found some four =
        long x (found.member x (inl refl)) (ap length (found.keyed x (inl refl)) ∙ four)
    keyed_long q [] found some four = absurd (true≢false some)

    pub found_long : (key : K) (f : List ObservationData)
        → lookup (λ k. is_eq (octets_cmp (octets key) (octets k))) ls ≡ Some f
        → IsOfKey Whole (octets key) f
    found_long key f e =
        let found = look_some octets (octets key) ls f after e in
        split_found Whole (items_of ls) (items_of ss) (octets key)
        (split_long (items_of ss) (items_of ls)) (none_short (octets key)
        (keyed_long (octets key) f found (slot_of_key octets ls (octets key) f after e).slot.some)) f
        found

    -- x, of a short name, is apart from what the other map holds
    more_short : (x : ObservationData) → length (words_of x) ≡ 4
        → AreApart (x ∷ items_of ss) (items_of ls)
    more_short x four y h z k same = elim h [
      | inl here ↦ none_long (words_of x) four z k (sym (ap words_of here ∙ same))
      | inr far ↦ both_apart ss ls laid long y far z k same
    ]

    more_long : (x : ObservationData) → (length (words_of x) ≡ 4 → ⊥)
        → AreApart (x ∷ items_of ls) (items_of ss)
    more_long x more y h z k same = elim h [
      | inl here ↦ none_short (words_of x) more z k (sym (ap words_of here ∙ same))
      | inr far ↦ both_apart ss ls laid long z k y far (sym same)
    ]

    pub free_short : (x : ObservationData) → length (words_of x) ≡ 4
        → ¬ IsCovered (items_of ss) x → ¬ IsCovered Whole x
    free_short x four free c = free ((split_covered Whole (items_of ss) (items_of ls) x
        (split_short (items_of ss) (items_of ls)) (more_short x four)).1 c)

    pub free_long : (x : ObservationData) → (length (words_of x) ≡ 4 → ⊥)
        → ¬ IsCovered (items_of ls) x → ¬ IsCovered Whole x
    free_long x more free c = free ((split_covered Whole (items_of ls) (items_of ss) x
        (split_long (items_of ss) (items_of ls)) (more_long x more)).1 c)

    module _ (held : IsHeld Whole) (x : ObservationData) (kept : Bool) where
      pub taken_short : (new : Slots ShortKey) → length (words_of x) ≡ 4
          → IsPut short_words ss new x kept
          → IsTaken Whole (merged (items_of new) (items_of ls)) x kept
      taken_short new four put =
          let split = split_short (items_of ss) (items_of ls) in
          let split' = split_short (items_of new) (items_of ls) in
          let apart = more_short x four in
          let part = put.taken (items_of ss) (part_front Whole (items_of ss) (items_of ls) held
          split (items_descend short_words ss laid)) in
          let covers = split_covered Whole (items_of ss) (items_of ls) x split apart in
          record {
            front = split_front Whole (merged (items_of new) (items_of ls)) (items_of ss)
                (items_of new) (items_of ls) x held split split'
                (both_descend new ls put.laid after long) apart part;
            size = more_size split split' put.size;
            needless = (
              (λ e. covers.0 (put.needless.0 e)),
              λ c. put.needless.1 (covers.1 c),
            );
          }

      pub long_still : (new : Slots K) → (length (words_of x) ≡ 4 → ⊥) → IsPut octets ls new x kept
          → AreLong (items_of new)
      long_still new more put o h =
          let part = put.taken (items_of ls) (part_front Whole (items_of ls) (items_of ss) held
          (split_long (items_of ss) (items_of ls)) (items_descend octets ls after)) in
          elim (part.of_set o h) [
            | inl here ↦ λ four. more (ap (λ v. length (words_of v)) here ∙ four)
            | inr far ↦ long o far
          ]

      pub taken_long : (new : Slots K) → (length (words_of x) ≡ 4 → ⊥)
          → IsPut octets ls new x kept
          → IsTaken Whole (merged (items_of ss) (items_of new)) x kept
      taken_long new more put =
          let split = split_long (items_of ss) (items_of ls) in
          let split' = split_long (items_of ss) (items_of new) in
          let apart = more_long x more in
          let part = put.taken (items_of ls) (part_front Whole (items_of ls) (items_of ss) held
          split (items_descend octets ls after)) in
          let covers = split_covered Whole (items_of ls) (items_of ss) x split apart in
          record {
            front = split_front Whole (merged (items_of ss) (items_of new)) (items_of ls)
                (items_of new) (items_of ss) x held split split'
                (both_descend ss new laid put.laid (long_still new more put)) apart part;
            size = more_size split split' put.size;
            needless = (
              (λ e. covers.0 (put.needless.0 e)),
              λ c. put.needless.1 (covers.1 c),
            );
          }

    -- however taking it in ended
    module _ (held : IsHeld Whole) (x : ObservationData) {E : Type 0} where
      pub all_taken_short : (new : Slots ShortKey) → length (words_of x) ≡ 4 → (r : Result Bool E)
          → IfOk r (IsPut short_words ss new x)
          → IfOk r (IsTaken Whole (merged (items_of new) (items_of ls)) x)
      all_taken_short new four (Err e) put = tt
      all_taken_short new four (Ok kept) put = taken_short held x kept new four put

      pub all_taken_long : (new : Slots K) → (length (words_of x) ≡ 4 → ⊥) → (r : Result Bool E)
          → IfOk r (IsPut octets ls new x)
          → IfOk r (IsTaken Whole (merged (items_of ss) (items_of new)) x)
      all_taken_long new more (Err e) put = tt
      all_taken_long new more (Ok kept) put = taken_long held x kept new more put

      pub kept_long : (new : Slots K) → (length (words_of x) ≡ 4 → ⊥) → (r : Result Bool E)
          → IfOk r (IsPut octets ls new x) → OnErr r (new ≡ ls)
          → IsLaid short_words ss × IsLaid octets new × AreLong (items_of new)
      kept_long new more (Err e) put same = (
        laid,
        subst (IsLaid octets) (sym same) after,
        subst (λ v. AreLong (items_of v)) (sym same) long,
      )
      kept_long new more (Ok kept) put same =
          (laid, put.laid, long_still held x kept new more put)

    -- a cut of a short name
    module _ (new : Slots ShortKey) (left : IsLaid short_words new) (q : List ℕ) (cut : CutData)
        (trim : IsTrimmed q cut (items_of ss) (items_of new)) where
      pub trimmed_short : IsTrimmed q cut Whole (merged (items_of new) (items_of ls))
      trimmed_short = split_trimmed Whole (merged (items_of new) (items_of ls)) (items_of ss)
          (items_of new) (items_of ls) q cut (split_short (items_of ss) (items_of ls))
          (split_short (items_of new) (items_of ls)) (both_descend ss ls laid after long)
          (both_descend new ls left after long) trim

      pub held_short : IsHeld Whole → IsHeld (merged (items_of new) (items_of ls))
      held_short held = thinned_held Whole (merged (items_of new) (items_of ls)) held
          (both_descend new ls left after long) (trimmed_among q cut trimmed_short)

      pub cleared_short : length q ≡ 4 → IsCleared q cut (items_of new)
          → IsCleared q cut (merged (items_of new) (items_of ls))
      cleared_short four = split_cleared Whole (merged (items_of new) (items_of ls)) (items_of ss)
          (items_of new) (items_of ls) q cut (split_short (items_of ss) (items_of ls))
          (split_short (items_of new) (items_of ls)) (both_descend ss ls laid after long)
          (both_descend new ls left after long) (none_long q four)

    -- a cut of another name
    module _ (new : Slots K) (left : IsLaid octets new) (q : List ℕ) (cut : CutData)
        (trim : IsTrimmed q cut (items_of ls) (items_of new)) where
      pub trimmed_still : AreLong (items_of new)
      trimmed_still o h = long o (trimmed_among q cut trim o h)

      pub trimmed_long : IsTrimmed q cut Whole (merged (items_of ss) (items_of new))
      trimmed_long = split_trimmed Whole (merged (items_of ss) (items_of new)) (items_of ls)
          (items_of new) (items_of ss) q cut (split_long (items_of ss) (items_of ls))
          (split_long (items_of ss) (items_of new)) (both_descend ss ls laid after long)
          (both_descend ss new laid left trimmed_still) trim

      pub held_long : IsHeld Whole → IsHeld (merged (items_of ss) (items_of new))
      held_long held = thinned_held Whole (merged (items_of ss) (items_of new)) held
          (both_descend ss new laid left trimmed_still) (trimmed_among q cut trimmed_long)

      pub cleared_long : (length q ≡ 4 → ⊥) → IsCleared q cut (items_of new)
          → IsCleared q cut (merged (items_of ss) (items_of new))
      cleared_long more = split_cleared Whole (merged (items_of ss) (items_of new)) (items_of ls)
          (items_of new) (items_of ss) q cut (split_long (items_of ss) (items_of ls))
          (split_long (items_of ss) (items_of new)) (both_descend ss ls laid after long)
          (both_descend ss new laid left trimmed_still) (none_short q more)
