-- How octets are packed, step by step.
-- Serves `Fronts::at`, `Fronts::store`, `pack`, `short_key`, `word_of`.
use Rattle.std.proofs.Common.{ℕ, zero, suc, ◌+◌, ◌-◌, ◌*◌, ◌≡◌, ◌<◌, ◌≤◌, List, [], ◌∷◌, ◌++◌, length, take, drop, slice_index_or, Fits, w8, refl, sym, ap, ◌∙◌, arith, append_assoc, append-nil, length-append}
use Rattle.std.specs.List.{AllByRecursion}
use Rattle.std.specs.Int.{w64, from_be_bytes}
use Rattle.std.proofs.lemmas.List.{length-drop, nil_from_length}
use Rattle.fleet_cache.specs.declared.words.TheConstants.{WEIGHTS}
use Rattle.fleet_cache.specs.steps.Packed.{weigh, octet_words_within, octet_words_from, octet_words}

-- what is read as octets is below 256
pub bytes_read : (xs : List ℕ) → ((i : ℕ) → Fits w8 (slice_index_or xs i 0))
    → AllByRecursion (λ x. x < 256) xs
bytes_read [] read = tt
bytes_read (x ∷ xs) read = (
  (let first : Fits w8 x = read 0 in omega (arith, first)),
  bytes_read xs (λ i. read (suc i)),
)

pub weigh_none : (ws : List ℕ) → weigh ws [] ≡ 0
weigh_none [] = refl
weigh_none (w ∷ ws) = refl

-- one octet more was weighed
pub weighed_more : (ws xs : List ℕ) (i : ℕ) → i < length ws → i < length xs
    → weigh (drop i ws) (drop i xs) ≡ slice_index_or xs i 0 * slice_index_or ws i 0
    + weigh (drop (suc i) ws) (drop (suc i) xs)
weighed_more [] xs i a b = absurd (omega (arith, a))
weighed_more (w ∷ ws) [] i a b = absurd (omega (arith, b))
weighed_more (w ∷ ws) (x ∷ xs) zero a b = refl
weighed_more (w ∷ ws) (x ∷ xs) (suc i) a b = weighed_more ws xs i (omega (arith, a))
    (omega (arith, b))

-- only as many octets are weighed as there are weights
weighed_front : (ws xs : List ℕ) → weigh ws (take (length ws) xs) ≡ weigh ws xs
weighed_front [] xs = refl
weighed_front (w ∷ ws) [] = refl
weighed_front (w ∷ ws) (x ∷ xs) = ap (λ v. x * w + v) (weighed_front ws xs)

-- the next eight octets, as a number of eight
pub eight_weighed : (xs : List ℕ) → length xs ≡ 8 → from_be_bytes w64 xs ≡ weigh WEIGHTS xs
eight_weighed (a ∷ b ∷ c ∷ d ∷ e ∷ f ∷ g ∷ h ∷ []) is = omega arith
eight_weighed [] is = absurd (omega (arith, is))
eight_weighed (a ∷ []) is = absurd (omega (arith, is))
eight_weighed (a ∷ b ∷ []) is = absurd (omega (arith, is))
eight_weighed (a ∷ b ∷ c ∷ []) is = absurd (omega (arith, is))
eight_weighed (a ∷ b ∷ c ∷ d ∷ []) is = absurd (omega (arith, is))
eight_weighed (a ∷ b ∷ c ∷ d ∷ e ∷ []) is = absurd (omega (arith, is))
eight_weighed (a ∷ b ∷ c ∷ d ∷ e ∷ f ∷ []) is = absurd (omega (arith, is))
eight_weighed (a ∷ b ∷ c ∷ d ∷ e ∷ f ∷ g ∷ []) is = absurd (omega (arith, is))
eight_weighed (a ∷ b ∷ c ∷ d ∷ e ∷ f ∷ g ∷ h ∷ i ∷ xs) is = absurd (omega (arith, is))

pub first_weighed : (xs : List ℕ) (word : ℕ) (first : List ℕ) → word ≡ from_be_bytes w64 first
    → first ≡ take 8 xs → length first ≡ 8 → word ≡ weigh WEIGHTS xs
first_weighed xs word first is front eight =
    is ∙ (eight_weighed first eight ∙ (ap (weigh WEIGHTS) front ∙ weighed_front WEIGHTS xs))

-- one word more
pub packed_more : (k j : ℕ) (xs : List ℕ) → 0 < length xs → k ≡ suc j → octet_words_within k xs
    ≡ weigh WEIGHTS xs ∷ octet_words_within j (drop 8 xs)
packed_more k j [] some e = absurd (omega (arith, some))
packed_more k j (x ∷ xs) some e = ap (λ v. octet_words_within v (x ∷ xs)) e

pub packed_none : (k : ℕ) → octet_words_within k [] ≡ []
packed_none zero = refl
packed_none (suc k) = refl

-- the words so far, and those of what is left
pub words_so_far : (octets words new rest : List ℕ) (word : ℕ)
    → octet_words_within 32 octets ≡ words ++ octet_words_within (32 - length words) rest
    → length rest ≤ 8 * (32 - length words) → 0 < length rest → word ≡ weigh WEIGHTS rest
    → new ≡ words ++ word ∷ []
    → (octet_words_within 32 octets ≡ new ++ octet_words_within (32 - length new) (drop 8 rest))
    × (length (drop 8 rest) ≤ 8 * (32 - length new))
words_so_far octets words new rest word whole fits some same is_new =
    let size : length new ≡ length words + 1 = ap length is_new ∙ length-append words (word ∷ []) in
    let left : 32 - length words ≡ suc (32 - length new) = omega (arith, size, fits, some) in
    let tail = octet_words_within (32 - length new) (drop 8 rest) in
    let step : octet_words_within (32 - length words) rest ≡ word ∷ tail =
    packed_more (32 - length words) (32 - length new) rest some left
    ∙ ap (λ v. v ∷ tail) (sym same) in
    let count = length-drop 8 rest in (
      whole ∙ (ap (λ v. words ++ v) step ∙ (sym (append_assoc words (word ∷ []) tail)
          ∙ ap (λ v. v ++ tail) (sym is_new))),
      omega (arith, count, size, fits),
    )

-- at the end nothing is left
pub all_packed : (octets words rest : List ℕ) → octet_words_within 32 octets ≡ words
    ++ octet_words_within (32 - length words) rest → length rest ≡ 0
    → words ≡ octet_words_within 32 octets
all_packed octets words [] whole none = sym (whole
    ∙ (ap (λ v. words ++ v) (packed_none (32 - length words)) ∙ append-nil words))
all_packed octets words (x ∷ rest) whole none = absurd (omega (arith, none))

-- the last word has what is left
pub last_packed : (octets words new rest : List ℕ) (word : ℕ)
    → octet_words_within 32 octets ≡ words ++ octet_words_within (32 - length words) rest
    → length rest ≤ 8 * (32 - length words) → 0 < length rest → length rest ≤ 8
    → word ≡ weigh WEIGHTS rest → new ≡ words ++ word ∷ [] → new ≡ octet_words_within 32 octets
last_packed octets words new rest word whole fits some few same is_new =
    let more = words_so_far octets words new rest word whole fits some same is_new in
    let count = length-drop 8 rest in
    all_packed octets new (drop 8 rest) more.0 (omega (arith, count, few))

-- words that are there need no zeros
from_within : (n k j : ℕ) (xs : List ℕ) → j ≡ n + k → 8 * n < length xs
    → octet_words_within j xs ≡ octet_words_from n k xs
from_within zero k j xs e more = ap (λ v. octet_words_within v xs) (omega (arith, e))
from_within (suc n) k j xs e more =
    let count = length-drop 8 xs in
    packed_more j (n + k) xs (omega (arith, more)) (omega (arith, e))
    ∙ ap (λ v. weigh WEIGHTS xs ∷ v)
    (from_within n k (n + k) (drop 8 xs) refl (omega (arith, more, count)))

pub long_packed : (octets : List ℕ) → 32 < length octets
    → octet_words_within 32 octets ≡ octet_words octets
unfolding octet_words
long_packed octets long = from_within 4 28 32 octets refl long

-- a name that is not short has more words
pub long_more : (octets : List ℕ) → 32 < length octets → length (octet_words octets) ≡ 4 → ⊥
unfolding octet_words
long_more octets long four =
    let rest = drop 8 (drop 8 (drop 8 (drop 8 octets))) in
    let a = length-drop 8 octets in
    let b = length-drop 8 (drop 8 octets) in
    let c = length-drop 8 (drop 8 (drop 8 octets)) in
    let d = length-drop 8 (drop 8 (drop 8 (drop 8 octets))) in
    let more = ap length (packed_more 28 27 rest (omega (arith, long, a, b, c, d)) refl) in
    absurd (omega (arith, four, more))

-- a short name has just four
pub short_packed : (octets : List ℕ) → length octets ≤ 32
    → weigh WEIGHTS octets ∷ weigh WEIGHTS (drop 8 octets)
    ∷ weigh WEIGHTS (drop 8 (drop 8 octets)) ∷ weigh WEIGHTS (drop 8 (drop 8 (drop 8 octets))) ∷ []
    ≡ octet_words octets
unfolding octet_words
short_packed octets short =
    let rest = drop 8 (drop 8 (drop 8 (drop 8 octets))) in
    let a = length-drop 8 octets in
    let b = length-drop 8 (drop 8 octets) in
    let c = length-drop 8 (drop 8 (drop 8 octets)) in
    let d = length-drop 8 (drop 8 (drop 8 (drop 8 octets))) in
    let none : rest ≡ [] = nil_from_length rest (omega (arith, short, a, b, c, d)) in
    ap (λ v. weigh WEIGHTS octets ∷ weigh WEIGHTS (drop 8 octets)
    ∷ weigh WEIGHTS (drop 8 (drop 8 octets)) ∷ weigh WEIGHTS (drop 8 (drop 8 (drop 8 octets))) ∷ v)
    (sym (ap (octet_words_within 28) none ∙ packed_none 28))
