-- Names as words compare as their octets do.
-- Serves `word_of`, and what `Looked`, `Slots` serve.
use Rattle.std.proofs.Common.{ℕ, zero, suc, ◌+◌, ◌*◌, ◌≡◌, ◌<◌, ◌≤◌, List, [], ◌∷◌, ◌++◌, length, drop, refl, sym, ap, ◌∙◌, subst, arith}
use Rattle.std.specs.declared.cmp.Ordering.{Ordering}
use Rattle.std.specs.declared.cmp.Ordering.TheVariants.{Less, Equal, Greater}
use Rattle.std.specs.Ordering.{nat_cmp, ordering_then}
use Rattle.std.specs.List.{AllByRecursion}
use Rattle.std.specs.Cmp.{nat_cmp_is}
use Rattle.std.proofs.Math.Nat.{mul-le-mul_left, mul_comm}
use Rattle.std.proofs.lemmas.Cmp.{ranked, tied_itself, nat_cmp_total, nat_list_cmp_total}
use Rattle.std.proofs.lemmas.List.{length-drop}
use Rattle.std.proofs.lemmas.Map.Lookups.{exact_unsigned, exact_bytes}
use Rattle.fleet_cache.specs.declared.words.TheConstants.{WEIGHTS}
use Rattle.fleet_cache.specs.steps.Packed.{weigh, octet_words_within, octet_words_from, octet_words, IsPackable}
use Rattle.fleet_name.specs.Name.{wire, IsLabel}
use Rattle.fleet_name.proofs.Lemmas.{wire_cons, wire_exact}
use Rattle.fleet_observe.specs.Preference.{octets_cmp, name_cmp}
use Rattle.fleet_observe.proofs.Lemmas.{then_parts, then_assoc}

abbrev pub AreBytes : List ℕ → Type 0
AreBytes = AllByRecursion (λ x. x < 256)

-- more of a weight than another number of it has
more_of : (w x y : ℕ) → x < y → x * w + w ≤ y * w
more_of w x y less =
    let m : w * (x + 1) ≤ w * y = mul-le-mul_left w (omega (arith, less)) in
    let a = mul_comm w (x + 1) in
    let b = mul_comm w y in
    grind (arith, m, a, b)

-- of two numbers with a digit before a rest, the digits decide first
digit_first : (w x y r s : ℕ) → r < w → s < w → (o : Ordering) → o ≡ nat_cmp x y
    → nat_cmp (x * w + r) (y * w + s) ≡ ordering_then o (nat_cmp r s)
digit_first w x y r s low lower Less e =
    let m = more_of w x y (ranked x y Less e) in
    sym (nat_cmp_is (x * w + r) (y * w + s) Less (omega (arith, m, low)))
digit_first w x y r s low lower Greater e =
    let m = more_of w y x (ranked x y Greater e) in
    sym (nat_cmp_is (x * w + r) (y * w + s) Greater (omega (arith, m, lower)))
digit_first w x y r s low lower Equal e =
    let same : x ≡ y = ranked x y Equal e in
    rw same (rest (nat_cmp r s) refl)
  where
    rest : (o : Ordering) → o ≡ nat_cmp r s → nat_cmp (y * w + r) (y * w + s) ≡ o
    rest Less f = sym (nat_cmp_is (y * w + r) (y * w + s) Less
        (let k : r < s = ranked r s Less f in omega (arith, k)))
    rest Equal f = sym (nat_cmp_is (y * w + r) (y * w + s) Equal
        (let k : r ≡ s = ranked r s Equal f in ap (λ v. y * w + v) k))
    rest Greater f = sym (nat_cmp_is (y * w + r) (y * w + s) Greater
        (let k : s < r = ranked r s Greater f in omega (arith, k)))

-- each weight is more than what the lighter ones can weigh
abbrev AreWeights : List ℕ → Type 0
AreWeights [] = Unit {0}
AreWeights (w ∷ ws) = ((octets : List ℕ) → AreBytes octets → weigh ws octets < w) × AreWeights ws

-- one more weight, 256 times as heavy
pub weigh_below : (w : ℕ) (ws : List ℕ) → ((octets : List ℕ) → AreBytes octets
    → weigh ws octets < w) → (octets : List ℕ) → AreBytes octets → weigh (w ∷ ws) octets < 256 * w
weigh_below w ws below [] bytes = let b = below [] tt in omega (arith, b)
weigh_below w ws below (x ∷ octets) bytes =
    let b = below octets bytes.1 in
    let m : w * x ≤ w * 255 = mul-le-mul_left w (omega (arith, bytes.0)) in
    let a = mul_comm w x in
    let c = mul_comm w 255 in
    grind (arith, b, m, a, c)

weigh_nothing : (octets : List ℕ) → AreBytes octets → weigh [] octets < 1
weigh_nothing octets bytes = omega arith

pub are_weights : AreWeights WEIGHTS
are_weights =
    let one = weigh_nothing in
    let two = weigh_below 1 [] one in
    let three = weigh_below 256 (1 ∷ []) two in
    let four = weigh_below 65536 (256 ∷ 1 ∷ []) three in
    let five = weigh_below 16777216 (65536 ∷ 256 ∷ 1 ∷ []) four in
    let six = weigh_below 4294967296 (16777216 ∷ 65536 ∷ 256 ∷ 1 ∷ []) five in
    let seven = weigh_below 1099511627776 (4294967296 ∷ 16777216 ∷ 65536 ∷ 256 ∷ 1 ∷ []) six in
    let eight = weigh_below 281474976710656
    (1099511627776 ∷ 4294967296 ∷ 16777216 ∷ 65536 ∷ 256 ∷ 1 ∷ []) seven in
    (eight, (seven, (six, (five, (four, (three, (two, (one, tt))))))))

-- octets that are the same, or differ at a place that both have: neither is a proper prefix
abbrev Settled : List ℕ → List ℕ → Type 0
Settled [] [] = Unit {0}
Settled [] (y ∷ ys) = ⊥
Settled (x ∷ xs) [] = ⊥
Settled (x ∷ xs) (y ∷ ys) = x ≡ y → Settled xs ys

front_settled : (p q xs ys : List ℕ) → length p ≡ length q → Settled xs ys
    → Settled (p ++ xs) (q ++ ys)
front_settled [] [] xs ys e s = s
front_settled [] (b ∷ q) xs ys e s = absurd (omega (arith, e))
front_settled (a ∷ p) [] xs ys e s = absurd (omega (arith, e))
front_settled (a ∷ p) (b ∷ q) xs ys e s = λ same. front_settled p q xs ys (omega (arith, e)) s

-- no name is a proper prefix of another
names_settled : (n m : List (List ℕ)) → AllByRecursion IsLabel n → AllByRecursion IsLabel m
    → Settled (wire n) (wire m)
names_settled [] [] a b = λ same. tt
names_settled [] (k ∷ m) a b =
    λ same. let none : 0 ≡ length k = same in absurd (omega (arith, none, b.0.some))
names_settled (l ∷ n) [] a b =
    λ same. let none : length l ≡ 0 = same in absurd (omega (arith, none, a.0.some))
names_settled (l ∷ n) (k ∷ m) a b =
    let deeper = names_settled n m a.1 b.1 in
    let s : Settled (length l ∷ (l ++ wire n)) (length k ∷ (k ++ wire m)) =
    λ same. front_settled l k (wire n) (wire m) same deeper in
    subst (λ v. Settled v (wire (k ∷ m))) (sym (wire_cons l n))
    (subst (Settled (length l ∷ (l ++ wire n))) (sym (wire_cons k m)) s)

-- what follows two numbers decides only where they are one
behind_tied : (x y : ℕ) (o p : Ordering) → (x ≡ y → o ≡ p)
    → ordering_then (nat_cmp x y) o ≡ ordering_then (nat_cmp x y) p
behind_tied x y o p tied = by_cases (nat_cmp x y) refl
  where
    by_cases : (r : Ordering) → r ≡ nat_cmp x y → ordering_then r o ≡ ordering_then r p
    by_cases Less e = refl
    by_cases Equal e = tied (ranked x y Equal e)
    by_cases Greater e = refl

-- what octets weigh decides as they do, and then what is left of them
weigh_cmp : (ws : List ℕ) → AreWeights ws → (xs ys : List ℕ) → AreBytes xs → AreBytes ys
    → Settled xs ys → ordering_then (nat_cmp (weigh ws xs) (weigh ws ys))
    (octets_cmp (drop (length ws) xs) (drop (length ws) ys)) ≡ octets_cmp xs ys
weigh_cmp [] good xs ys a b s = refl
weigh_cmp (w ∷ ws) good [] [] a b s = refl
weigh_cmp (w ∷ ws) good [] (y ∷ ys) a b s = absurd s
weigh_cmp (w ∷ ws) good (x ∷ xs) [] a b s = absurd s
weigh_cmp (w ∷ ws) good (x ∷ xs) (y ∷ ys) a b s =
    let left = octets_cmp (drop (length ws) xs) (drop (length ws) ys) in
    ap (λ o. ordering_then o left)
    (digit_first w x y (weigh ws xs) (weigh ws ys) (good.0 xs a.1) (good.0 ys b.1) (nat_cmp x y)
    refl)
    ∙ (then_assoc (nat_cmp x y) (nat_cmp (weigh ws xs) (weigh ws ys)) left
    ∙ behind_tied x y (ordering_then (nat_cmp (weigh ws xs) (weigh ws ys)) left) (octets_cmp xs ys)
    (λ same. weigh_cmp ws good.1 xs ys a.1 b.1 (s same)))

-- where octets weigh the same, what is left decides
weigh_tied : (ws : List ℕ) → AreWeights ws → (xs ys : List ℕ) → AreBytes xs → AreBytes ys
    → Settled xs ys → weigh ws xs ≡ weigh ws ys
    → Settled (drop (length ws) xs) (drop (length ws) ys)
weigh_tied [] good xs ys a b s e = s
weigh_tied (w ∷ ws) good [] [] a b s e = tt
weigh_tied (w ∷ ws) good [] (y ∷ ys) a b s e = absurd s
weigh_tied (w ∷ ws) good (x ∷ xs) [] a b s e = absurd s
weigh_tied (w ∷ ws) good (x ∷ xs) (y ∷ ys) a b s e =
    let n = x * w + weigh ws xs in
    let tied : nat_cmp n (y * w + weigh ws ys) ≡ Equal =
    ap (nat_cmp n) (sym e) ∙ tied_itself nat_cmp_total n in
    let p = then_parts (nat_cmp x y) (nat_cmp (weigh ws xs) (weigh ws ys))
    (sym (digit_first w x y (weigh ws xs) (weigh ws ys) (good.0 xs a.1) (good.0 ys b.1)
    (nat_cmp x y) refl) ∙ tied) in
    weigh_tied ws good.1 xs ys a.1 b.1 (s (exact_unsigned x y p.0))
    (exact_unsigned (weigh ws xs) (weigh ws ys) p.1)

bytes_left : (n : ℕ) (xs : List ℕ) → AreBytes xs → AreBytes (drop n xs)
bytes_left zero xs a = a
bytes_left (suc n) [] a = tt
bytes_left (suc n) (x ∷ xs) a = bytes_left n xs a.1

within_cmp : (k : ℕ) (xs ys : List ℕ) → AreBytes xs → AreBytes ys → Settled xs ys
    → length xs ≤ 8 * k → length ys ≤ 8 * k
    → octets_cmp (octet_words_within k xs) (octet_words_within k ys) ≡ octets_cmp xs ys
within_cmp zero [] [] a b s n m = refl
within_cmp zero (x ∷ xs) ys a b s n m = absurd (omega (arith, n))
within_cmp zero [] (y ∷ ys) a b s n m = absurd (omega (arith, m))
within_cmp (suc k) [] [] a b s n m = refl
within_cmp (suc k) [] (y ∷ ys) a b s n m = absurd s
within_cmp (suc k) (x ∷ xs) [] a b s n m = absurd s
within_cmp (suc k) (x ∷ xs) (y ∷ ys) a b s n m =
    let p = x ∷ xs in
    let q = y ∷ ys in
    let i = length-drop 8 p in
    let j = length-drop 8 q in
    behind_tied (weigh WEIGHTS p) (weigh WEIGHTS q)
    (octets_cmp (octet_words_within k (drop 8 p)) (octet_words_within k (drop 8 q)))
    (octets_cmp (drop 8 p) (drop 8 q))
    (λ tied. within_cmp k (drop 8 p) (drop 8 q) (bytes_left 8 p a) (bytes_left 8 q b)
    (weigh_tied WEIGHTS are_weights p q a b s tied) (omega (arith, n, i)) (omega (arith, m, j)))
    ∙ weigh_cmp WEIGHTS are_weights p q a b s

from_cmp : (n k : ℕ) (xs ys : List ℕ) → AreBytes xs → AreBytes ys → Settled xs ys
    → length xs ≤ 8 * (n + k) → length ys ≤ 8 * (n + k)
    → octets_cmp (octet_words_from n k xs) (octet_words_from n k ys) ≡ octets_cmp xs ys
from_cmp zero k xs ys a b s i j = within_cmp k xs ys a b s (omega (arith, i)) (omega (arith, j))
from_cmp (suc n) k xs ys a b s i j =
    let p = length-drop 8 xs in
    let q = length-drop 8 ys in
    behind_tied (weigh WEIGHTS xs) (weigh WEIGHTS ys)
    (octets_cmp (octet_words_from n k (drop 8 xs)) (octet_words_from n k (drop 8 ys)))
    (octets_cmp (drop 8 xs) (drop 8 ys))
    (λ tied. from_cmp n k (drop 8 xs) (drop 8 ys) (bytes_left 8 xs a) (bytes_left 8 ys b)
    (weigh_tied WEIGHTS are_weights xs ys a b s tied) (omega (arith, i, p)) (omega (arith, j, q)))
    ∙ weigh_cmp WEIGHTS are_weights xs ys a b s

pub packed_cmp : (n m : List (List ℕ)) → IsPackable n → IsPackable m
    → octets_cmp (octet_words (wire n)) (octet_words (wire m)) ≡ name_cmp n m
unfolding octet_words
packed_cmp n m a b = from_cmp 4 28 (wire n) (wire m) a.bytes b.bytes
    (names_settled n m a.named.labels b.named.labels) (omega (arith, a.named.fits))
    (omega (arith, b.named.fits))

pub packed_exact : (n m : List (List ℕ)) → IsPackable n → IsPackable m
    → octet_words (wire n) ≡ octet_words (wire m) → n ≡ m
packed_exact n m a b same = wire_exact n m (exact_bytes (wire n) (wire m) (sym (packed_cmp n m a b)
    ∙ (ap (λ v. octets_cmp v (octet_words (wire m))) same
    ∙ tied_itself nat_list_cmp_total (octet_words (wire m)))))
