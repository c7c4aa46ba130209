-- How octets compare that are put together of parts, and the laws of the preference.
-- Serves `Observation::cmp`, `body_order`, `rdatas_order`.
use Rattle.std.proofs.Common.{◌≡◌, ℕ, ◌+◌, ◌/◌, ◌%◌, ◌<◌, List, [], ◌∷◌, ◌++◌, length, get_or, drop, true, false, refl, sym, ap, ◌∙◌, arith, append_assoc}
use Rattle.std.specs.declared.cmp.Ordering.{Ordering}
use Rattle.std.specs.declared.cmp.Ordering.TheVariants.{Less, Equal, Greater}
use Rattle.std.specs.Ordering.{nat_cmp, ordering_then, is_ne}
use mathlib.Core.Bool.{false≢true}
use Rattle.fleet_observe.proofs.Lemmas.{then_assoc}
use Rattle.fleet_observe.proofs.Lists.{split_at}
use Rattle.std.specs.Cmp.{nat_cmp_is}
use Rattle.std.specs.List.{flat_map, AllByRecursion}
use Rattle.std.proofs.lemmas.Cmp.{ranked}
use Rattle.fleet_name.specs.Name.{label_octets, wire, IsLabel, IsName}
use Rattle.fleet_wire.specs.Number.{u16_octets}
use Rattle.fleet_observe.specs.Body.{octets_with_length, negative_body}
use Rattle.fleet_observe.specs.Observation.{ObservationData, expires, kind_number}
use Rattle.fleet_observe.specs.Preference.{octets_cmp, name_cmp, preference}

-- parts of one length, and what follows them
pub cmp_split : (xs ys s t : List ℕ) → length xs ≡ length ys
    → octets_cmp (xs ++ s) (ys ++ t) ≡ ordering_then (octets_cmp xs ys) (octets_cmp s t)
cmp_split [] [] s t n = refl
cmp_split [] (y ∷ ys) s t n = absurd (omega (arith, n))
cmp_split (x ∷ xs) [] s t n = absurd (omega (arith, n))
cmp_split (x ∷ xs) (y ∷ ys) s t n =
    ap (ordering_then (nat_cmp x y)) (cmp_split xs ys s t (omega (arith, n)))
    ∙ sym (then_assoc (nat_cmp x y) (octets_cmp xs ys) (octets_cmp s t))

digits : (n m : ℕ) (a b : Ordering) → a ≡ nat_cmp (n / 256) (m / 256)
    → b ≡ nat_cmp (n % 256) (m % 256) → ordering_then a (ordering_then b Equal) ≡ nat_cmp n m
digits n m Less b e f = let less : n / 256 < m / 256 = ranked (n / 256) (m / 256) Less e in
    nat_cmp_is n m Less (omega arith)
digits n m Greater b e f = let less : m / 256 < n / 256 = ranked (n / 256) (m / 256) Greater e in
    nat_cmp_is n m Greater (omega arith)
digits n m Equal Less e f =
    let same : n / 256 ≡ m / 256 = ranked (n / 256) (m / 256) Equal e in
    let less : n % 256 < m % 256 = ranked (n % 256) (m % 256) Less f in
    nat_cmp_is n m Less (omega arith)
digits n m Equal Equal e f =
    let same : n / 256 ≡ m / 256 = ranked (n / 256) (m / 256) Equal e in
    let low : n % 256 ≡ m % 256 = ranked (n % 256) (m % 256) Equal f in
    nat_cmp_is n m Equal (omega arith)
digits n m Equal Greater e f =
    let same : n / 256 ≡ m / 256 = ranked (n / 256) (m / 256) Equal e in
    let less : m % 256 < n % 256 = ranked (n % 256) (m % 256) Greater f in
    nat_cmp_is n m Greater (omega arith)

-- numbers in two octets compare as numbers
pub u16_cmp : (n m : ℕ) → octets_cmp (u16_octets n) (u16_octets m) ≡ nat_cmp n m
u16_cmp n m = digits n m (nat_cmp (n / 256) (m / 256)) (nat_cmp (n % 256) (m % 256)) refl refl

same_length : (n m : ℕ) (o : Ordering) → o ≡ nat_cmp n m → (r s : Ordering) → (n ≡ m → r ≡ s)
    → ordering_then o r ≡ ordering_then o s
same_length n m Less e r s f = refl
same_length n m Equal e r s f = f (ranked n m Equal e)
same_length n m Greater e r s f = refl

-- octets after their length, and what follows them
pub sized_split : (xs ys s t : List ℕ) → octets_cmp (octets_with_length xs ++ s)
    (octets_with_length ys ++ t) ≡ ordering_then (nat_cmp (length xs) (length ys))
    (ordering_then (octets_cmp xs ys) (octets_cmp s t))
sized_split xs ys s t =
    cmp_split (u16_octets (length xs)) (u16_octets (length ys)) (xs ++ s) (ys ++ t) refl
    ∙ ap (λ o. ordering_then o (octets_cmp (xs ++ s) (ys ++ t))) (u16_cmp (length xs) (length ys))
    ∙ same_length (length xs) (length ys) (nat_cmp (length xs) (length ys)) refl
    (octets_cmp (xs ++ s) (ys ++ t)) (ordering_then (octets_cmp xs ys) (octets_cmp s t))
    (cmp_split xs ys s t)

sized_cmp : (xs ys : List ℕ) → octets_cmp (octets_with_length xs) (octets_with_length ys)
    ≡ ordering_then (nat_cmp (length xs) (length ys)) (octets_cmp xs ys)
sized_cmp xs ys =
    cmp_split (u16_octets (length xs)) (u16_octets (length ys)) xs ys refl
    ∙ ap (λ o. ordering_then o (octets_cmp xs ys)) (u16_cmp (length xs) (length ys))

-- what follows octets after their length decides only where these are equal
pub sized_first : (xs ys s t : List ℕ) → octets_cmp (octets_with_length xs ++ s)
    (octets_with_length ys ++ t) ≡ ordering_then (octets_cmp (octets_with_length xs)
    (octets_with_length ys)) (octets_cmp s t)
sized_first xs ys s t =
    sized_split xs ys s t
    ∙ sym (then_assoc (nat_cmp (length xs) (length ys)) (octets_cmp xs ys) (octets_cmp s t))
    ∙ ap (λ o. ordering_then o (octets_cmp s t)) (sym (sized_cmp xs ys))

-- the first items decide, then the others
pub rdatas_step : (xs ys : List (List ℕ)) (i : ℕ) (x y : List ℕ) → i < length xs → i < length ys
    → x ≡ get_or xs i x → y ≡ get_or ys i y → octets_cmp (flat_map octets_with_length (drop i xs))
    (flat_map octets_with_length (drop i ys)) ≡ ordering_then (octets_cmp (octets_with_length x)
    (octets_with_length y)) (octets_cmp (flat_map octets_with_length (drop (i + 1) xs))
    (flat_map octets_with_length (drop (i + 1) ys)))
rdatas_step xs ys i x y h k e f =
    ap (λ l. octets_cmp (flat_map octets_with_length l) (flat_map octets_with_length (drop i ys)))
    (split_at xs i x h e)
    ∙ ap (λ l. octets_cmp (flat_map octets_with_length (x ∷ drop (i + 1) xs))
    (flat_map octets_with_length l)) (split_at ys i y k f)
    ∙ sized_first x y (flat_map octets_with_length (drop (i + 1) xs))
    (flat_map octets_with_length (drop (i + 1) ys))

pub settled : (o r : Ordering) → is_ne o ≡ true → ordering_then o r ≡ o
settled Less r e = refl
settled Equal r e = absurd (false≢true e)
settled Greater r e = refl

pub tied : (o r : Ordering) → is_ne o ≡ false → ordering_then o r ≡ r
tied Less r e = absurd (false≢true (sym e))
tied Equal r e = refl
tied Greater r e = absurd (false≢true (sym e))

behind_label : (l : List ℕ) (a : List (List ℕ)) (s : List ℕ)
    → ((l ++ flat_map label_octets a) ++ 0 ∷ []) ++ s ≡ l ++ (wire a ++ s)
behind_label l a s = ap (λ x. x ++ s) (append_assoc l (flat_map label_octets a) (0 ∷ []))
    ∙ append_assoc l (wire a) s

tails : (l m : List ℕ) (a b : List (List ℕ)) (s t : List ℕ) → length l ≡ length m
    → octets_cmp (wire a ++ s) (wire b ++ t) ≡ ordering_then (octets_cmp (wire a) (wire b))
    (octets_cmp s t) → octets_cmp (l ++ (wire a ++ s)) (m ++ (wire b ++ t)) ≡ ordering_then
    (octets_cmp (l ++ wire a) (m ++ wire b)) (octets_cmp s t)
tails l m a b s t n rest =
    cmp_split l m (wire a ++ s) (wire b ++ t) n
    ∙ ap (ordering_then (octets_cmp l m)) rest
    ∙ sym (then_assoc (octets_cmp l m) (octets_cmp (wire a) (wire b)) (octets_cmp s t))
    ∙ ap (λ o. ordering_then o (octets_cmp s t)) (sym (cmp_split l m (wire a) (wire b) n))

-- no name in full is the beginning of another one
pub wire_split : (a b : List (List ℕ)) (s t : List ℕ) → AllByRecursion IsLabel a
    → AllByRecursion IsLabel b → octets_cmp (wire a ++ s) (wire b ++ t) ≡ ordering_then
    (octets_cmp (wire a) (wire b)) (octets_cmp s t)
wire_split [] [] s t h k = refl
wire_split [] (m ∷ b) s t h k = let first : Less ≡ nat_cmp 0 (length m) = nat_cmp_is 0 (length m)
    Less k.0.some in rw (← first) refl
wire_split (l ∷ a) [] s t h k = let first : Greater ≡ nat_cmp (length l) 0 = nat_cmp_is (length l)
    0 Greater h.0.some in rw (← first) refl
wire_split (l ∷ a) (m ∷ b) s t h k =
    let n : Ordering = nat_cmp (length l) (length m) in
    let long : octets_cmp (((l ++ flat_map label_octets a) ++ 0 ∷ []) ++ s)
    (((m ++ flat_map label_octets b) ++ 0 ∷ []) ++ t) ≡ octets_cmp (l ++ (wire a ++ s))
    (m ++ (wire b ++ t)) = ap (λ x. octets_cmp x (((m ++ flat_map label_octets b) ++ 0 ∷ [])
    ++ t)) (behind_label l a s) ∙ ap (octets_cmp (l ++ (wire a ++ s))) (behind_label m b t) in
    let short : octets_cmp ((l ++ flat_map label_octets a) ++ 0 ∷ [])
    ((m ++ flat_map label_octets b) ++ 0 ∷ []) ≡ octets_cmp (l ++ wire a) (m ++ wire b) =
    ap (λ x. octets_cmp x ((m ++ flat_map label_octets b) ++ 0 ∷ []))
    (append_assoc l (flat_map label_octets a) (0 ∷ [])) ∙ ap (octets_cmp (l ++ wire a))
    (append_assoc m (flat_map label_octets b) (0 ∷ [])) in
    ap (ordering_then n) long
    ∙ same_length (length l) (length m) n refl (octets_cmp (l ++ (wire a ++ s))
    (m ++ (wire b ++ t))) (ordering_then (octets_cmp (l ++ wire a) (m ++ wire b))
    (octets_cmp s t)) (λ e. tails l m a b s t e (wire_split a b s t h.1 k.1))
    ∙ sym (then_assoc n (octets_cmp (l ++ wire a) (m ++ wire b)) (octets_cmp s t))
    ∙ ap (λ o. ordering_then (ordering_then n o) (octets_cmp s t)) (sym short)

-- the owner decides, then the RDATA
pub negative_cmp : (a b : List (List ℕ)) (s t : List ℕ) → IsName a → IsName b
    → octets_cmp (negative_body a s) (negative_body b t) ≡ ordering_then
    (octets_cmp (wire a) (wire b)) (octets_cmp (octets_with_length s) (octets_with_length t))
negative_cmp a b s t h k = wire_split a b (octets_with_length s) (octets_with_length t) h.labels
    k.labels

-- one after the other, and all of them before the last one
pub before_last : (a b c d e f last : Ordering)
    → ordering_then (ordering_then
    (ordering_then (ordering_then (ordering_then (ordering_then a b) c) d) e) f)
    last ≡ ordering_then a (ordering_then b
    (ordering_then c (ordering_then d (ordering_then e (ordering_then f last)))))
before_last Less b c d e f last = refl
before_last Greater b c d e f last = refl
before_last Equal Less c d e f last = refl
before_last Equal Greater c d e f last = refl
before_last Equal Equal Less d e f last = refl
before_last Equal Equal Greater d e f last = refl
before_last Equal Equal Equal Less e f last = refl
before_last Equal Equal Equal Greater e f last = refl
before_last Equal Equal Equal Equal e f last = then_assoc e f last

pub compared : (o : Ordering) (n m k j : ℕ) → o ≡ nat_cmp n m → n ≡ k → m ≡ j → o ≡ nat_cmp k j
compared o n m k j e f h = e ∙ ap (λ i. nat_cmp i m) f ∙ ap (nat_cmp k) h

-- comparisons that are joined one by one, and the last one
pub joined : (a b c d e f ab abc abcd abcde all last : Ordering) → ab ≡ ordering_then a b
    → abc ≡ ordering_then ab c → abcd ≡ ordering_then abc d → abcde ≡ ordering_then abcd e
    → all ≡ ordering_then abcde f → ordering_then all last ≡ ordering_then a
    (ordering_then b (ordering_then c (ordering_then d (ordering_then e (ordering_then f last)))))
joined a b c d e f ab abc abcd abcde all last h i j k l =
    let whole : all ≡ ordering_then
    (ordering_then (ordering_then (ordering_then (ordering_then a b) c) d) e) f = l
    ∙ ap (λ o. ordering_then o f) (k ∙ ap (λ o. ordering_then o e)
    (j ∙ ap (λ o. ordering_then o d) (i ∙ ap (λ o. ordering_then o c) h))) in
    ap (λ o. ordering_then o last) whole ∙ before_last a b c d e f last

-- the comparisons of two observations' parts make their preference
pub preferred : (x y : ObservationData) (a b c d e f : Ordering) → a ≡ nat_cmp x.rank y.rank
    → b ≡ nat_cmp x.stamp y.stamp → c ≡ nat_cmp (expires x) (expires y)
    → d ≡ nat_cmp (kind_number x.kind) (kind_number y.kind) → e ≡ nat_cmp x.rtype y.rtype
    → f ≡ name_cmp x.name y.name
    → ordering_then a (ordering_then b
    (ordering_then c (ordering_then d
    (ordering_then e (ordering_then f (octets_cmp x.body y.body)))))) ≡ preference x y
preferred x y a b c d e f i j k l m n = rw (i, j, k, l, m, n) refl
