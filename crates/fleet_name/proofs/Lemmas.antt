-- The lemmas of this crate's words. Crates above cite these, and no other file of proofs/.
-- Serves `Name::root`, `Name::same`, law `one_name`, what `Spelling`, `Whole` serve, and
-- fleet_wire, fleet_observe, fleet_front, fleet_cache, fleet_gossip, fleet_pending, fleet_site,
-- fleet_world, fleet_program.
use Rattle.std.proofs.Common.{◌≡◌, ◌≢◌, ℕ, zero, suc, ◌+◌, ◌<◌, ◌≤◌, ◌⊎◌, inl, inr, Bool, true, List, [], ◌∷◌, ◌++◌, Some, None, length, map, filter, get_or, slice_set, refl, sym, ap, ◌∙◌, append_assoc, arith, length-append}
use Rattle.std.proofs.lemmas.Bool.{cases_Bool}
use Rattle.std.proofs.lemmas.Grind.{flat_map-append}
use Rattle.std.proofs.lemmas.List.{length-map, map-append, append-nil}
use Rattle.std.proofs.lemmas.Option.{same_Some, slice_get_read}
use Rattle.std.proofs.lemmas.Str.Ascii.{lowercase-lowercase, lowercase_is}
use Rattle.std.specs.Char.{to_ascii_lowercase}
use Rattle.std.specs.List.{flat_map, AllByRecursion}
use Rattle.fleet_name.specs.declared.bounds.TheConstants.{LONGEST_LABEL, LONGEST_NAME}
use Rattle.fleet_name.specs.Name.{label_octets, wire, lower, lower_all, IsLabel, IsName, labels_after, labels_of}
use Rattle.fleet_name.specs.Places.{At, Has}

-- lists whose fronts have one length have the same fronts and the same rests
pub split_same : {X : Type 0} (a b xs ys : List X) → length a ≡ length b → a ++ xs ≡ b ++ ys
    → (a ≡ b) × (xs ≡ ys)
split_same [] [] xs ys n e = (refl, e)
split_same [] (y ∷ b) xs ys n e = absurd (omega (arith, n))
split_same (x ∷ a) [] xs ys n e = absurd (omega (arith, n))
split_same (x ∷ a) (y ∷ b) xs ys n e =
    let h : x ≡ y = cc in
    let t : a ++ xs ≡ b ++ ys = cc in
    let r = split_same a b xs ys (omega (arith, n)) t in
    let l : a ≡ b = r.0 in
    (cc, r.1)

-- a member of the first list is one of both
pub has_left : {X : Type 0} (xs ys : List X) (x : X) → Has xs x → Has (xs ++ ys) x
has_left [] ys x h = absurd h
has_left (y ∷ xs) ys x (inl e) = inl e
has_left (y ∷ xs) ys x (inr h) = inr (has_left xs ys x h)

-- a member of the second list is one of both
pub has_right : {X : Type 0} (xs ys : List X) (x : X) → Has ys x → Has (xs ++ ys) x
has_right [] ys x h = h
has_right (y ∷ xs) ys x h = inr (has_right xs ys x h)

-- a member of both lists is one of the first or of the second
pub has_either : {X : Type 0} (xs ys : List X) (x : X) → Has (xs ++ ys) x → Has xs x ⊎ Has ys x
has_either [] ys x h = inr h
has_either (y ∷ xs) ys x (inl e) = inl (inl e)
has_either (y ∷ xs) ys x (inr h) =
    elim (has_either xs ys x h) [ inl a ↦ inl (inr a) | inr b ↦ inr b ]

-- a member of what a test keeps is a member, and passes the test
pub Has-filter : {X : Type 0} (p : X → Bool) (xs : List X) (x : X) → Has (filter p xs) x
    → Has xs x × (p x ≡ true)
Has-filter p [] x h = absurd h
Has-filter p (y ∷ ys) x h = elim (cases_Bool (p y)) [
  | inl e ↦ elim (rw e at h) [
    | inl same ↦ (inl same, ap p (sym same) ∙ e)
    | inr rest ↦ (inr (Has-filter p ys x rest).0, (Has-filter p ys x rest).1)
  ]
  | inr e ↦ let rest = rw e at h in (inr (Has-filter p ys x rest).0, (Has-filter p ys x rest).1)
]

-- a member that passes the test is kept
pub Has-in_filter : {X : Type 0} (p : X → Bool) (xs : List X) (x : X) → Has xs x → p x ≡ true
    → Has (filter p xs) x
Has-in_filter p [] x h e = absurd h
Has-in_filter p (y ∷ ys) x (inl same) e = rw (ap p same ∙ e) (inl same)
Has-in_filter p (y ∷ ys) x (inr rest) e = elim (cases_Bool (p y)) [
  | inl k ↦ rw k (inr (Has-in_filter p ys x rest e))
  | inr k ↦ rw k (Has-in_filter p ys x rest e)
]

-- an index has one value
pub at_same : {X : Type 0} (xs : List X) (i : ℕ) (x y : X) → At xs i x → At xs i y → x ≡ y
at_same xs i x y p q = same_Some x y (sym p ∙ q)

-- what is read at an index is the value there
pub at_read : {X : Type 0} (xs : List X) (i : ℕ) (x : X) → i < length xs → x ≡ get_or xs i x
    → At xs i x
at_read xs i x within is = slice_get_read xs (length xs) i x refl within is

-- a member of a list after a write is what was written, or was a member before
pub at_set : {X : Type 0} (xs : List X) (i j : ℕ) (y x : X) → At (slice_set xs i y) j x
    → ((j ≡ i) × (x ≡ y)) ⊎ ((j ≢ i) × At xs j x)
at_set [] i j y x h = absurd (let e : None ≡ Some x = h in cc)
at_set (z ∷ xs) zero zero y x h = inl (refl, sym (same_Some y x h))
at_set (z ∷ xs) zero (suc j) y x h = inr ((λ e. omega arith), h)
at_set (z ∷ xs) (suc i) zero y x h = inr ((λ e. omega arith), h)
at_set (z ∷ xs) (suc i) (suc j) y x h = elim (at_set xs i j y x h) [
  | inl p ↦ inl (ap (λ n. suc n) p.0, p.1)
  | inr p ↦ inr ((λ e. p.0 (omega arith)), p.1)
]

-- the image of a value at an index is at that index of the images
pub at_map : {X Y : Type 0} (f : X → Y) (xs : List X) (i : ℕ) (x : X) → At xs i x
    → At (map f xs) i (f x)
at_map f [] i x h = absurd (let e : None ≡ Some x = h in cc)
at_map f (z ∷ xs) zero x h = ap (λ v. Some (f v)) (same_Some z x h)
at_map f (z ∷ xs) (suc i) x h = at_map f xs i x h

-- a value at an index of the images is the image of the value at that index
pub at_mapped : {X Y : Type 0} (f : X → Y) (xs : List X) (i : ℕ) (y : Y) → At (map f xs) i y
    → (x : X) × At xs i x × (f x ≡ y)
at_mapped f [] i y h = absurd (let e : None ≡ Some y = h in cc)
at_mapped f (z ∷ xs) zero y h = (z, refl, same_Some (f z) y h)
at_mapped f (z ∷ xs) (suc i) y h = at_mapped f xs i y h

-- what is written over itself changes nothing
pub set_same : {X : Type 0} (xs : List X) (i : ℕ) (x : X) → At xs i x → slice_set xs i x ≡ xs
set_same [] i x t = refl
set_same (y ∷ ys) zero x t = ap (λ z. z ∷ ys) (sym (same_Some y x t))
set_same (y ∷ ys) (suc i) x t = ap (λ zs. y ∷ zs) (set_same ys i x t)

-- the octets of a name begin with its first label
pub wire_cons : (label : List ℕ) (rest : List (List ℕ))
    → wire (label ∷ rest) ≡ length label ∷ (label ++ wire rest)
wire_cons label rest =
    ap (λ (x : List ℕ). length label ∷ x) (append_assoc label (flat_map label_octets rest) (0 ∷ []))

-- a name has an octet at least
pub wire_some : (name : List (List ℕ)) → 0 < length (wire name)
wire_some name = omega (arith, length-append (flat_map label_octets name) (0 ∷ []))

-- a name with a label has more than one octet
long_tail : (label : List ℕ) (name : List (List ℕ)) → wire [] ≡ wire (label ∷ name) → ⊥
long_tail label name e =
    let t : [] ≡ (label ++ flat_map label_octets name) ++ 0 ∷ [] = cc in
    omega (arith, ap length t, length-append (label ++ flat_map label_octets name) (0 ∷ []))

-- names with the same octets are the same, whatever their labels
pub wire_exact : (a b : List (List ℕ)) → wire a ≡ wire b → a ≡ b
wire_exact [] [] e = refl
wire_exact [] (m ∷ b) e = absurd (long_tail m b e)
wire_exact (l ∷ a) [] e = absurd (long_tail l a (sym e))
wire_exact (l ∷ a) (m ∷ b) e =
    let f : length l ∷ (l ++ wire a) ≡ length m ∷ (m ++ wire b) =
    sym (wire_cons l a) ∙ (e ∙ wire_cons m b) in
    let n : length l ≡ length m = cc in
    let t : l ++ wire a ≡ m ++ wire b = cc in
    let r = split_same l m (wire a) (wire b) n t in
    let h : l ≡ m = r.0 in
    let rest : a ≡ b = wire_exact a b r.1 in
    cc

-- at a length octet no octets of a label are left
begins : (rest : List ℕ) → (labels_after 0 rest).0 ≡ []
begins [] = refl
begins (zero ∷ rest) = refl
begins (suc n ∷ rest) = refl

-- the octets of a label, and then the others
labels_after-append : (label rest : List ℕ) →
    (labels_after (length label) (label ++ rest)).0 ≡ label
labels_after-append [] rest = begins rest
labels_after-append (c ∷ label) rest = ap (λ (cs : List ℕ). c ∷ cs) (labels_after-append label rest)

labels_after-append-rest : (label rest : List ℕ)
    → (labels_after (length label) (label ++ rest)).1 ≡ (labels_after 0 rest).1
labels_after-append-rest [] rest = refl
labels_after-append-rest (c ∷ label) rest = labels_after-append-rest label rest

-- a label that is not empty, read as the first of a name
labels_after-frame : (c : ℕ) (label rest octets : List ℕ) → octets ≡ label ++ rest
    → (labels_after 0 (suc (length label) ∷ c ∷ octets)).1
    ≡ (c ∷ label) ∷ (labels_after 0 rest).1
labels_after-frame c label rest octets e =
    rw (e, labels_after-append label rest, labels_after-append-rest label rest) refl

-- a label in upper or lower case: of 1 to LONGEST_LABEL octets
abbrev pub IsAnyCase : List ℕ → Type 0
IsAnyCase label = (0 < length label) × (length label ≤ LONGEST_LABEL)

labels_after-wire : (name : List (List ℕ)) → AllByRecursion IsAnyCase name
    → (labels_after 0 (wire name)).1 ≡ name
labels_after-wire [] all = refl
labels_after-wire ([] ∷ name) all = absurd (omega (arith, all.0.0))
labels_after-wire ((c ∷ label) ∷ name) all =
    labels_after-frame c label (wire name) ((label ++ flat_map label_octets name) ++ 0 ∷ [])
    (append_assoc label (flat_map label_octets name) (0 ∷ []))
    ∙ ap (λ (ls : List (List ℕ)). (c ∷ label) ∷ ls) (labels_after-wire name all.1)

-- labels in upper or lower case are those that their octets spell
pub labels_of-wire_any : (name : List (List ℕ)) → AllByRecursion IsAnyCase name
    → labels_of (wire name) ≡ name
unfolding labels_of
labels_of-wire_any name all = labels_after-wire name all

-- a label is one in upper or lower case
pub any_case : (name : List (List ℕ)) → AllByRecursion IsLabel name → AllByRecursion IsAnyCase name
any_case [] all = tt
any_case (l ∷ name) all = ((all.0.some, all.0.short), any_case name all.1)

-- labels are as long as their lower case
pub any_case-from_lower : (name : List (List ℕ)) → AllByRecursion IsLabel (lower_all name)
    → AllByRecursion IsAnyCase name
any_case-from_lower [] all = tt
any_case-from_lower (l ∷ name) all =
    let n = length-map l to_ascii_lowercase in
    ((omega (arith, all.0.some, n), omega (arith, all.0.short, n)), any_case-from_lower name all.1)

-- a name is the labels that its octets spell
pub labels_of-wire : (name : List (List ℕ)) → AllByRecursion IsLabel name
    → labels_of (wire name) ≡ name
labels_of-wire name all = labels_of-wire_any name (any_case name all)

-- octets that spell a name are read as it
pub labels_of-spelled : (octets : List ℕ) (name : List (List ℕ)) → AllByRecursion IsLabel name
    → octets ≡ wire name → labels_of octets ≡ name
labels_of-spelled octets name all e = ap labels_of e ∙ labels_of-wire name all

-- the root is a name
pub named_root : IsName []
named_root = record { labels = tt; fits = omega arith }

-- a name without its first label is one
pub named_rest : (label : List ℕ) (name : List (List ℕ)) → IsName (label ∷ name) → IsName name
named_rest label name named = record {
  labels = named.labels.1;
  fits =
      omega (arith, named.fits, ap length (wire_cons label name), length-append label (wire name));
}

-- each label of a name is one
pub label_among : (before : List (List ℕ)) (label : List ℕ) (rest : List (List ℕ))
    → AllByRecursion IsLabel (before ++ label ∷ rest) → IsLabel label
label_among [] label rest all = all.0
label_among (l ∷ before) label rest all = label_among before label rest all.1

-- one more label comes before the zero octet
pub wire-push : (name : List (List ℕ)) (label : List ℕ)
    → wire (name ++ label ∷ []) ≡ flat_map label_octets name ++ (label_octets label ++ 0 ∷ [])
wire-push name label = simp (flat_map-append, append_assoc, append-nil)

-- one more label takes its octets and one
pub length-wire-push : (name : List (List ℕ)) (label : List ℕ)
    → length (wire (name ++ label ∷ [])) ≡ length (wire name) + length label + 1
length-wire-push name label = rw wire-push (simp length-append (omega (arith)))

-- one more label after labels
pub all_push : (name : List (List ℕ)) (label : List ℕ) → AllByRecursion IsLabel name
    → IsLabel label → AllByRecursion IsLabel (name ++ label ∷ [])
all_push [] label all one = (one, tt)
all_push (l ∷ name) label all one = (all.0, all_push name label all.1 one)

-- a name with one more label is one, where there is room
pub named_push : (name : List (List ℕ)) (label : List ℕ) → IsName name → IsLabel label
    → length (wire name) + length label < LONGEST_NAME → IsName (name ++ label ∷ [])
named_push name label named one room = record {
  labels = all_push name label named.labels one;
  fits = rw (length-wire-push name label) (omega arith);
}

-- each label takes an octet at least
pub count_le : (name : List (List ℕ)) → length name ≤ length (flat_map label_octets name)
count_le [] = omega arith
count_le (l ∷ name) =
    rw (length-append (label_octets l) (flat_map label_octets name)) (omega (arith, count_le name))

-- lower case is in lower case
pub lower-lower : (label : List ℕ) → lower (lower label) ≡ lower label
lower-lower [] = refl
lower-lower (c ∷ label) = rw (lowercase-lowercase c, lower-lower label) refl

-- what is as long as a label is one in lower case
pub label_lower : (label : List ℕ) → 0 < length label → length label ≤ LONGEST_LABEL
    → IsLabel (lower label)
label_lower label some short =
    let n = length-map label to_ascii_lowercase in
    record { some = omega (arith, n); short = omega (arith, n); lowered = lower-lower label }

-- the labels of a name are in lower case
pub lower_all-same : (name : List (List ℕ)) → AllByRecursion IsLabel name → lower_all name ≡ name
lower_all-same [] all = refl
lower_all-same (l ∷ name) all =
    ap (λ (x : List ℕ). x ∷ lower_all name) all.0.lowered
    ∙ ap (λ (x : List (List ℕ)). l ∷ x) (lower_all-same name all.1)

-- lower case leaves the length octet as it is
pub lower-frame : (label : List ℕ) → length label ≤ LONGEST_LABEL
    → lower (label_octets label) ≡ label_octets (lower label)
lower-frame label short =
    let n = length-map label to_ascii_lowercase in
    let low : length label < 65 = omega arith in
    rw (n, (lowercase_is (length label)).1 low) refl

lower-frames : (name : List (List ℕ)) → AllByRecursion IsAnyCase name
    → lower (flat_map label_octets name) ≡ flat_map label_octets (lower_all name)
lower-frames [] all = refl
lower-frames (l ∷ name) all =
    map-append to_ascii_lowercase (label_octets l) (flat_map label_octets name)
    ∙ (ap (λ (x : List ℕ). x ++ lower (flat_map label_octets name)) (lower-frame l all.0.1)
    ∙ ap (λ (x : List ℕ). label_octets (lower l) ++ x) (lower-frames name all.1))

-- the octets of a name in lower case are those of its labels in lower case
pub lower-wire : (name : List (List ℕ)) → AllByRecursion IsAnyCase name
    → lower (wire name) ≡ wire (lower_all name)
lower-wire name all =
    map-append to_ascii_lowercase (flat_map label_octets name) (0 ∷ [])
    ∙ ap (λ (x : List ℕ). x ++ 0 ∷ []) (lower-frames name all)
