-- What the functions make of the octets of a name.
-- Serves `Name::from_spelled`, `Name::is_under`, `Name::push`, `Name::root`, `after_labels`,
-- `lower_octets`, `push_labels`.
use Rattle.std.proofs.Common.{◌≡◌, ℕ, suc, ◌+◌, ◌-◌, ◌<◌, ◌≤◌, List, [], ◌∷◌, ◌++◌, length, take, drop, get_or, set, refl, sym, ap, ◌∙◌, append_assoc, arith, length-append, drop-cons, add-one}
use Rattle.std.proofs.lemmas.List.{length-map, map-append, append-nil, take-append-drop, take_more, length-take-le, set_at}
use Rattle.std.proofs.Math.Seq.{drop-append_seam, take-append_seam, get_or-append_seam, drop-length, take-length}
use Rattle.std.specs.Char.{to_ascii_lowercase}
use Rattle.std.specs.List.{flat_map}
use Rattle.fleet_name.specs.declared.bounds.TheConstants.{LONGEST_LABEL, LONGEST_NAME}
use Rattle.fleet_name.specs.Name.{label_octets, wire, lower, lower_all, IsName, IsUnder, IsSpelling, Spells, labels_of}
use Rattle.fleet_name.proofs.Lemmas.{any_case-from_lower, count_le, label_lower, labels_of-spelled, lower-wire, named_push, wire-push, wire_exact}

-- octets and a count that are those of a name
pub spells : (octets : List ℕ) (count : ℕ) (name : List (List ℕ)) → IsName name → octets ≡ wire name
    → count ≡ length name → Spells octets count (labels_of octets)
spells octets count name named e counted =
    let is = labels_of-spelled octets name named.labels e in
    rw is (record { whole = e; counted = counted; lawful = named })

-- what a name loses when its last octet, the zero, goes
pub take-wire : (name : List (List ℕ))
    → take (length (wire name) - 1) (wire name) ≡ flat_map label_octets name
take-wire name =
    let n : length (wire name) - 1 ≡ length (flat_map label_octets name) =
    rw (length-append (flat_map label_octets name) (0 ∷ [])) (omega arith) in
    rw (n, take-append_seam (flat_map label_octets name) (0 ∷ [])) refl

-- the octets from the k-th label on: its length, and after it those from the next label on
module _ (name : List (List ℕ)) (k : ℕ) (within : k < length name) where
  pub first_octet : get_or (wire (drop k name)) 0 0 ≡ length (get_or name k [])
  first_octet = rw (drop-cons name k [] within) refl

  pub octets_of_first : length (get_or name k []) + 1 ≤ length (wire (drop k name))
  octets_of_first = rw (drop-cons name k [] within) (simp length-append (omega arith))

  pub wire-drop : drop (length (get_or name k []) + 1) (wire (drop k name))
      ≡ wire (drop (k + 1) name)
  wire-drop =
      let label = get_or name k [] in let rest = drop (suc k) name in
      rw (add-one (length label), add-one k, drop-cons name k [] within, append_assoc)
      (drop-append_seam label (wire rest))

-- where the last labels have the octets of the other name, it is an ancestor
pub under_from_octets : (n a : List (List ℕ)) (k : ℕ) → wire (drop k n) ≡ wire a → IsUnder n a
under_from_octets n a k e =
    let same = wire_exact (drop k n) a e in
    (take k n, sym (take-append-drop k n) ∙ ap (λ (ls : List (List ℕ)). take k n ++ ls) same)

pub octets_from_under : (n a : List (List ℕ)) → IsUnder n a
    → wire (drop (length n - length a) n) ≡ wire a
octets_from_under n a under =
    let k : length n - length a ≡ length under.0 =
    rw (ap length under.1, length-append under.0 a) (omega arith) in
    rw (k, under.1) (ap wire (drop-append_seam under.0 a))

pub count_le-wire : (name : List (List ℕ)) → length name ≤ length (wire name)
count_le-wire name =
    rw (length-append (flat_map label_octets name) (0 ∷ [])) (omega (arith, count_le name))

-- What push makes of the octets of a name. The name is known by what its octets spell.
module _ (old new label : List ℕ) (count : ℕ) (name : List (List ℕ)) (is : labels_of old ≡ name)
    (spelled : Spells old count (labels_of old))
    (e : new ≡ take (length old - 1) old ++ (label_octets (lower label) ++ 0 ∷ []))
    (some : 0 < length label) (short : length label ≤ LONGEST_LABEL)
    (room : length old + length label + 1 ≤ LONGEST_NAME) where
  whole : old ≡ wire name
  whole = rw is at spelled.whole

  pub pushed_octets : new ≡ wire (name ++ lower label ∷ [])
  pushed_octets = rw (e, whole, take-wire name, wire-push name (lower label)) refl

  pub pushed_named : IsName (name ++ lower label ∷ [])
  pushed_named =
      let n = length-map label to_ascii_lowercase in let w = ap length whole in
      named_push name (lower label) (rw is at spelled.lawful) (label_lower label some short)
      (omega (arith, n, w))

  pub pushed_is : labels_of new ≡ name ++ lower label ∷ []
  pushed_is = labels_of-spelled new (name ++ lower label ∷ []) pushed_named.labels pushed_octets

  pub pushed_spells : Spells new (count + 1) (labels_of new)
  pushed_spells =
      let n : count ≡ length name = spelled.counted ∙ ap length is in
      spells new (count + 1) (name ++ lower label ∷ []) pushed_named pushed_octets
      (rw (n, length-append name (lower label ∷ [])) refl)

seam_read : (front : List ℕ) (x : ℕ) (rest : List ℕ) (i : ℕ) → length front ≡ i
    → get_or (front ++ x ∷ rest) i 0 ≡ x
seam_read front x rest i n = rw (← n) (get_or-append_seam front x rest 0)

-- one more octet of a list is put in lower case
pub lower_more : (xs : List ℕ) (i : ℕ) (now : List ℕ) → i < length xs
    → now ≡ lower (take i xs) ++ drop i xs
    → set now i (to_ascii_lowercase (get_or now i 0)) ≡ lower (take (i + 1) xs) ++ drop (i + 1) xs
lower_more xs i now within is =
    let x = get_or xs i 0 in let front = lower (take i xs) in let rest = drop (suc i) xs in
    let n : length front ≡ i =
    length-map (take i xs) to_ascii_lowercase ∙ length-take-le i xs (omega arith) in
    let now_is : now ≡ front ++ x ∷ rest =
    is ∙ ap (λ (ys : List ℕ). front ++ ys) (drop-cons xs i 0 within) in
    let read : get_or now i 0 ≡ x =
    ap (λ (ys : List ℕ). get_or ys i 0) now_is ∙ seam_read front x rest i n in
    let wrote : set now i (to_ascii_lowercase x) ≡ front ++ to_ascii_lowercase x ∷ rest =
    ap (λ (ys : List ℕ). set ys i (to_ascii_lowercase x)) now_is
    ∙ set_at front x rest (to_ascii_lowercase x) i n in
    let lowered : lower (take (i + 1) xs) ≡ front ++ to_ascii_lowercase x ∷ [] =
    ap lower (take_more xs i 0 within) ∙ map-append to_ascii_lowercase (take i xs) (x ∷ []) in
    rw read (wrote ∙ rw (lowered, append_assoc, add-one i) refl)

-- a whole slice of a vector written back
pub written_back : (n : ℕ) (old new : List ℕ) → n ≡ length old → length new ≡ length old
    → take n (new ++ drop (length new) old) ≡ new
written_back n old new e same = rw (same, drop-length old, append-nil, e, ← same) (take-length new)

pub lowered_spells : (octets new : List ℕ) (count : ℕ) → IsSpelling octets
    → count ≡ length (labels_of octets) → new ≡ lower octets
    → Spells new count (lower_all (labels_of octets))
lowered_spells octets new count spelled counted is =
    record {
      whole =
          is ∙ (ap lower spelled.whole
          ∙ lower-wire (labels_of octets)
          (any_case-from_lower (labels_of octets) spelled.lawful.labels));
      counted = counted ∙ sym (length-map (labels_of octets) lower);
      lawful = spelled.lawful;
    }

pub labels_of-Spells : (octets : List ℕ) (count : ℕ) (name : List (List ℕ))
    → Spells octets count name → labels_of octets ≡ name
labels_of-Spells octets count name s = labels_of-spelled octets name s.lawful.labels s.whole
