-- Octets that are those of a name in lower case.
-- Serves `run_at`, `after_name`, `are_plain`, `read_plain_query`, `write_query`, `write_reply`, the
-- laws `query_reads_back`, `reply_reads_back`.
use Rattle.std.proofs.Common.{◌≡◌, ℕ, ◌≤◌, List, [], ◌∷◌, ◌++◌, length, take, drop, refl, sym, ap, ◌∙◌, arith, append_assoc}
use Rattle.std.proofs.Math.Seq.{drop-append_seam, take-append_seam}
use Rattle.std.proofs.lemmas.List.{length-map, take-map, take-append-drop}
use Rattle.std.proofs.lemmas.Str.Ascii.{lowercase_is}
use Rattle.std.specs.List.{flat_map, AllByRecursion, drop-map}
use Rattle.std.specs.Char.{to_ascii_lowercase}
use Rattle.fleet_name.specs.Name.{label_octets, wire, lower, lower_all, IsLabel}

-- no other octet becomes a small one
lower_small : (c k : ℕ) → to_ascii_lowercase c ≡ k → k ≤ 63 → c ≡ k
lower_small c k e small = grind (arith, lowercase_is c)

first_of : List ℕ → ℕ
first_of [] = 0
first_of (c ∷ cs) = c

-- octets that are a name's in lower case are those of labels
pub labels_spelled : (n : List (List ℕ)) (octets : List ℕ) → AllByRecursion IsLabel n
    → lower octets ≡ wire n
    → (labels : List (List ℕ)) × (octets ≡ wire labels) × (lower_all labels ≡ n)
unfolding first_of
labels_spelled [] [] all e = absurd (omega (arith, ap length e))
labels_spelled [] (c ∷ []) all e =
    ([], ap (λ (x : ℕ). x ∷ []) (lower_small c 0 (ap first_of e) (omega arith)), refl)
labels_spelled [] (c ∷ d ∷ cs) all e = absurd (omega (arith, ap length e))
labels_spelled (l ∷ n) [] all e = absurd (omega (arith, ap length e))
labels_spelled (l ∷ n) (c ∷ cs) all e =
    let k = length l in let front = take k cs in let rest = drop k cs in
    let whole : lower (c ∷ cs) ≡ k ∷ (l ++ wire n) =
    e ∙ append_assoc (label_octets l) (flat_map label_octets n) (0 ∷ []) in
    let others_are : lower cs ≡ l ++ wire n = ap (λ (x : List ℕ). drop 1 x) whole in
    let one : lower front ≡ l =
    sym (take-map to_ascii_lowercase k cs)
    ∙ (ap (λ (x : List ℕ). take k x) others_are ∙ take-append_seam l (wire n)) in
    let more : lower rest ≡ wire n =
    sym (drop-map to_ascii_lowercase k cs)
    ∙ (ap (λ (x : List ℕ). drop k x) others_are ∙ drop-append_seam l (wire n)) in
    let others = labels_spelled n rest all.1 more in
    let size : length front ≡ k = sym (length-map front to_ascii_lowercase) ∙ ap length one in
    let counted : c ≡ length front = lower_small c k (ap first_of whole) all.0.short ∙ sym size in
    let octets : c ∷ cs ≡ label_octets front ++ wire others.0 =
    ap (λ (x : ℕ). x ∷ cs) counted
    ∙ ap (λ (x : List ℕ). length front ∷ x)
    (sym (take-append-drop k cs) ∙ ap (λ (x : List ℕ). front ++ x) others.1) in (
      front ∷ others.0,
      octets ∙ sym (append_assoc (label_octets front) (flat_map label_octets others.0) (0 ∷ [])),
      ap (λ (x : List ℕ). x ∷ lower_all others.0) one ∙ ap (λ (x : List (List ℕ)). l ∷ x) others.2,
    )
