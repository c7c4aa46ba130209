-- A name without its first labels.
-- Serves `is_under`.
use Rattle.std.proofs.Common.{◌≡◌, ℕ, ◌+◌, ◌<◌, ◌≤◌, List, [], ◌∷◌, ◌++◌, length, get_or, drop, refl, sym, ap, ◌∙◌, arith, length-append}
use Rattle.fleet_name.specs.Name.{label_octets, wire, IsName, IsUnder}
use Rattle.fleet_name.proofs.Lemmas.{wire_cons, wire_some, wire_exact, named_rest}

drop_front : (xs ys : List ℕ) → drop (length xs) (xs ++ ys) ≡ ys
drop_front [] ys = refl
drop_front (x ∷ xs) ys = grind (arith, drop_front xs ys)

-- Octets of a name that is longer than another one.
module _ (rest : List ℕ) (first : ℕ) (is_first : first ≡ get_or rest 0 0) where
  pub record IsCut (left : List (List ℕ)) : Type 0 where
    pub label : List ℕ
    pub behind : List (List ℕ)
    pub left_is : left ≡ label ∷ behind
    pub within : first + 1 ≤ length rest
    pub cut : drop (first + 1) rest ≡ wire behind

  pub drop_first : (left : List (List ℕ)) → rest ≡ wire left → 1 < length rest → IsCut left
  drop_first [] e some = absurd (omega (arith, some, ap length e))
  drop_first (label ∷ left) e some =
      let whole : rest ≡ length label ∷ (label ++ wire left) = e ∙ wire_cons label left in
      let n : first ≡ length label = is_first ∙ ap (λ (x : List ℕ). get_or x 0 0) whole in
      record {
        label = label;
        behind = left;
        left_is = refl;
        within = omega (arith, n, ap length whole, length-append label (wire left), wire_some left);
        cut = rw (whole, n) (grind (arith, drop_front label (wire left)));
      }

pub name_behind : (left : List (List ℕ)) (label : List ℕ) (behind : List (List ℕ))
    → left ≡ label ∷ behind → IsName left → IsName behind
name_behind left label behind e named = named_rest label behind (rw (← e) named)

pub under_behind : (left : List (List ℕ)) (label : List ℕ) (behind a : List (List ℕ))
    → left ≡ label ∷ behind → length (wire a) < length (wire left) → IsUnder left a
    → IsUnder behind a
under_behind left label behind a e long ([], is) =
    absurd (omega (arith, long, ap (λ (x : List (List ℕ)). length (wire x)) is))
under_behind left label behind a e long (x ∷ front, is) = let h : label ∷ behind ≡ x
    ∷ (front ++ a) = sym e ∙ is in (front, cc)

pub under_before : (left : List (List ℕ)) (label : List ℕ) (behind a : List (List ℕ))
    → left ≡ label ∷ behind → IsUnder behind a → IsUnder left a
under_before left label behind a e (front, is) =
    (label ∷ front, e ∙ ap (λ (x : List (List ℕ)). label ∷ x) is)

pub under_same : (left a : List (List ℕ)) → length (wire left) ≤ length (wire a) → IsUnder left a
    → left ≡ a
under_same left a short ([], is) = is
under_same left a short (x ∷ front, is) =
    absurd (omega (
      arith,
      short,
      ap (λ (y : List (List ℕ)). length (wire y)) is,
      ap length (wire_cons x (front ++ a)),
      length-append (label_octets x) (wire (front ++ a)),
      longer front a,
    ))
  where
    longer : (front a : List (List ℕ)) → length (wire a) ≤ length (wire (front ++ a))
    longer [] a = omega arith
    longer (y ∷ front) a = omega (
      arith,
      longer front a,
      ap length (wire_cons y (front ++ a)),
      length-append (label_octets y) (wire (front ++ a)),
    )

pub under_self : (left a : List (List ℕ)) → wire left ≡ wire a → IsUnder left a
under_self left a e = ([], wire_exact left a e)
