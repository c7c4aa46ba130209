-- Octets that begin with a part, and what follows it.
-- Serves `behind_sized`, `behind_u16`, `is_negative_body`, `is_positive_body`.
use Rattle.std.proofs.Common.{◌≡◌, ◌≢◌, ℕ, ◌+◌, ◌<◌, ◌/◌, ◌%◌, ◌↔◌, Bool, false, List, [], ◌∷◌, ◌++◌, length, get_or, drop, Option, Some, None, MatchOption, IsTrue, Bor, sym, ap, ◌∙◌, subst, arith, append_assoc, length-append, eqb}
use mathlib.Core.Bool.{false≢true}
use Rattle.std.specs.List.{flat_map}
use Rattle.std.proofs.lemmas.List.{append_cancel_left, append-nil, nil_from_length}
use Rattle.std.proofs.lemmas.Bool.{eqb-true, eq-eqb}
use Rattle.fleet_wire.specs.Number.{u16_octets}
use Rattle.fleet_observe.specs.Body.{octets_with_length}
use Rattle.fleet_observe.proofs.Lists.{split_at}

-- what is after the part decides
pub behind_same : (s part rest y : List ℕ) → s ≡ part ++ rest → (s ≡ part ++ y) ↔ (rest ≡ y)
behind_same s part rest y e = (
  λ whole. append_cancel_left part rest y (sym e ∙ whole),
  λ same. e ∙ ap (λ (v : List ℕ). part ++ v) same,
)

-- a part after a part
pub behind_both : (s mid a b : List ℕ) (r : Option (Bor (List ℕ))) → s ≡ a ++ mid
    → MatchOption r ((rest : List ℕ) → mid ≢ b ++ rest) (λ rest. mid ≡ b ++ rest.now)
    → MatchOption r ((rest : List ℕ) → s ≢ (a ++ b) ++ rest) (λ rest. s ≡ (a ++ b) ++ rest.now)
behind_both s mid a b None e h = λ rest whole. h rest
    (append_cancel_left a mid (b ++ rest) (sym e ∙ (whole ∙ append_assoc a b rest)))
behind_both s mid a b (Some rest) e h =
    e ∙ (ap (λ (v : List ℕ). a ++ v) h ∙ sym (append_assoc a b rest.now))

-- the RDATAs from an index on
pub next_same : (rdatas : List (List ℕ)) (i : ℕ) (x rest next : List ℕ) → i < length rdatas
    → x ≡ get_or rdatas i x → rest ≡ octets_with_length x ++ next
    → (rest ≡ flat_map octets_with_length (drop i rdatas))
    ↔ (next ≡ flat_map octets_with_length (drop (i + 1) rdatas))
next_same rdatas i x rest next less at e =
    let behind = flat_map octets_with_length (drop (i + 1) rdatas) in
    let here : flat_map octets_with_length (drop i rdatas) ≡ octets_with_length x ++ behind =
    ap (flat_map octets_with_length) (split_at rdatas i x less at) in
    let same = behind_same rest (octets_with_length x) next behind e in
    (λ h. same.0 (h ∙ here), λ h. same.1 h ∙ sym here)

pub no_next : (rdatas : List (List ℕ)) (i : ℕ) (x rest : List ℕ) → i < length rdatas
    → x ≡ get_or rdatas i x → ((next : List ℕ) → rest ≢ octets_with_length x ++ next)
    → rest ≡ flat_map octets_with_length (drop i rdatas) → ⊥
no_next rdatas i x rest less at none h =
    none (flat_map octets_with_length (drop (i + 1) rdatas))
    (h ∙ ap (flat_map octets_with_length) (split_at rdatas i x less at))

-- one equivalence after another
pub both_ways : {P Q R : Type 0} → P ↔ Q → Q ↔ R → P ↔ R
both_ways pq qr = (λ p. qr.0 (pq.0 p), λ r. pq.1 (qr.1 r))

-- what does not hold is told by `false`
pub told_false : {P : Type 0} → (P → ⊥) → IsTrue false ↔ P
told_false none = (λ e. absurd (false≢true e), λ p. absurd (none p))

-- the octets of a number of two octets, as they are computed
pub u16_behind : (s octets : List ℕ) (n : ℕ) (r : Option (Bor (List ℕ))) → n < 65536
    → octets ≡ n / 256 % 256 ∷ n % 256 ∷ []
    → MatchOption r ((rest : List ℕ) → s ≢ octets ++ rest) (λ rest. s ≡ octets ++ rest.now)
    → MatchOption r ((rest : List ℕ) → s ≢ u16_octets n ++ rest)
    (λ rest. s ≡ u16_octets n ++ rest.now)
u16_behind s octets n r small e h =
    let high : n / 256 % 256 ≡ n / 256 = grind arith in
    let same : octets ≡ u16_octets n = e ∙ ap (λ (m : ℕ). m ∷ n % 256 ∷ []) high in
    subst (λ (v : List ℕ). MatchOption r ((rest : List ℕ) → s ≢ v ++ rest)
    (λ rest. s ≡ v ++ rest.now)) same h

-- the next one and those after it are no longer than all that is left
pub next_short : (rdatas : List (List ℕ)) (i : ℕ) (x : List ℕ) → i < length rdatas
    → x ≡ get_or rdatas i x
    → length x + 2 + length (flat_map octets_with_length (drop (i + 1) rdatas))
    ≡ length (flat_map octets_with_length (drop i rdatas))
next_short rdatas i x less at =
    let whole = ap (λ (v : List (List ℕ)). length (flat_map octets_with_length v))
    (split_at rdatas i x less at) in
    omega (
      arith,
      whole,
      length-append x (flat_map octets_with_length (drop (i + 1) rdatas)),
      length-append (octets_with_length x) (flat_map octets_with_length (drop (i + 1) rdatas)),
    )

-- nothing is left to compare with: what is left of the octets decides
pub told_empty : {P : Type 0} (rest y : List ℕ) (b : Bool) → b ≡ eqb (length rest) 0 → y ≡ []
    → P ↔ (rest ≡ y) → IsTrue b ↔ P
told_empty rest y b e none same = (
  λ told. same.1 (nil_from_length rest (eqb-true _ _ (sym e ∙ told)) ∙ sym none),
  λ p. e ∙ eq-eqb _ _ (ap length (same.0 p ∙ none)),
)

-- two parts, and what is after both
pub two_same : (s a b mid left : List ℕ) → s ≡ a ++ mid → mid ≡ b ++ left
    → (s ≡ a ++ b) ↔ (left ≡ [])
two_same s a b mid left e f =
    let first = behind_same s a mid b e in
    let second = behind_same mid b left [] f in (
      λ whole. second.0 (first.0 whole ∙ sym (append-nil b)),
      λ none. first.1 (second.1 none ∙ append-nil b),
    )
