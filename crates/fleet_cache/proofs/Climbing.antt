-- The way up from a name, one label after another.
-- Serves `flush_above`, `preferred_above`, `next_above`.
use Rattle.std.proofs.Common.{ℕ, ◌≡◌, ◌<◌, ◌≤◌, Bool, List, [], ◌∷◌, ◌++◌, length, Option, sym, ap, ◌∙◌, subst, arith, length-append}
use Rattle.fleet_name.specs.Name.{wire, IsWire, IsUnder}
use Rattle.fleet_observe.specs.Members.{Has}
use Rattle.fleet_name.proofs.Lemmas.{wire_cons}
use Rattle.fleet_observe.specs.declared.observation.kind.Kind.{Kind}
use Rattle.fleet_observe.specs.Observation.{ObservationData}
use Rattle.fleet_cache.specs.steps.Best.{IsBest, IsOn, IsAbove, IsParent}
use Rattle.fleet_cache.specs.Answer.{better_of}
use Rattle.fleet_cache.proofs.Best.{best_same, above_more}

-- the octets of the name above are those of a name
pub parent_wired : (n : List (List ℕ)) (above : List ℕ) → IsParent n above → IsWire above
parent_wired n above p = record { name = p.rest; named = p.named; whole = p.whole }

-- and fewer
pub parent_shorter : (name : List ℕ) (n : List (List ℕ)) (above : List ℕ) → name ≡ wire n
    → IsParent n above → length above < length name
parent_shorter name n above is p =
    let up = ap length p.whole in
    let all = ap length (is ∙ (ap wire p.is ∙ wire_cons p.label p.rest)) in
    let parts = length-append p.label (wire p.rest) in
    omega (arith, up, all, parts)

-- the root is below no other name
pub root_alone : (n a : List (List ℕ)) → n ≡ [] → IsUnder n a → a ≡ n
root_alone n a root under = only under.0 a (sym root ∙ under.1) ∙ sym root
  where
    only : (front b : List (List ℕ)) → [] ≡ front ++ b → b ≡ []
    only [] b e = sym e
    only (l ∷ front) b e = absurd (cc)

-- a name above has fewer octets
pub above_longer : (n a : List (List ℕ)) (name : List ℕ) → name ≡ wire n → IsUnder n a
    → length name ≤ length (wire a) → a ≡ n
above_longer n a name is under longer = only under.0 a under.1
    (let whole = ap length is in omega (arith, longer, whole))
  where
    size : (front b : List (List ℕ)) → length (wire b) ≤ length (wire (front ++ b))
    size [] b = omega arith
    size (l ∷ front) b =
        let all = ap length (wire_cons l (front ++ b)) in
        let parts = length-append l (wire (front ++ b)) in
        let rest = size front b in
        omega (arith, all, parts, rest)

    only : (front b : List (List ℕ)) → n ≡ front ++ b → length (wire n) ≤ length (wire b) → b ≡ n
    only [] b e le = sym e
    only (l ∷ front) b e le = absurd (
        let whole = ap (λ v. length (wire v)) e in
        let all = ap length (wire_cons l (front ++ b)) in
        let parts = length-append l (wire (front ++ b)) in
        let rest = size front b in
        omega (arith, le, whole, all, parts, rest))

module _ (lives : ObservationData → Bool) (kind : Kind) (items : List ObservationData)
    (n : List (List ℕ)) where
  -- where nothing is above
  pub at_top : (a : Option ObservationData)
      → ((o : ObservationData) → Has items o → o.kind ≡ kind → IsUnder n o.name → o.name ≡ n)
      → IsBest (IsOn lives n kind 0) items a → IsBest (IsAbove lives kind n) items a
  at_top a top best = best_same (IsOn lives n kind 0) (IsAbove lives kind n) items a
      (λ o h k. record {
        live = k.live;
        under = ([], sym k.named);
        of_kind = k.of_kind;
        of_type = k.of_type;
      })
      (λ o h k. record {
        live = k.live;
        named = top o h k.of_kind k.under;
        of_kind = k.of_kind;
        of_type = k.of_type;
      })
      best

  -- at the root, nothing does
  pub at_root : (a : Option ObservationData) → n ≡ [] → IsBest (IsOn lives n kind 0) items a
      → IsBest (IsAbove lives kind n) items a
  at_root a root best = at_top a (λ o h k under. root_alone n o.name root under) best

  -- what is at a name or above it is found by the name above
  pub one_up : (above : List ℕ) (p : IsParent n above) (a b r : Option ObservationData)
      → r ≡ better_of a b → IsBest (IsOn lives n kind 0) items a
      → IsBest (IsAbove lives kind p.rest) items b → IsBest (IsAbove lives kind n) items r
  one_up above p a b r is best more =
      subst (λ v. IsBest (IsAbove lives kind n) items v) (sym is)
      (subst (λ v. IsBest (IsAbove lives kind v) items (better_of a b)) (sym p.is)
      (above_more lives kind p.label p.rest items a b
      (subst (λ v. IsBest (IsOn lives v kind 0) items a) p.is best) more))
