-- The tests for names and for those below them.
-- Serves what `Answers`, `TestsHold`, `Voids` serve, and fleet_gossip, fleet_world.
use Rattle.std.proofs.Common.{ℕ, ◌≡◌, true, List, [], ◌∷◌, ◌++◌, inl, inr, sym, ap, ◌∙◌}
use Rattle.std.specs.Ordering.{is_eq}
use Rattle.std.specs.Cmp.{Equal-is}
use Rattle.std.proofs.lemmas.Cmp.{tied_itself, nat_list_cmp_total}
use Rattle.std.proofs.lemmas.Map.Lookups.{exact_bytes}
use Rattle.std.proofs.lemmas.Bool.{or_cases, or_left, or_right}
use Rattle.fleet_name.specs.Name.{wire, IsUnder}
use Rattle.fleet_name.proofs.Lemmas.{wire_exact}
use Rattle.fleet_observe.specs.Preference.{octets_cmp}
use Rattle.fleet_cache.specs.Relevant.{is_name, is_under}

pub name_from : (n a : List (List ℕ)) → is_name n a ≡ true → a ≡ n
name_from n a e = wire_exact a n (exact_bytes _ _ ((Equal-is _).0 e))

pub name_to : (n a : List (List ℕ)) → a ≡ n → is_name n a ≡ true
name_to n a e = ap is_eq (ap (λ v. octets_cmp (wire v) (wire n)) e
    ∙ tied_itself nat_list_cmp_total (wire n))

pub under_from : (n a : List (List ℕ)) → is_under n a ≡ true → IsUnder n a
under_from [] a e = ([], sym (name_from [] a e))
under_from (l ∷ n) a e = elim (or_cases (is_name (l ∷ n) a) (is_under n a) e) [
  | inl here ↦ ([], sym (name_from (l ∷ n) a here))
  | inr up ↦ let u = under_from n a up in (l ∷ u.0, ap (λ v. l ∷ v) u.1)
]

pub under_to : (n a front : List (List ℕ)) → n ≡ front ++ a → is_under n a ≡ true
under_to [] a [] e = name_to [] a (sym e)
under_to [] a (l ∷ front) e = absurd (cc)
under_to (m ∷ n) a [] e = or_left (is_name (m ∷ n) a) (is_under n a) (name_to (m ∷ n) a (sym e))
under_to (m ∷ n) a (l ∷ front) e = let t : n ≡ front ++ a = cc
    in or_right (is_name (m ∷ n) a) (is_under n a) (under_to n a front t)
