-- The order of a name, dominance and what a cut hides keep the laws of a ranked type. This is a
-- proof: it is in specs/ since the laws of a trait may cite nothing else of their own crate.
-- Serves the fronts below `Cache`.
use Rattle.std.specs.Prelude.{◌≡◌, true, not, ◌&&◌, nat_le, Option, Some, None}
use Rattle.std.specs.declared.cmp.Ordering.TheVariants.{Equal, Greater}
use Rattle.std.specs.Cmp.{Equal-is}
use Rattle.std.specs.Ordering.{is_eq, is_gt}
use Rattle.std.proofs.Common.{inl, inr, sym, ap, ◌∙◌, arith}
use mathlib.Core.Bool.{false≢true}
use Rattle.std.specs.Ordering.{nat_cmp, ordering_then}
use Rattle.std.specs.Cmp.{IsTotalOrder}
use Rattle.std.proofs.lemmas.Cmp.{on_total, then_total, back_total, nat_cmp_total, nat_list_cmp_total, tied_itself}
use Rattle.std.proofs.lemmas.Map.Lookups.{exact_bytes}
use Rattle.std.proofs.lemmas.Bool.{and_parts, and_from, or_cases, or_left, or_right}
use Rattle.std.proofs.lemmas.Bool.Decides.{nat_tests}
use Rattle.fleet_wire.specs.Types.{Seconds}
use Rattle.fleet_front.specs.Front.{RankedLaws}
use Rattle.fleet_front.proofs.Lemmas.{greater_from}
use Rattle.fleet_observe.specs.Observation.{ObservationData, expires, key_of, kind_number}
use Rattle.fleet_observe.specs.Preference.{octets_cmp, preference, preference_total}
use Rattle.fleet_observe.proofs.Lemmas.{key_exact, then_parts, preference_exact, preferred_chain}
use Rattle.fleet_cache.specs.Void.{is_flush}
use Rattle.fleet_cache.specs.Live.{has_ended}
use Rattle.fleet_cache.specs.Cut.{CutData, is_flushed, is_hidden}
use Rattle.fleet_cache.specs.Dominates.{dominates, is_same_key}
use Rattle.fleet_cache.specs.steps.Row.{row}

-- what dominance says, part by part
pub record Over (p o : ObservationData) : Type 0 where
  pub same_key : key_of p ≡ key_of o
  pub preferred : preference p o ≡ Greater
  pub outlives : nat_le (expires o) (expires p) ≡ true
  pub later : nat_le o.stamp p.stamp ≡ true

-- dominance, taken apart
pub over_from : (p o : ObservationData) → dominates p o ≡ true → Over p o
over_from p o e =
    let a =
    and_parts (is_same_key p o) (is_gt (preference p o) && (nat_le (expires o) (expires p)
    && nat_le o.stamp p.stamp)) e in
    let b = and_parts (is_gt (preference p o)) (nat_le (expires o) (expires p)
    && nat_le o.stamp p.stamp) a.1 in
    let d = and_parts (nat_le (expires o) (expires p)) (nat_le o.stamp p.stamp) b.1 in
    record {
      same_key = exact_bytes _ _ ((Equal-is _).0 a.0);
      preferred = greater_from _ b.0;
      outlives = d.0;
      later = d.1;
    }

-- dominance, from its parts
pub over_to : (p o : ObservationData) → Over p o → dominates p o ≡ true
over_to p o over =
    let same : octets_cmp (key_of p) (key_of o) ≡ Equal =
    ap (λ k. octets_cmp k (key_of o)) over.same_key
    ∙ tied_itself nat_list_cmp_total (key_of o) in
    and_from _ _ (ap is_eq same)
    (and_from _ _ (ap is_gt over.preferred) (and_from _ _ over.outlives over.later))

-- what dominates one observation dominates what that dominates
pub over_chain : (x y z : ObservationData) → dominates x y ≡ true → dominates y z ≡ true
    → dominates x z ≡ true
over_chain x y z e f =
    let a = over_from x y e in
    let b = over_from y z f in
    over_to x z (record {
      same_key = a.same_key ∙ b.same_key;
      preferred = preferred_chain x y z a.preferred b.preferred;
      outlives = grind (arith, nat_tests, a.outlives, b.outlives);
      later = grind (arith, nat_tests, a.later, b.later);
    })

-- where one has ended, so has what it dominates
pub ended_below : (t : Seconds) (x y : ObservationData) → has_ended t x ≡ true → dominates x y ≡ true
    → has_ended t y ≡ true
ended_below t x y e f = let a = over_from x y f in grind (arith, nat_tests, a.outlives, e)

-- the order of a name is total
pub row_total : IsTotalOrder row
row_total =
    then_total (on_total (λ (x : ObservationData). kind_number x.kind) (back_total nat_cmp_total))
    (then_total (on_total (λ (x : ObservationData). x.rtype) (back_total nat_cmp_total))
    preference_total)

-- only equal observations are equal in the order of a name
pub row_exact : (x y : ObservationData) → row x y ≡ Equal → x ≡ y
row_exact x y e =
    let a = then_parts (nat_cmp (kind_number y.kind) (kind_number x.kind)) _ e in
    let b = then_parts (nat_cmp y.rtype x.rtype) (preference x y) a.1 in
    preference_exact x y b.1

-- within a kind and a type, the preferred comes first
pub row_of_key : (x y : ObservationData) → x.kind ≡ y.kind → x.rtype ≡ y.rtype
    → row x y ≡ preference x y
row_of_key x y kind rtype =
    let k : nat_cmp (kind_number y.kind) (kind_number x.kind) ≡ Equal =
    ap (λ v. nat_cmp (kind_number y.kind) (kind_number v)) kind
    ∙ tied_itself nat_cmp_total (kind_number y.kind) in
    let r : nat_cmp y.rtype x.rtype ≡ Equal =
    ap (nat_cmp y.rtype) rtype ∙ tied_itself nat_cmp_total y.rtype in
    ap (λ v. ordering_then v (ordering_then (nat_cmp y.rtype x.rtype) (preference x y))) k
    ∙ ap (λ v. ordering_then v (preference x y)) r

row_over : (x y : ObservationData) → dominates x y ≡ true → row x y ≡ Greater
row_over x y e =
    let a = over_from x y e in
    let k = key_exact x.name y.name x.kind y.kind x.rtype y.rtype a.same_key in
    row_of_key x y k.1 k.2 ∙ a.preferred

-- what is dominated is of the same kind
same_kind : (x y : ObservationData) → dominates x y ≡ true → x.kind ≡ y.kind
same_kind x y e =
    (key_exact x.name y.name x.kind y.kind x.rtype y.rtype (over_from x y e).same_key).1

flushed_below : (stamp : Option Seconds) (x y : ObservationData) → is_flushed stamp x ≡ true
    → dominates x y ≡ true → is_flushed stamp y ≡ true
flushed_below None x y e f = absurd (false≢true e)
flushed_below (Some stamp) x y e f =
    let p = and_parts (not (is_flush x.kind)) (nat_le x.stamp stamp) e in
    let later = (over_from x y f).later in
    and_from _ _ (ap (λ k. not (is_flush k)) (sym (same_kind x y f)) ∙ p.0)
    (grind (arith, nat_tests, later, p.1))

-- what a cut hides, it hides with all that this dominates
pub hidden_below : (c : CutData) (x y : ObservationData) → is_hidden c x ≡ true
    → dominates x y ≡ true → is_hidden c y ≡ true
hidden_below c x y e f =
    elim (or_cases (is_flushed c.flushed x) (has_ended c.moment x) e) [
      | inl withdrawn ↦ or_left _ _ (flushed_below c.flushed x y withdrawn f)
      | inr end ↦ or_right _ _ (ended_below c.moment x y end f)
    ]

-- the laws of a ranked type, which `fleet_front` asks for
pub cut_laws : RankedLaws row dominates is_hidden
cut_laws = record {
  total = row_total;
  exact = row_exact;
  chained = over_chain;
  greater = row_over;
  hides_below = hidden_below;
}
