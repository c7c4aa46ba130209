-- What flushes withdraw: the tests, and what is withdrawn with what dominates it.
-- Serves what `Beats`, `Caches`, `Holdings`, `IsStale`, `Past`, `TestsHold` serve, and
-- fleet_gossip, fleet_world.
use Rattle.std.proofs.Common.{◌≡◌, ◌≤◌, true, false, not, ◌&&◌, nat_le, List, [], ◌∷◌, inl, inr, sym, ap, refl, ◌∙◌, subst, arith}
use mathlib.Core.Bool.{false≢true}
use Rattle.std.proofs.lemmas.Bool.{cases_Bool, and_parts, and_from, or_cases, or_left, or_right}
use Rattle.std.proofs.lemmas.Bool.Decides.{nat_tests}
use Rattle.fleet_name.specs.Name.{IsUnder}
use Rattle.fleet_observe.specs.Members.{Has}
use Rattle.fleet_observe.specs.declared.bounds.TheConstants.{LONGEST_LIFE}
use Rattle.fleet_observe.specs.declared.observation.kind.Kind.{Kind}
use Rattle.fleet_observe.specs.declared.observation.kind.Kind.TheVariants.{NameError, NoData, Positive, Flush}
use Rattle.fleet_observe.specs.Observation.{ObservationData, IsObservation, expires}
use Rattle.fleet_cache.specs.Relevant.{is_under}
use Rattle.fleet_cache.specs.Void.{Voids, IsVoid, is_flush, voids, is_void}
use Rattle.fleet_cache.specs.Dominates.{dominates}
use Rattle.fleet_cache.specs.steps.Orders.{over_from}
use Rattle.fleet_cache.proofs.SameKeys.{key_parts}
use Rattle.fleet_cache.proofs.Under.{under_from, under_to}

pub flush_from : (k : Kind) → is_flush k ≡ true → k ≡ Flush
flush_from NameError e = absurd (false≢true e)
flush_from NoData e = absurd (false≢true e)
flush_from Positive e = absurd (false≢true e)
flush_from Flush e = refl

pub other_to : (k : Kind) → (k ≡ Flush → ⊥) → not (is_flush k) ≡ true
other_to NameError e = refl
other_to NoData e = refl
other_to Positive e = refl
other_to Flush e = absurd (e refl)

pub other_from : (k : Kind) → not (is_flush k) ≡ true → k ≡ Flush → ⊥
other_from k e is = false≢true (sym (ap (λ j. not (is_flush j)) is) ∙ e)

pub voids_from : (f o : ObservationData) → voids f o ≡ true → Voids f o
voids_from f o e =
    let a = and_parts (is_flush f.kind) (not (is_flush o.kind) && (is_under o.name f.name
    && nat_le o.stamp f.stamp)) e in
    let b = and_parts (not (is_flush o.kind)) (is_under o.name f.name && nat_le o.stamp f.stamp) a.1
    in
    let d = and_parts (is_under o.name f.name) (nat_le o.stamp f.stamp) b.1 in
    let later : o.stamp ≤ f.stamp = grind (arith, nat_tests, d.1) in
    record {
      flush = flush_from f.kind a.0;
      other = other_from o.kind b.0;
      under = under_from o.name f.name d.0;
      later = later;
    }

pub voids_to : (f o : ObservationData) → Voids f o → voids f o ≡ true
voids_to f o v =
    let later : nat_le o.stamp f.stamp ≡ true = grind (arith, nat_tests, v.later) in
    and_from _ _ (ap is_flush v.flush) (and_from _ _ (other_to o.kind v.other)
    (and_from _ _ (under_to o.name f.name v.under.0 v.under.1) later))

pub void_from : (s : List ObservationData) (o : ObservationData) → is_void s o ≡ true → IsVoid s o
void_from [] o e = absurd (false≢true e)
void_from (f ∷ s) o e = elim (or_cases (voids f o) (is_void s o) e) [
  | inl here ↦ (f, inl refl, voids_from f o here)
  | inr far ↦ let r = void_from s o far in (r.0, inr r.1, r.2)
]

pub void_to : (s : List ObservationData) (o : ObservationData) → IsVoid s o → is_void s o ≡ true
void_to [] o v = absurd v.1
void_to (f ∷ s) o v = elim v.1 [
  | inl here ↦ or_left (voids f o) (is_void s o)
      (voids_to f o (subst (λ g. Voids g o) (sym here) v.2))
  | inr far ↦ or_right (voids f o) (is_void s o) (void_to s o (v.0, far, v.2))
]

-- what is not void is withdrawn by no member
pub unvoided_by : (s : List ObservationData) (o f : ObservationData) → is_void s o ≡ false
    → Has s f → voids f o ≡ false
unvoided_by s o f e h = elim (cases_Bool (voids f o)) [
  | inr nay ↦ nay
  | inl yea ↦ absurd (false≢true (sym e ∙ void_to s o (f, h, voids_from f o yea)))
]

pub unvoided_to : (s : List ObservationData) (o : ObservationData)
    → ((f : ObservationData) → Has s f → voids f o ≡ false) → is_void s o ≡ false
unvoided_to s o none = elim (cases_Bool (is_void s o)) [
  | inr nay ↦ nay
  | inl yea ↦ let v = void_from s o yea
      in absurd (false≢true (sym (none v.0 v.1) ∙ voids_to v.0 o v.2))
]

-- what withdraws an observation withdraws all that it dominates
pub voids_below : (g w x : ObservationData) → Voids g w → dominates w x ≡ true → Voids g x
voids_below g w x v e =
    let over = over_from w x e in
    let key = key_parts w x over.same_key in
    let later : x.stamp ≤ g.stamp = grind (arith, nat_tests, over.later, v.later) in
    record {
      flush = v.flush;
      other = λ k. v.other (key.kind ∙ k);
      under = subst (λ n. IsUnder n g.name) key.name v.under;
      later = later;
    }

-- and what dominates what withdraws it withdraws it too
pub voids_over : (c g x : ObservationData) → dominates c g ≡ true → Voids g x → Voids c x
voids_over c g x e v =
    let over = over_from c g e in
    let key = key_parts c g over.same_key in
    let later : x.stamp ≤ c.stamp = grind (arith, nat_tests, over.later, v.later) in
    record {
      flush = key.kind ∙ v.flush;
      other = v.other;
      under = subst (IsUnder x.name) (sym key.name) v.under;
      later = later;
    }

-- a flush is withdrawn by none
pub flush_stays : (f o : ObservationData) → o.kind ≡ Flush → voids f o ≡ false
flush_stays f o e = elim (cases_Bool (voids f o)) [
  | inr nay ↦ nay
  | inl yea ↦ absurd ((voids_from f o yea).other e)
]

-- a flush lasts as long as all that it withdraws
pub void_outlived : (f o : ObservationData) → IsObservation f → IsObservation o → Voids f o
    → nat_le (expires o) (expires f) ≡ true
void_outlived f o lf lo v =
    let day : f.life ≡ LONGEST_LIFE = (lf.flush v.flush).life in
    let short : o.life ≤ LONGEST_LIFE = lo.life.1 in
    let later : o.stamp ≤ f.stamp = v.later in
    let longer : expires o ≤ expires f = omega (arith, day, short, later) in
    grind (arith, nat_tests, longer)
