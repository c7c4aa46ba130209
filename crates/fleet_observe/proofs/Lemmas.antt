-- The lemmas of this crate's words. Crates above cite these, and no other file of proofs/.
-- Serves `Observation::cmp`, `preference_laws`, the laws `one_key`, `one_lent`, what `Kept`,
-- `ObservationNegative`, `Orders` serve, and fleet_cache, fleet_gossip, fleet_site, fleet_world.
use Rattle.std.proofs.Common.{◌≡◌, ℕ, inl, inr, ◌/◌, ◌%◌, List, [], ◌∷◌, length, refl, sym, ap, ◌∙◌, arith, length-append}
use Rattle.std.specs.declared.cmp.Ordering.{Ordering}
use Rattle.std.specs.declared.cmp.Ordering.TheVariants.{Less, Equal, Greater}
use Rattle.std.specs.Ordering.{nat_cmp, ordering_then, ordering_reverse}
use Rattle.std.proofs.lemmas.Map.Lookups.{exact_unsigned, exact_bytes}
use Rattle.fleet_name.specs.Name.{wire}
use Rattle.fleet_name.proofs.Lemmas.{split_same, wire_exact}
use Rattle.fleet_wire.specs.Number.{u16_octets}
use Rattle.fleet_observe.specs.Observation.{ObservationData, expires, key_at, kind_number, IsRank, IsDenialRank}
use Rattle.fleet_observe.specs.Lent.{IsLent}
use Rattle.fleet_observe.specs.Preference.{name_cmp, preference, preference_total}
use Rattle.fleet_observe.specs.declared.observation.kind.Kind.{Kind}
use Rattle.fleet_observe.specs.declared.observation.lent.LentObservation.{LentObservation}
use Rattle.fleet_observe.specs.declared.observation.kind.Kind.TheVariants.{NameError, NoData, Positive, Flush}
pub use Rattle.fleet_observe.proofs.LawfulMeanings.{denied_is}
pub use Rattle.fleet_observe.proofs.Faults.{meaning_sound}
pub use Rattle.fleet_observe.proofs.OneDigest.{meaning_is}

-- what is equal one after the other is equal both times
pub then_parts : (a b : Ordering) → ordering_then a b ≡ Equal → (a ≡ Equal) × (b ≡ Equal)
then_parts Less b e = let f : Less ≡ Equal = e in absurd (cc)
then_parts Equal b e = (refl, e)
then_parts Greater b e = let f : Greater ≡ Equal = e in absurd (cc)

-- comparisons one after the other, however they are bracketed
pub then_assoc : (a b c : Ordering)
    → ordering_then (ordering_then a b) c ≡ ordering_then a (ordering_then b c)
then_assoc Less b c = refl
then_assoc Equal b c = refl
then_assoc Greater b c = refl

-- a number has one kind
pub kind_exact : (k j : Kind) → kind_number k ≡ kind_number j → k ≡ j
kind_exact NameError NameError e = refl
kind_exact NameError NoData e = absurd (omega (arith, e))
kind_exact NameError Positive e = absurd (omega (arith, e))
kind_exact NameError Flush e = absurd (omega (arith, e))
kind_exact NoData NameError e = absurd (omega (arith, e))
kind_exact NoData NoData e = refl
kind_exact NoData Positive e = absurd (omega (arith, e))
kind_exact NoData Flush e = absurd (omega (arith, e))
kind_exact Positive NameError e = absurd (omega (arith, e))
kind_exact Positive NoData e = absurd (omega (arith, e))
kind_exact Positive Positive e = refl
kind_exact Positive Flush e = absurd (omega (arith, e))
kind_exact Flush NameError e = absurd (omega (arith, e))
kind_exact Flush NoData e = absurd (omega (arith, e))
kind_exact Flush Positive e = absurd (omega (arith, e))
kind_exact Flush Flush e = refl

-- a key determines name, kind and type
pub key_exact : (n m : List (List ℕ)) (k j : Kind) (r q : ℕ) → key_at n k r ≡ key_at m j q
    → (n ≡ m) × (k ≡ j) × (r ≡ q)
key_exact n m k j r q e =
    let l = ap length e in
    let a = length-append (wire n) (kind_number k ∷ u16_octets r) in
    let b = length-append (wire m) (kind_number j ∷ u16_octets q) in
    let p = split_same (wire n) (wire m) _ _ (omega (arith, l, a, b)) e in
    let t : (kind_number k ∷ r / 256 ∷ r % 256 ∷ []) ≡ (kind_number j ∷ q / 256 ∷ q % 256 ∷ []) =
    p.1 in
    let kind : kind_number k ≡ kind_number j = cc in
    let high : r / 256 ≡ q / 256 = cc in
    let low : r % 256 ≡ q % 256 = cc in
    (wire_exact n m p.0, kind_exact k j kind, grind (arith, high, low))

abbrev observation_of : ℕ × ℕ × ℕ × Kind × ℕ × List (List ℕ) × List ℕ → ObservationData
observation_of p =
    record { rank = p.0; stamp = p.1; life = p.2; kind = p.3; rtype = p.4; name = p.5; body = p.6 }

-- only equal observations are equally preferred
pub preference_exact : (x y : ObservationData) → preference x y ≡ Equal → x ≡ y
preference_exact x y e =
    let a = then_parts (nat_cmp x.rank y.rank) _ e in
    let b = then_parts (nat_cmp x.stamp y.stamp) _ a.1 in
    let c = then_parts (nat_cmp (expires x) (expires y)) _ b.1 in
    let d = then_parts (nat_cmp (kind_number x.kind) (kind_number y.kind)) _ c.1 in
    let f = then_parts (nat_cmp x.rtype y.rtype) _ d.1 in
    let g = then_parts (name_cmp x.name y.name) _ f.1 in
    let p : x.rank ≡ y.rank = exact_unsigned _ _ a.0 in
    let q : x.stamp ≡ y.stamp = exact_unsigned _ _ b.0 in
    let r : expires x ≡ expires y = exact_unsigned _ _ c.0 in
    let s : x.life ≡ y.life = omega (arith, q, r) in
    let t : x.kind ≡ y.kind = kind_exact x.kind y.kind (exact_unsigned _ _ d.0) in
    let u : x.rtype ≡ y.rtype = exact_unsigned _ _ f.0 in
    let v : x.name ≡ y.name = wire_exact _ _ (exact_bytes _ _ g.0) in
    let w : x.body ≡ y.body = exact_bytes _ _ g.1 in
    let z : observation_of (x.rank, x.stamp, x.life, x.kind, x.rtype, x.name, x.body)
    ≡ observation_of (y.rank, y.stamp, y.life, y.kind, y.rtype, y.name, y.body) = cc in
    z

-- what is lent is one observation
pub lent_exact : (lent : LentObservation) (x y : ObservationData) → IsLent lent x → IsLent lent y
    → x ≡ y
lent_exact lent x y h k =
    let n : x.name ≡ y.name = wire_exact _ _ (sym h.named ∙ k.named) in
    let p : x.rank ≡ y.rank = sym h.rank ∙ k.rank in
    let q : x.stamp ≡ y.stamp = sym h.stamp ∙ k.stamp in
    let s : x.life ≡ y.life = sym h.life ∙ k.life in
    let t : x.kind ≡ y.kind = sym h.kind ∙ k.kind in
    let u : x.rtype ≡ y.rtype = sym h.rtype ∙ k.rtype in
    let w : x.body ≡ y.body = sym h.body ∙ k.body in
    let z : observation_of (x.rank, x.stamp, x.life, x.kind, x.rtype, x.name, x.body)
    ≡ observation_of (y.rank, y.stamp, y.life, y.kind, y.rtype, y.name, y.body) = cc in
    z

-- what is preferred to another is so to all to which the other is
pub preferred_chain : (x y z : ObservationData) → preference x y ≡ Greater
    → preference y z ≡ Greater
    → preference x z ≡ Greater
preferred_chain x y z e f = turned z x (preference_total.trans z y x (below y z f) (below x y e))
  where
    turned : (a b : ObservationData) → preference a b ≡ Less → preference b a ≡ Greater
    turned a b e = preference_total.antisymm b a ∙ ap ordering_reverse e

    below : (a b : ObservationData) → preference a b ≡ Greater → preference b a ≡ Less
    below a b e = preference_total.antisymm b a ∙ ap ordering_reverse e

-- a rank of a denial is a rank
pub any_rank : (rank : ℕ) → IsDenialRank rank → IsRank rank
any_rank rank (inl e) = (omega (arith, e), omega (arith, e))
any_rank rank (inr e) = (omega (arith, e), omega (arith, e))
