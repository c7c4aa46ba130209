-- When the keys of two observations are one.
-- Serves `has_key_of`, what `Beats`, `KeysHoldFew`, `Voids` serve, and fleet_gossip, fleet_world.
use Rattle.std.proofs.Common.{◌≡◌, true, false, inl, inr, sym, ap, ◌∙◌}
use mathlib.Core.Bool.{false≢true}
use Rattle.std.specs.Ordering.{is_eq}
use Rattle.std.proofs.lemmas.Bool.{cases_Bool}
use Rattle.std.proofs.lemmas.Cmp.{nat_list_cmp_total, tied_itself}
use Rattle.std.proofs.lemmas.Map.Lookups.{exact_bytes}
use Rattle.fleet_name.specs.Name.{wire}
use Rattle.fleet_name.proofs.Lemmas.{wire_exact}
use Rattle.fleet_observe.specs.Observation.{ObservationData, kind_number, key_of}
use Rattle.fleet_observe.specs.Preference.{octets_cmp, name_cmp}
use Rattle.fleet_cache.specs.Dominates.{is_same_key}
use Rattle.std.specs.Cmp.{Equal-is}
use Rattle.fleet_observe.proofs.Lemmas.{key_exact}

-- name, kind and type
pub record HasKeyOf (x y : ObservationData) : Type 0 where
  pub name : x.name ≡ y.name
  pub kind : x.kind ≡ y.kind
  pub rtype : x.rtype ≡ y.rtype

pub key_parts : (x y : ObservationData) → key_of x ≡ key_of y → HasKeyOf x y
key_parts x y e =
    let p = key_exact x.name y.name x.kind y.kind x.rtype y.rtype e in
    record { name = p.0; kind = p.1; rtype = p.2 }

test_parts : (x y : ObservationData) → is_same_key x y ≡ true → HasKeyOf x y
test_parts x y e = key_parts x y (exact_bytes (key_of x) (key_of y) ((Equal-is _).0 e))

pub other_kind : (x y : ObservationData) → (kind_number x.kind ≡ kind_number y.kind → ⊥)
    → false ≡ is_same_key x y
other_kind x y apart = elim (cases_Bool (is_same_key x y)) [
  | inl e ↦ absurd (apart (ap kind_number (test_parts x y e).kind))
  | inr e ↦ sym e
]

pub other_type : (x y : ObservationData) → (x.rtype ≡ y.rtype → ⊥) → false ≡ is_same_key x y
other_type x y apart = elim (cases_Bool (is_same_key x y)) [
  | inl e ↦ absurd (apart (test_parts x y e).rtype)
  | inr e ↦ sym e
]

-- where kind and type are the same, the names decide
pub same_name : (x y : ObservationData) → kind_number x.kind ≡ kind_number y.kind
    → x.rtype ≡ y.rtype → is_eq (name_cmp x.name y.name) ≡ is_same_key x y
same_name x y kind rtype = elim (cases_Bool (is_eq (name_cmp x.name y.name))) [
  | inl e ↦
      let name : x.name ≡ y.name = wire_exact x.name y.name
      (exact_bytes (wire x.name) (wire y.name) ((Equal-is _).0 e)) in
      let key : key_of x ≡ key_of y = cc in
      e ∙ sym (ap is_eq (ap (λ k. octets_cmp k (key_of y)) key
      ∙ tied_itself nat_list_cmp_total (key_of y)))
  | inr e ↦ elim (cases_Bool (is_same_key x y)) [
    | inr no_key ↦ e ∙ sym no_key
    | inl key ↦ absurd (false≢true (sym e ∙ ap is_eq
        (ap (λ n. octets_cmp (wire n) (wire y.name)) (test_parts x y key).name
        ∙ tied_itself nat_list_cmp_total (wire y.name))))
  ]
]
