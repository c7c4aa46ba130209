-- The front of a key, with an observation more.
-- Serves `short::store`, `store::store`.
use Rattle.std.proofs.Common.{◌≡◌, ◌+◌, ◌≤◌, length, ℕ, Bool, false, List, ◌∷◌, ◌↔◌, Some, Result, Ok, Err, IfOk, OnOk, OnErr, sym, ap, ◌∙◌}
use Rattle.std.specs.Map.{lookup, set_value}
use Rattle.std.specs.Ordering.{is_eq}
use Rattle.std.proofs.lemmas.Result.{on_err_weaker}
use Rattle.std.proofs.lemmas.Map.Steps.{set_value_same}
use Rattle.fleet_front.specs.Front.{IsFront as IsFrontOf, IsCovered as IsCoveredBy}
use Rattle.fleet_observe.specs.Observation.{ObservationData}
use Rattle.fleet_cache.specs.steps.Packed.{words_of, IsPackable}
use Rattle.fleet_observe.specs.Preference.{octets_cmp}
use Rattle.fleet_cache.specs.Dominates.{dominates}
use Rattle.fleet_cache.specs.steps.Row.{row}
use Rattle.fleet_cache.specs.steps.Slots.{IsLaid, IsPut}
use Rattle.fleet_cache.proofs.Slots.{slot_of_key, put_edited}

-- the front that the map had was changed in place
module _ {K : Type 0} (octets : K → List ℕ) (es new : List (K × List ObservationData))
    (f g : List ObservationData) (x : ObservationData) (q : List ℕ) (same : q ≡ words_of x)
    (fits : IsPackable x.name) (laid : IsLaid octets es)
    (is : new ≡ set_value (λ k. is_eq (octets_cmp q (octets k))) es g)
    (found : Some f ≡ lookup (λ k. is_eq (octets_cmp q (octets k))) es) {E : Type 0} where
  pub put_in_place : (r : Result Bool E) → ((s : List ObservationData)
      → IsFrontOf row dominates s f → OnOk r (IsFrontOf row dominates (x ∷ s) g))
      → IfOk r (λ kept. (kept ≡ false) ↔ IsCoveredBy dominates f x) → length g ≤ length f + 1
      → IfOk r (IsPut octets es new x)
  put_in_place (Err e) taken known size = known
  put_in_place (Ok kept) taken known size =
      let at : lookup (λ k. is_eq (octets_cmp (words_of x) (octets k))) es ≡ Some f =
      rw (← same) (sym found) in
      let written : new ≡ set_value (λ k. is_eq (octets_cmp (words_of x) (octets k))) es g =
      rw (← same) is in
      let own = (slot_of_key octets es (words_of x) f laid at).slot.own_front in
      put_edited octets es new f g x kept laid at written fits (taken f own) size known

  pub put_nothing : (r : Result Bool E) → OnErr r (g ≡ f) → OnErr r (new ≡ es)
  put_nothing r e = on_err_weaker r (λ same_front. is
      ∙ ap (set_value (λ k. is_eq (octets_cmp q (octets k))) es) same_front
      ∙ set_value_same (λ k. is_eq (octets_cmp q (octets k))) es f (sym found)) e
