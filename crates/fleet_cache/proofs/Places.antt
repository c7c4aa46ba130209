-- The order of a cache's items keeps the laws of a ranked type too.
-- Serves what `Best`, `Caches`, `Existence`, `Holdings`, `Merging`, `Rounds`, `Slots` serve, and
-- fleet_gossip, fleet_world.
use Rattle.std.proofs.Common.{◌≡◌, true, ap, ◌∙◌}
use Rattle.std.specs.declared.cmp.Ordering.TheVariants.{Equal, Greater}
use Rattle.std.specs.Ordering.{ordering_then}
use Rattle.std.specs.Cmp.{IsTotalOrder}
use Rattle.std.proofs.lemmas.Cmp.{on_total, then_total, back_total, nat_list_cmp_total, tied_itself}
use Rattle.fleet_front.specs.Front.{RankedLaws}
use Rattle.fleet_observe.specs.Observation.{ObservationData, key_of}
use Rattle.fleet_observe.specs.Preference.{octets_cmp, preference, preference_total}
use Rattle.fleet_observe.proofs.Lemmas.{then_parts, preference_exact}
use Rattle.fleet_cache.specs.Live.{has_ended}
use Rattle.fleet_cache.specs.Dominates.{dominates}
use Rattle.fleet_cache.specs.Cached.{item_order}
use Rattle.fleet_cache.specs.steps.Orders.{over_from, over_chain, ended_below}

pub place_total : IsTotalOrder item_order
place_total =
    then_total (on_total (λ (x : ObservationData). key_of x) (back_total nat_list_cmp_total))
    preference_total

pub place_exact : (x y : ObservationData) → item_order x y ≡ Equal → x ≡ y
place_exact x y e =
    preference_exact x y (then_parts (octets_cmp (key_of y) (key_of x)) (preference x y) e).1

place_over : (x y : ObservationData) → dominates x y ≡ true → item_order x y ≡ Greater
place_over x y e =
    let a = over_from x y e in
    let same : octets_cmp (key_of y) (key_of x) ≡ Equal =
    ap (octets_cmp (key_of y)) a.same_key ∙ tied_itself nat_list_cmp_total (key_of y) in
    ap (λ o. ordering_then o (preference x y)) same ∙ a.preferred

pub place_laws : RankedLaws item_order dominates has_ended
place_laws = record {
  total = place_total;
  exact = place_exact;
  chained = over_chain;
  greater = place_over;
  hides_below = ended_below;
}
