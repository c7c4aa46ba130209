-- What the flush of a name does to a site.
-- Serves `flush_name`.
use Rattle.std.proofs.Common.{◌≡◌, ℕ, ◌<◌, List, [], ◌∷◌, ◌++◌, take, length, inr, refl, subst, Ok, Err}
use Rattle.fleet_observe.specs.Observation.{ObservationData, flush_at}
use Rattle.fleet_cache.specs.Cached.{IsCached, CacheData}
use Rattle.fleet_gossip.specs.Packed.{IsPacked}
use Rattle.fleet_pending.specs.PendingData.{PendingData}
use Rattle.fleet_site.specs.steps.Carried.{DoesOrStops}
use Rattle.fleet_site.specs.gossip.Flush.{Flushed}
use Rattle.fleet_site.specs.OutcomeData.{OutcomeData, nothing}
use Rattle.fleet_site.specs.SiteModel.{Effect}
use Rattle.fleet_site.specs.declared.outcome.SiteFault.TheVariants.{OutOfMemory}

-- what is said of a flush with these frames
abbrev pub says_flush : List (List ℕ) → OutcomeData
says_flush frames = record nothing { frames = frames; taken = 1 }

abbrev flush_deed : PendingData → List (List ℕ) → ℕ → List (List ℕ) → Effect
flush_deed o name t frames = record {
  says = says_flush frames;
  brings = flush_at name t ∷ [];
  asking = o;
}

-- the flush alone was listed, and then taken, or stopped for want of memory
module _ (o : PendingData) (name : List (List ℕ)) (t : ℕ) (s list : List ObservationData)
    (frames : List (List ℕ)) (is : list ≡ flush_at name t ∷ []) (packed : IsPacked list frames)
    (cache : CacheData) where
  flushed : Flushed o name t (flush_deed o name t frames)
  flushed = (frames, subst (λ xs. IsPacked xs frames) is packed, refl)

  pub carries_flush : (out : OutcomeData) → out ≡ says_flush frames
      → IsCached (list ++ s) cache.floor cache.items
      → DoesOrStops (Flushed o name t) (Unit {0})
      (record { taken = s; asking = o }) (Ok out)
      (record { cache = cache; asking = o })
  carries_flush out said cached = (
    flush_deed o name t frames,
    flushed,
    said,
    subst (λ xs. IsCached (xs ++ s) cache.floor cache.items) is cached,
    refl,
  )

  pub stops_flush : (taken : ℕ) → taken < length list
      → IsCached (take taken list ++ s) cache.floor cache.items
      → DoesOrStops (Flushed o name t) (Unit {0})
      (record { taken = s; asking = o }) (Err (OutOfMemory taken))
      (record { cache = cache; asking = o })
  stops_flush taken within cached = (
    refl,
    inr (
      flush_deed o name t frames,
      flushed,
      subst (λ xs. taken < length xs) is within,
      subst (λ xs. IsCached (take taken xs ++ s) cache.floor cache.items) is cached,
    ),
  )
