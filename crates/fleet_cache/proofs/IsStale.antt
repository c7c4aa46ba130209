-- What is live of a front, where a purge passes over it.
-- Serves `is_stale`.
use Rattle.std.proofs.Common.{◌≡◌, ℕ, ◌<◌, Bool, false, inl, inr, List, [], ◌∷◌, subst, arith}
use Rattle.std.proofs.lemmas.Bool.{cases_Bool, or_parts}
use Rattle.std.proofs.lemmas.Bool.Decides.{nat_tests}
use Rattle.std.specs.List.{list_any}
use Rattle.fleet_observe.specs.Members.{Has}
use Rattle.fleet_observe.specs.declared.observation.kind.Kind.TheVariants.{Flush}
use Rattle.fleet_observe.specs.Observation.{ObservationData, AreObservations}
use Rattle.fleet_cache.specs.declared.noted.TheConstants.{LENGTHS}
use Rattle.fleet_cache.specs.Void.{voids, is_void}
use Rattle.fleet_cache.specs.steps.Noted.{HasNoneShorter}
use Rattle.fleet_cache.specs.steps.Reclaimed.{IsLiveFront}
use Rattle.fleet_cache.specs.steps.Soonest.{NoneSooner}
use Rattle.fleet_cache.proofs.Beats.{live_to}
use Rattle.fleet_cache.proofs.Voids.{voids_from, unvoided_to}

-- nothing is withdrawn where there is no flush
unflushed : (items : List ObservationData) → AreObservations items → HasNoneShorter Flush LENGTHS items
    → (o : ObservationData) → is_void items o ≡ false
unflushed items lawful none o = unvoided_to items o (λ f h. elim (cases_Bool (voids f o)) [
  | inr nay ↦ nay
  | inl yea ↦
      let past = none f h (voids_from f o yea).flush in
      let fits = (lawful f h).named.fits in
      absurd (omega (arith, past, fits))
])

-- and so a front lives of which nothing has ended
pub unended_lives : (items front : List ObservationData) (soonest t : ℕ) → AreObservations items
    → HasNoneShorter Flush LENGTHS items → NoneSooner soonest front → t < soonest
    → IsLiveFront t items front
unended_lives items front soonest t lawful none sooner before o h =
    let late = sooner o h in
    live_to items t o (grind (arith, nat_tests, late, before)) (unflushed items lawful none o)

-- what a cut hides none of
pub none_of : (p : ObservationData → Bool) (xs : List ObservationData) → list_any p xs ≡ false
    → (o : ObservationData) → Has xs o → p o ≡ false
none_of p [] e o h = absurd h
none_of p (x ∷ xs) e o h = elim h [
  | inl here ↦ subst (λ y. p y ≡ false) here (or_parts (p x) (list_any p xs) e).0
  | inr far ↦ none_of p xs (or_parts (p x) (list_any p xs) e).1 o far
]
