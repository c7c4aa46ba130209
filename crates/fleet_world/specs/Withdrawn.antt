-- What a flush withdraws is answered no more.
-- Serves law `withdrawn`.
use Rattle.std.specs.Prelude.{◌≡◌, ℕ, ◌<◌, ◌≤◌, List, ◌∷◌}
use Rattle.fleet_name.specs.Types.{Labels}
use Rattle.fleet_name.specs.Name.{IsUnder}
use Rattle.fleet_name.specs.Places.{At, Has}
use Rattle.fleet_wire.specs.Record.{RecordData}
use Rattle.fleet_wire.specs.Types.{RType, Seconds}
use Rattle.fleet_observe.specs.Observation.{ObservationData, Observations, IsObservation, AreObservations, expires}
use Rattle.fleet_observe.specs.declared.observation.kind.Kind.TheVariants.{Flush}
use Rattle.fleet_cache.specs.Answer.{ShownData, answer_of}
use Rattle.fleet_cache.specs.Void.{Voids}
use Rattle.fleet_site.specs.ConfigData.{ConfigData}
use Rattle.fleet_world.specs.FleetModel.{Replica, FleetModel, opening}
use Rattle.fleet_world.specs.Fresh.{parts_of, IsFreshRecord, WhereAsked, WhereAnswered}
use Rattle.fleet_world.specs.Reaching.{RunsTo, HasReached}
use Rattle.fleet_world.specs.Run.{Results, Run}
use Rattle.fleet_world.specs.declared.event.Event.{Event}

-- each part of what is answered of s at the moment t that is at the flush's name or below it is
-- stamped after the flush
abbrev pub AnswersAfter : ObservationData → Observations → Seconds → Type 0
AnswersAfter flush s t = (name : Labels) (rtype : RType) (part : ShownData)
    → Has (parts_of (answer_of s t name rtype)) part → IsUnder part.observation.name flush.name
    → flush.stamp < part.observation.stamp

-- what is answered at the name of a flush that was taken in, or below it, is stamped after the flush,
-- at each moment
abbrev pub TakenWithdraw : Type 0
TakenWithdraw = (s : Observations) (flush : ObservationData) → Has s flush → flush.kind ≡ Flush
    → (t : Seconds) → AnswersAfter flush s t

-- a record is fresh, and where it is at the name of a flush of s or below it, the reply that has it
-- came in after the flush
pub record IsFreshAfter {A : Type 0} (m : FleetModel) (es : List (Event A)) (rs : Results A)
    (n : FleetModel) (run : Run m es rs n) (s : Observations) (t : Seconds) (x : RecordData) : Type 0
  where
    pub fresh : IsFreshRecord m es rs n run t x
    pub after : (flush : ObservationData) → Has s flush → flush.kind ≡ Flush
        → IsUnder x.name flush.name → flush.stamp < fresh.moment

-- where all gossip is the fleet's own, each record that is read in what a site answers where it is
-- asked is fresh, and came in after the flushes that the site took in at its name or above
abbrev pub AskedAfter : Type 0 → Type 0
AskedAfter A = WhereAsked A (λ m es rs n run a t x. IsFreshAfter m es rs n run a.site.taken t x)

-- where all gossip is the fleet's own, each record that is read in what a site sends where a datagram
-- comes that is not from an upstream is fresh, and came in after the flushes that the site took in at
-- its name or above
abbrev pub AnsweredAfter : Type 0 → Type 0
AnsweredAfter A =
    WhereAnswered A (λ m es rs n run a t x. IsFreshAfter m es rs n run a.site.taken t x)

-- from a site's horizon on, what it answers at the name of a flush that it heard of, or below it, is
-- stamped after the flush
abbrev pub HeardWithdraw : Type 0 → Type 0
HeardWithdraw A =
    (configs : List ConfigData) (events : List (Event A)) (results : Results A) (end : FleetModel)
    → Run (opening configs) events results end
    → (i : ℕ) (a : Replica) → At end.sites i a
    → (flush : ObservationData) → Has a.heard flush → flush.kind ≡ Flush
    → (t : Seconds) → a.horizon ≤ t → AnswersAfter flush a.site.taken t

-- at each site that was reached by one that had heard of a flush, from its horizon on, what it answers
-- at the flush's name or below it is stamped after the flush
abbrev pub ReachedWithdraw : Type 0 → Type 0
ReachedWithdraw A =
    (configs : List ConfigData) (m n : FleetModel) (i j : ℕ) (a b : Replica)
    → RunsTo A (opening configs) m → HasReached A m i n j → At m.sites i a → At n.sites j b
    → (flush : ObservationData) → Has a.heard flush → flush.kind ≡ Flush
    → (t : Seconds) → b.horizon ≤ t → AnswersAfter flush b.site.taken t

-- what a flush withdraws ends no later than the flush
abbrev pub WithdrawnEndFirst : Type 0
WithdrawnEndFirst = (flush o : ObservationData) → IsObservation flush → IsObservation o
    → Voids flush o → expires o ≤ expires flush

-- from its end on a flush makes no difference: nothing comes back where it is forgotten
abbrev pub EndedMakeNoDifference : Type 0
EndedMakeNoDifference = (s : Observations) (flush : ObservationData) → AreObservations (flush ∷ s)
    → flush.kind ≡ Flush → (t : Seconds) → expires flush ≤ t → (name : Labels) (rtype : RType)
    → answer_of (flush ∷ s) t name rtype ≡ answer_of s t name rtype
