-- When the sites of a served fleet agree, read off its events and their results.
-- Serves law `telling`.
use Rattle.std.specs.Prelude.{◌≡◌, ◌≢◌, ℕ, ◌⊎◌, ◌≤◌, List, [], ◌∷◌, ◌++◌, length, None, Result, Ok}
use Rattle.fleet_name.specs.Types.{Labels}
use Rattle.fleet_wire.specs.Types.{RType, Seconds}
use Rattle.fleet_name.specs.Places.{At, Has}
use Rattle.fleet_observe.specs.Observation.{ObservationData}
use Rattle.fleet_cache.specs.Answer.{answer_of}
use Rattle.fleet_site.specs.ConfigData.{ConfigData}
use Rattle.fleet_world.specs.FleetModel.{Replica, FleetModel, opening}
use Rattle.fleet_world.specs.Event.{site_of}
use Rattle.fleet_world.specs.Run.{Results, Run}
use Rattle.fleet_world.specs.Reaching.{RunsTo, Restarts, HasReached}
use Rattle.fleet_world.specs.Quiet.{BringsNoNews}
use Rattle.fleet_world.specs.Agreement.{Lasts, LastsFor, HearsSuch, AliasesStayWithin, Agree}
use Rattle.fleet_world.specs.Deliveries.{CountAs, IsAlike}
use Rattle.fleet_world.specs.declared.event.Event.{Event}
use Rattle.fleet_world.specs.declared.event.Event.TheVariants.{Datagram, Tick, Sweep, Frame, Deliver, Learn, Flush}
use Rattle.fleet_world.specs.declared.stepped.Stepped.{Stepped}
use Rattle.fleet_world.specs.declared.fault.WorldFault.{WorldFault}

-- Any two sites agree where, as events arrive, each of them has heard of all that the other one has
-- heard of, as law `agreement` has it of a fleet whose frames are delivered.
abbrev pub TwoAgreeAlike : Type 0 → Type 0
TwoAgreeAlike A =
    (configs : List ConfigData) (n l : FleetModel) → RunsTo A (opening configs) l → IsAlike n l
    → (i j : ℕ) (a b c d : Replica) → At n.sites i a → At n.sites j b
    → At l.sites i c → At l.sites j d
    → (t : Seconds) → HearsSuch (Lasts t) c d → HearsSuch (Lasts t) d c
    → (u : Seconds) → t ≤ u → c.horizon ≤ u → d.horizon ≤ u → Agree a b u

-- the moment of an event; 0 of one that has none
abbrev pub now_of : {A : Type 0} → Event A → Seconds
now_of (Datagram site now from word bytes) = now
now_of (Tick site now) = now
now_of (Frame site now bytes) = now
now_of (Deliver site now frame) = now
now_of (Learn site now bytes) = now
now_of (Flush site now name) = now
now_of e = 0

-- none of these events has a later moment than t
abbrev pub AreBy : {A : Type 0} → Seconds → List (Event A) → Type 0
AreBy {A} t events = (e : Event A) → Has events e → now_of e ≤ t

-- no horizon lies after the latest moment of the run
abbrev pub HorizonsBy : Type 0 → Type 0
HorizonsBy A =
    (configs : List ConfigData) (events : List (Event A)) (results : Results A) (end : FleetModel)
    → Run (opening configs) events results end → (t : Seconds) → AreBy t events
    → (i : ℕ) (a : Replica) → At end.sites i a → a.horizon ≤ t

-- none of the events begins the site again
abbrev pub StaysUp : {A : Type 0} → ℕ → List (Event A) → Type 0
StaysUp {A} site events = (e : Event A) → Has events e → ¬ Restarts e site

-- the event brings this frame to the site, and was done whole, neither refused nor stopped
pub record IsWholeDelivery {A : Type 0} (site number : ℕ) (e : Event A)
    (r : Result (Stepped A) (WorldFault A)) : Type 0 where
  pub now : Seconds
  pub event : e ≡ Deliver site now number
  pub stepped : Stepped A
  pub whole : r ≡ Ok stepped
  pub accepted : stepped.refused ≡ None

-- this frame came to the site, which has not begun again since
abbrev pub WasDelivered : {A : Type 0} → ℕ → ℕ → List (Event A) → Results A → Type 0
WasDelivered site number (e ∷ es) (r ∷ rs) =
    (IsWholeDelivery site number e r × StaysUp site es) ⊎ WasDelivered site number es rs
WasDelivered site number es rs = ⊥

-- the event is a sweep of i that has frames, and each of them came to j in the events after it
pub record SweepsTo {A : Type 0} (i j : ℕ) (e : Event A) (r : Result (Stepped A) (WorldFault A))
    (es : List (Event A)) (rs : Results A) : Type 0 where
  pub event : e ≡ Sweep i
  pub stepped : Stepped A
  pub whole : r ≡ Ok stepped
  pub some : stepped.frames ≢ []
  pub came : (number : ℕ) → Has stepped.frames number → WasDelivered j number es rs

-- i made a sweep that came to j whole, and has not begun again before it
abbrev pub HasSwept : {A : Type 0} → ℕ → ℕ → List (Event A) → Results A → Type 0
HasSwept i j (e ∷ es) (r ∷ rs) = SweepsTo i j e r es rs ⊎ ((¬ Restarts e i) × HasSwept i j es rs)
HasSwept i j es rs = ⊥

-- In these events i has told j all that it knew: j is i, and did not begin again; or i made a sweep
-- that came to j whole; or i told one that told j then.
pub data HasTold {A : Type 0} : ℕ → ℕ → List (Event A) → Results A → Type 0 where
  itself : {i j : ℕ} {es : List (Event A)} {rs : Results A} → j ≡ i → StaysUp i es
      → HasTold i j es rs
  by_sweep : {i j : ℕ} {es : List (Event A)} {rs : Results A} → HasSwept i j es rs
      → HasTold i j es rs
  onward : {i j : ℕ} {es : List (Event A)} {rs : Results A} (h : ℕ)
      (first then : List (Event A)) (first_results then_results : Results A)
      → length first ≡ length first_results → HasTold i h first first_results
      → HasTold h j then then_results → es ≡ first ++ then → rs ≡ first_results ++ then_results
      → HasTold i j es rs

-- who was told has been reached
abbrev pub ToldReach : Type 0 → Type 0
ToldReach A =
    (m n : FleetModel) (events : List (Event A)) (results : Results A) → Run m events results n
    → (i j : ℕ) → HasTold i j events results → HasReached A m i n j

-- the site has taken in no observation of this kind
abbrev pub HoldsNone : (ObservationData → Type 0) → Replica → Type 0
HoldsNone P a = (o : ObservationData) → Has a.site.taken o → ¬ P o

-- each site that has taken in an observation of this kind has told j all that it knew
abbrev pub AllHaveTold : {A : Type 0} → (ObservationData → Type 0) → FleetModel → List (Event A)
    → Results A → ℕ → Type 0
AllHaveTold P m es rs j =
    (i : ℕ) (a : Replica) → At m.sites i a → HoldsNone P a ⊎ HasTold i j es rs

-- the event is no delivery of a frame
abbrev pub IsNoDelivery : {A : Type 0} → Event A → Type 0
IsNoDelivery (Deliver site now frame) = ⊥
IsNoDelivery e = Unit {0}

-- the event brings its site no observation of this kind that is new to it
abbrev pub NoneIsNew : {A : Type 0} → (ObservationData → Type 0) → FleetModel → Event A
    → FleetModel → Type 0
NoneIsNew P m e n =
    (a b : Replica) → At m.sites (site_of e) a → At n.sites (site_of e) b
    → (o : ObservationData) → Has b.site.taken o → P o → Has a.site.taken o

-- In this run, as its events arrive, no observation of this kind comes in that is new. Each event
-- is quiet (`first` is the number of the first frame that was kept since m), or it is no delivery
-- and brings its site none that is new to it.
abbrev pub BringNoNewsOf : {A : Type 0} → (ObservationData → Type 0) → ℕ
    → (m : FleetModel) (es : List (Event A)) (rs : Results A) (n : FleetModel) → Run m es rs n
    → List (Event A) → Type 0
BringNoNewsOf P first m (e ∷ es) (r ∷ rs) n run (f ∷ fs) =
    (BringsNoNews first f r ⊎ (IsNoDelivery f × NoneIsNew P m e run.0))
    × BringNoNewsOf P first run.0 es rs n run.2 fs
BringNoNewsOf P first m es rs n run fs = Unit {0}

-- A run leads to m, and on to n, and no moment of it is later than t. As events arrive, nothing new
-- comes in between m and n that has not ended by t; and each site that by m has taken in something
-- that has not ended by t has told both sites all that it knew. Then they agree, at each moment from
-- t on.
abbrev pub ToldAgree : Type 0 → Type 0
ToldAgree A =
    (configs : List ConfigData) (before : List (Event A)) (before_results : Results A)
    (m : FleetModel) → Run (opening configs) before before_results m
    → (events : List (Event A)) (results : Results A) (n : FleetModel)
    (run : Run m events results n) (arrived : List (Event A))
    → CountAs configs m events results n run arrived
    → (t : Seconds) → AreBy t before → AreBy t events
    → BringNoNewsOf (Lasts t) (length m.frames) m events results n run arrived
    → (i j : ℕ) (a b : Replica) → At n.sites i a → At n.sites j b
    → AllHaveTold (Lasts t) m arrived results i → AllHaveTold (Lasts t) m arrived results j
    → (u : Seconds) → t ≤ u → Agree a b u

-- Where what `ToldAgree` asks holds of what is at some names, or above them, two sites answer the same
-- of these names, whose aliases lead to one another, whatever else is new.
abbrev pub ToldAnswer : Type 0 → Type 0
ToldAnswer A =
    (configs : List ConfigData) (before : List (Event A)) (before_results : Results A)
    (m : FleetModel) → Run (opening configs) before before_results m
    → (events : List (Event A)) (results : Results A) (n : FleetModel)
    (run : Run m events results n) (arrived : List (Event A))
    → CountAs configs m events results n run arrived
    → (t : Seconds) → AreBy t before → AreBy t events
    → (names : List Labels)
    → ((i : ℕ) (a : Replica) → At m.sites i a → AliasesStayWithin names t a.site.taken)
    → BringNoNewsOf (LastsFor names t) (length m.frames) m events results n run arrived
    → (i j : ℕ) (a b : Replica) → At n.sites i a → At n.sites j b
    → AllHaveTold (LastsFor names t) m arrived results i
    → AllHaveTold (LastsFor names t) m arrived results j
    → (u : Seconds) → t ≤ u → (name : Labels) → Has names name → (rtype : RType)
    → answer_of a.site.taken u name rtype ≡ answer_of b.site.taken u name rtype
