-- Sites agree, once each of them has heard of all that any of them has heard of.
-- Serves laws `reaching`, `agreement`, `telling`.
use Rattle.std.specs.Prelude.{◌≡◌, ℕ, ◌<◌, ◌≤◌, ◌↔◌, List, [], true, Ok}
use Rattle.fleet_name.specs.Types.{Labels}
use Rattle.fleet_wire.specs.Types.{RType, Seconds}
use Rattle.fleet_name.specs.Name.{IsUnder}
use Rattle.fleet_name.specs.Places.{At, Has}
use Rattle.fleet_observe.specs.Observation.{ObservationData, expires, Observations}
use Rattle.fleet_cache.specs.Answer.{answer_of, is_link, target}
use Rattle.fleet_cache.specs.Cached.{IsCached}
use Rattle.fleet_site.specs.ConfigData.{ConfigData}
use Rattle.fleet_site.specs.SiteData.{SiteData}
use Rattle.fleet_world.specs.FleetModel.{Replica, FleetModel, opening}
use Rattle.fleet_world.specs.StandsFor.{StandsForReplica}
use Rattle.fleet_world.specs.Step.{Step}
use Rattle.fleet_world.specs.Reaching.{RunsTo, HasReached, AreRounds, AreLinked}
use Rattle.fleet_world.specs.Quiet.{RunsWithoutNews, IsKnown}
use Rattle.fleet_world.specs.declared.event.Event.TheVariants.{Sweep}
use Rattle.fleet_world.specs.declared.stepped.Stepped.{Stepped}

-- b has heard of all that a had heard of, and its horizon is no earlier
pub record HearsAll (a b : Replica) : Type 0 where
  pub heard : (o : ObservationData) → Has a.heard o → Has b.heard o
  pub horizon : a.horizon ≤ b.horizon

-- a site that was reached has heard of all that the one which reached it had heard of, and its horizon
-- is no earlier
abbrev pub ReachedHear : Type 0 → Type 0
ReachedHear A =
    (configs : List ConfigData) (m n : FleetModel) (i j : ℕ) (a b : Replica)
    → RunsTo A (opening configs) m → HasReached A m i n j → At m.sites i a → At n.sites j b
    → HearsAll a b

-- who is reached by one that was reached is reached
abbrev pub ReachedReach : Type 0 → Type 0
ReachedReach A =
    (m between n : FleetModel) (i h j : ℕ) → HasReached A m i between h
    → HasReached A between h n j → HasReached A m i n j

-- after as many rounds as links lead from one site to another, it has reached that one
abbrev pub RoundsReach : Type 0 → Type 0
RoundsReach A =
    (links : List (ℕ × ℕ)) (count : ℕ) (m n : FleetModel) (i j : ℕ) → AreRounds A links count m n
    → AreLinked links count i j → HasReached A m i n j

-- two sites agree at a moment: what is kept, and what is answered, of all that the one took in is
-- what is kept and answered of all that the other one took in; and purged to it they hold equal
-- caches
pub record Agree (a b : Replica) (t : Seconds) : Type 0 where
  pub held : (items : Observations) → IsCached a.site.taken t items ↔ IsCached b.site.taken t items
  pub answers : (name : Labels) (rtype : RType)
      → answer_of a.site.taken t name rtype ≡ answer_of b.site.taken t name rtype
  pub caches : (x y : SiteData) → StandsForReplica x a → StandsForReplica y b
      → x.cache.floor ≡ t → y.cache.floor ≡ t → x.cache ≡ y.cache

-- an observation has not ended by t
abbrev pub Lasts : Seconds → ObservationData → Type 0
Lasts t o = t < expires o

-- b has heard of each observation of this kind that a has heard of
abbrev pub HearsSuch : (ObservationData → Type 0) → Replica → Replica → Type 0
HearsSuch P a b = (o : ObservationData) → Has a.heard o → P o → Has b.heard o

-- any two sites of a run from the opening model agree, where each of them has heard of all that the
-- other one has heard of, and that has not ended by t: at each moment from t and both horizons on
abbrev pub TwoAgree : Type 0 → Type 0
TwoAgree A =
    (configs : List ConfigData) (n : FleetModel) → RunsTo A (opening configs) n
    → (i j : ℕ) (a b : Replica) → At n.sites i a → At n.sites j b
    → (t : Seconds) → HearsSuch (Lasts t) a b → HearsSuch (Lasts t) b a
    → (u : Seconds) → t ≤ u → a.horizon ≤ u → b.horizon ≤ u → Agree a b u

-- an observation is at one of these names, or above it
abbrev pub IsAtOrAbove : List Labels → ObservationData → Type 0
IsAtOrAbove names o = (name : Labels) × Has names name × IsUnder name o.name

-- an alias at one of these names that has not ended by t leads to one of them
abbrev pub AliasesStayWithin : List Labels → Seconds → Observations → Type 0
AliasesStayWithin names t s =
    (o : ObservationData) → Has s o → t < expires o → Has names o.name → (rtype : RType)
    → is_link rtype o ≡ true → Has names (target o)

-- an observation is at one of these names, or above it, and has not ended by t
abbrev pub LastsFor : List Labels → Seconds → ObservationData → Type 0
LastsFor names t o = IsAtOrAbove names o × Lasts t o

-- Whatever else is new, two sites answer the same of names whose aliases lead to one another, where
-- each of them has heard of all that the other one has heard of at and above them, and that has not
-- ended by t: at each moment from t and both horizons on.
abbrev pub NamesAgree : Type 0 → Type 0
NamesAgree A =
    (configs : List ConfigData) (n : FleetModel) → RunsTo A (opening configs) n
    → (i j : ℕ) (a b : Replica) → At n.sites i a → At n.sites j b
    → (names : List Labels) (t : Seconds) → AliasesStayWithin names t a.site.taken
    → HearsSuch (LastsFor names t) a b → HearsSuch (LastsFor names t) b a
    → (u : Seconds) → t ≤ u → a.horizon ≤ u → b.horizon ≤ u
    → (name : Labels) → Has names name → (rtype : RType)
    → answer_of a.site.taken u name rtype ≡ answer_of b.site.taken u name rtype

-- where nothing new came in, nothing new was heard of
abbrev pub QuietHear : Type 0 → Type 0
QuietHear A =
    (configs : List ConfigData) (m n : FleetModel) → RunsTo A (opening configs) m
    → RunsWithoutNews A m n → (o : ObservationData) → IsKnown n o → IsKnown m o

-- where a sweep is done whole and has no frame, all that its site has heard of has ended by the
-- site's horizon
abbrev pub SilentEnded : Type 0 → Type 0
SilentEnded A =
    (configs : List ConfigData) (m n : FleetModel) (i : ℕ) (a : Replica) (s : Stepped A)
    → RunsTo A (opening configs) m → At m.sites i a → Step m (Sweep i) (Ok s) n → s.frames ≡ []
    → (o : ObservationData) → Has a.heard o → expires o ≤ a.horizon

-- a site that had heard of o at m has reached site j by n
pub record HasCome (A : Type 0) (m n : FleetModel) (j : ℕ) (o : ObservationData) : Type 0 where
  pub source : ℕ
  pub replica : Replica
  pub there : At m.sites source replica
  pub heard : Has replica.heard o
  pub reached : HasReached A m source n j

-- o has come to each of these sites, to each from any site that had heard of it
abbrev pub HasSpread : Type 0 → FleetModel → FleetModel → List ℕ → ObservationData → Type 0
HasSpread A m n sites o = (j : ℕ) → Has sites j → HasCome A m n j o

-- Nothing new came in between m and n, and each observation that a site had heard of at m, and that
-- has not ended by t, has spread to these sites: any two of them agree, at each moment from t and
-- both horizons on.
abbrev pub SpreadAgree : Type 0 → Type 0
SpreadAgree A =
    (configs : List ConfigData) (m n : FleetModel) → RunsTo A (opening configs) m
    → RunsWithoutNews A m n → (sites : List ℕ) (t : Seconds)
    → ((o : ObservationData) → IsKnown m o → Lasts t o → HasSpread A m n sites o)
    → (i j : ℕ) (a b : Replica) → Has sites i → Has sites j → At n.sites i a → At n.sites j b
    → (u : Seconds) → t ≤ u → a.horizon ≤ u → b.horizon ≤ u → Agree a b u
