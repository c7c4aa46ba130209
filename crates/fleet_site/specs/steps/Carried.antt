-- What a part of a site did to its cache and its table.
-- Serves every call of `Site` that sends or takes.
use Rattle.std.specs.Prelude.{◌≡◌, ◌≢◌, ℕ, ◌<◌, ◌⊎◌, List, ◌++◌, Option, Some, None, Result, Ok, Err, length, take}
use Rattle.fleet_wire.specs.Query.{query_octets}
use Rattle.fleet_wire.specs.Question.{QuestionData}
use Rattle.fleet_wire.specs.declared.header.Header.{Header}
use Rattle.fleet_wire.specs.declared.fault.ReadFault.{ReadFault}
use Rattle.fleet_wire.specs.declared.fault.ReadFault.TheVariants.{OutOfMemory as NoMemory}
use Rattle.fleet_wire.specs.declared.class.TheConstants.{IN}
use Rattle.fleet_wire.specs.declared.rcode.TheConstants.{FORMAT_ERROR}
use Rattle.fleet_observe.specs.Observation.{Observations}
use Rattle.fleet_cache.specs.Cached.{IsCached, CacheData}
use Rattle.fleet_pending.specs.PendingData.{PendingData}
use Rattle.fleet_name.specs.Places.{At}
use Rattle.fleet_pending.specs.declared.answer.PendingFault.{PendingFault}
use Rattle.fleet_pending.specs.declared.answer.PendingFault.TheVariants.{OutOfMemory as NoRoom}
use Rattle.fleet_pending.specs.declared.addr.Addr.{Addr}
use Rattle.fleet_site.specs.OutcomeData.{OutcomeData, nothing, sends}
use Rattle.fleet_site.specs.question.Question.{turns_away}
use Rattle.fleet_site.specs.question.AnswerRecords.{bare_octets}
use Rattle.fleet_site.specs.SiteModel.{Effect, says_only}
use Rattle.fleet_site.specs.question.Decision.{DecisionData, Unread as UnreadData}
use Rattle.fleet_site.specs.declared.outcome.SiteFault.{SiteFault}
use Rattle.fleet_site.specs.declared.outcome.SiteFault.TheVariants.{OutOfMemory}
use Rattle.fleet_site.specs.declared.decision.Decision.{Decision}
use Rattle.fleet_site.specs.declared.decision.Decision.TheVariants.{Dropped, Reply, Unread, Miss}

-- what a site took in and what it asks, before a deed
pub record Before : Type 0 where
  pub taken : Observations
  pub asking : PendingData

-- what a site holds and what it asks, after a deed
pub record Behind : Type 0 where
  pub cache : CacheData
  pub asking : PendingData

-- A deed of this rule was done whole, or stopped as memory ran out. Then nothing was taken where
-- memory was needed, or the first of what it brings.
abbrev pub DoesOrStops : (Effect → Type 0) → Type 0 → Before → Result OutcomeData SiteFault → Behind
    → Type 0
DoesOrStops Rule Needed a (Ok o) b =
    (d : Effect) × Rule d × (o ≡ d.says)
    × IsCached (d.brings ++ a.taken) b.cache.floor b.cache.items
    × (b.asking ≡ d.asking)
DoesOrStops Rule Needed a (Err (OutOfMemory taken)) b =
    (b.asking ≡ a.asking)
    × (((taken ≡ 0) × IsCached a.taken b.cache.floor b.cache.items × Needed)
    ⊎ ((d : Effect) × Rule d × (taken < length d.brings)
    × IsCached (take taken d.brings ++ a.taken) b.cache.floor b.cache.items))

-- a deed of this rule, which brings nothing, was done whole, or stopped as memory ran out
abbrev pub SaysOrStops : (Effect → Type 0) → Type 0 → PendingData
    → Result OutcomeData SiteFault → PendingData → Type 0
SaysOrStops Rule Needed old (Ok o) new = Rule (says_only o new)
SaysOrStops Rule Needed old (Err (OutOfMemory taken)) new = (taken ≡ 0) × (new ≡ old) × Needed

-- a miss can be asked of an upstream
abbrev pub IsAskable : {A : Type 0} → Decision A → Type 0
IsAskable Dropped = Unit {0}
IsAskable (Reply octets) = Unit {0}
IsAskable (Unread octets f) = Unit {0}
IsAskable (Miss h q) = (h.opcode < 16) × (q.class ≡ IN)

-- octets of which this was decided are answered, or go to an upstream
abbrev pub IsAnswered : {A : Type 0} → Decision A → Type 0
IsAnswered Dropped = ⊥
IsAnswered (Reply octets) = Unit {0}
IsAnswered (Unread octets f) = Unit {0}
IsAnswered (Miss h q) = Unit {0}

-- the reply says that the octets can't be read, for this fault, which is not out of memory
abbrev pub SaysUnread : Header → ReadFault → DecisionData → Type 0
SaysUnread h f v = (f ≢ NoMemory) × (v ≡ UnreadData (bare_octets h FORMAT_ERROR None) f)

-- a waiter that was not taken gets a server failure, or memory ran out
abbrev pub TurnsAway : Addr → Header → QuestionData → PendingFault
    → Result OutcomeData SiteFault → Type 0
TurnsAway from h q f (Ok o) = (f ≢ NoRoom) × (o ≡ turns_away from h q)
TurnsAway from h q f (Err (OutOfMemory taken)) = taken ≡ 0

-- with this identifier the query goes to the first upstream; without one nothing is sent
abbrev pub SendsFirst : List Addr → QuestionData → Option ℕ → OutcomeData → Type 0
SendsFirst upstreams q (Some id) e =
    (there : Addr) × At upstreams 0 there × (e ≡ sends there (query_octets id q))
SendsFirst upstreams q None e = e ≡ nothing

-- these observations were taken, or without memory the first of them
abbrev pub TakesOrStops : Observations → Observations
    → Result OutcomeData SiteFault → CacheData
    → Type 0
TakesOrStops s list (Ok o) cache = (o ≡ record nothing { taken = length list })
    × IsCached (list ++ s) cache.floor cache.items
TakesOrStops s list (Err (OutOfMemory taken)) cache =
    (taken < length list) × IsCached (take taken list ++ s) cache.floor cache.items
