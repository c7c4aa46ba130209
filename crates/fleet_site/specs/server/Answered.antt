-- What a site owes those who ask: a question is replied to at once, or is open until it is replied to,
-- and that in time.
-- Serves law `none_forgotten`.
use Rattle.std.specs.Prelude.{◌≡◌, ◌⊎◌, ℕ, zero, suc, ◌+◌, ◌<◌, ◌≤◌, max, true, false, List, [], ◌++◌, length, Result, Ok, IsOk}
use Rattle.std.specs.List.{AllByRecursion}
use Rattle.fleet_name.specs.Types.{OctetList}
use Rattle.fleet_name.specs.Places.{At, Has}
use Rattle.fleet_wire.specs.Types.{Place, Seconds}
use Rattle.fleet_wire.specs.Message.{header_of, MessageData, IsQuery, IsReply}
use Rattle.fleet_wire.specs.Question.{QuestionData}
use Rattle.fleet_wire.specs.declared.class.TheConstants.{IN}
use Rattle.fleet_wire.specs.declared.header.Header.{Header}
use Rattle.fleet_observe.specs.Digest.{DigestData}
use Rattle.fleet_observe.specs.DigestOf.{IsDigest}
use Rattle.fleet_pending.specs.Waiter.{WaiterData, SameAsker}
use Rattle.fleet_pending.specs.PendingData.{EntryData, PendingData, AsksFor, Matches}
use Rattle.fleet_pending.specs.Waiting.{IsWaiting}
use Rattle.fleet_pending.specs.declared.bounds.TheConstants.{TRY_SECONDS}
use Rattle.fleet_pending.specs.declared.addr.Addr.{Addr}
use Rattle.fleet_site.specs.OutcomeData.{OutcomeData, packet_to}
use Rattle.fleet_site.specs.SiteModel.{SiteModel, IsLawfulModel}
use Rattle.fleet_site.specs.Step.{datagram, tick, Step}
use Rattle.fleet_site.specs.Tick.{failure_to}
use Rattle.fleet_site.specs.question.Question.{waiter}
use Rattle.fleet_site.specs.question.Decision.{IsAsking, IsStandardQuery}
use Rattle.fleet_site.specs.reply.Reply.{relay_to}
use Rattle.fleet_site.specs.StandsFor.{StandsFor}
use Rattle.fleet_site.specs.server.Turn.{TurnStep, calling, TurnStepSays, Action, ActionsLead, Ticks, ServerState, Turn}
use Rattle.fleet_site.specs.server.Replies.{IsClient, RepliesTo, HasNoneOpen}
use Rattle.fleet_site.specs.declared.outcome.SiteFault.{SiteFault}

-- the same address waits under the same identifier for the same name and type
pub record WaitsFor (o : PendingData) (w : WaiterData) : Type 0 where
  pub waiting : WaiterData
  pub among : IsWaiting o waiting
  pub asker : SameAsker waiting w
  pub asks : AsksFor w.question among.entry

-- a standard query of class IN with RD set
pub record WantsRecursion (h : Header) (q : QuestionData) : Type 0 where
  pub standard : IsStandardQuery h
  pub rd : h.rd ≡ true
  pub class : q.class ≡ IN

-- who asked gets a reply at once, or waits: with this very question, unless it waited for the same name
-- and type already, and then shares the reply to the question before
pub data RepliesOrWaits (m : SiteModel) (from : Addr) (octets : OctetList) (o : OutcomeData)
    (n : SiteModel) : Type 0 where
  gets_reply : (reply : OctetList) → o.packets ≡ packet_to from reply → RepliesTo octets reply
      → RepliesOrWaits m from octets o n
  is_waiting : (q : QuestionData) (past : Place) → IsQuery octets (header_of octets) q past
      → WantsRecursion (header_of octets) q → WaitsFor n.pending (waiter from (header_of octets) q)
      → (¬ WaitsFor m.pending (waiter from (header_of octets) q)
      → IsWaiting n.pending (waiter from (header_of octets) q))
      → RepliesOrWaits m from octets o n

-- each client whose datagram has the header of a question gets a reply at once or waits, where memory
-- is there
abbrev pub AllReplyOrWait : Type 0
AllReplyOrWait =
    (m n : SiteModel) (now : Seconds) (from : Addr) (octets : OctetList) (word : ℕ)
    (o : OutcomeData)
    → IsClient (record { upstreams = m.upstreams; peers = m.peers }) from → IsAsking octets
    → Step m (datagram now from octets word) (Ok o) n → RepliesOrWaits m from octets o n

-- a reply that an entry waits for: from the upstream that it asks then, under its identifier, for its
-- name and type, with nothing wrong
pub record IsAwaited (m : SiteModel) (e : EntryData) (from : Addr) (octets : OctetList)
    : Type 0 where
  pub upstream : At m.upstreams e.upstream from
  pub message : MessageData
  pub reads : IsReply octets message
  pub matches : Matches e.upstream message.header.id message.question e
  pub digest : DigestData
  pub means : IsDigest message digest

-- a reply that an entry waits for goes to each who waits, in the step that took it, where memory is
-- there
abbrev pub RelayedAtOnce : Type 0
RelayedAtOnce =
    (m n : SiteModel) (now : Seconds) (from : Addr) (octets : OctetList) (word : ℕ)
    (o : OutcomeData) (w : WaiterData) → IsLawfulModel m → (h : IsWaiting m.pending w)
    (r : IsAwaited m h.entry from octets) → Step m (datagram now from octets word) (Ok o) n
    → Has o.packets (relay_to r.digest w)

-- a step took a reply that the entry waits for, and sent it to this waiter
pub record GetsRelay (m : SiteModel) (e : EntryData) (w : WaiterData) (x : TurnStep)
    (o : OutcomeData) : Type 0 where
  pub now : Seconds
  pub from : Addr
  pub octets : OctetList
  pub word : ℕ
  pub step : x ≡ calling (datagram now from octets word)
  pub awaited : IsAwaited m e from octets
  pub sent : Has o.packets (relay_to awaited.digest w)

-- the time of the last upstream is over at this tick, and a failure goes to this waiter
pub record GetsFailure (m : SiteModel) (e : EntryData) (w : WaiterData) (x : TurnStep)
    (o : OutcomeData) : Type 0 where
  pub now : Seconds
  pub step : x ≡ calling (tick now)
  pub over : e.deadline ≤ max m.clock now
  pub last : m.pending.upstreams ≤ e.upstream + 1
  pub sent : Has o.packets (failure_to w)

-- who waits goes on waiting at each step, or gets a reply in it: one that its entry waits for, or a
-- failure once the time of the last upstream is over
abbrev pub StaysUntilReplied : Type 0
StaysUntilReplied =
    (m n : SiteModel) (x : TurnStep) (a : Result OutcomeData SiteFault) (w : WaiterData)
    (h : IsWaiting m.pending w) → TurnStepSays m x a n
    → IsWaiting n.pending w
    ⊎ ((o : OutcomeData) × (a ≡ Ok o) × (GetsRelay m h.entry w x o ⊎ GetsFailure m h.entry w x o))

-- the step did not run out of memory
abbrev pub IsDoneWhole : Action → Type 0
IsDoneWhole a = IsOk a.answer

-- ticks at a moment until no entry is due, none of which ran out of memory
pub record ServesAllDue (t : Seconds) (m : SiteModel) (actions : List Action) (n : SiteModel)
    : Type 0 where
  pub ticks : Ticks t actions false
  pub whole : AllByRecursion IsDoneWhole actions
  pub lead : ActionsLead m actions n

-- each deadline lies after the clock, and at most TRY_SECONDS after it
abbrev pub AreDeadlinesSoon : SiteModel → Type 0
AreDeadlinesSoon m = (i : ℕ) (e : EntryData) → At m.pending.entries i e
    → (m.clock < e.deadline) × (e.deadline ≤ m.clock + TRY_SECONDS)

-- deadlines are soon in each run, whenever all that is due was served
abbrev pub SoonWhenServed : Type 0
SoonWhenServed =
    (first m n : SiteModel) (before ticks : List Action) (t : Seconds) → HasNoneOpen first
    → ActionsLead first before m → ServesAllDue t m ticks n → AreDeadlinesSoon n

-- a try: any steps, and then all that is due is served, at a clock TRY_SECONDS or more after that of m
pub record Try (m : SiteModel) (actions : List Action) (n : SiteModel) : Type 0 where
  pub steps : List Action
  pub middle : SiteModel
  pub lead : ActionsLead m steps middle
  pub now : Seconds
  pub later : m.clock + TRY_SECONDS ≤ max middle.clock now
  pub ticks : List Action
  pub serves : ServesAllDue now middle ticks n
  pub all : actions ≡ steps ++ ticks

-- this number of tries, one after the other
abbrev pub Tries : ℕ → SiteModel → List Action → SiteModel → Type 0
Tries zero m actions n = (actions ≡ []) × (n ≡ m)
Tries (suc u) m actions n = (mid : SiteModel) × (first : List Action) × (others : List Action)
    × Try m first mid × Tries u mid others n × (actions ≡ first ++ others)

-- a step of these sent the waiter a relay, or a failure
pub record IsRepliedIn (actions : List Action) (w : WaiterData) : Type 0 where
  pub action : Action
  pub among : Has actions action
  pub outcome : OutcomeData
  pub whole : action.answer ≡ Ok outcome
  pub sent : ((g : DigestData) × Has outcome.packets (relay_to g w))
      ⊎ Has outcome.packets (failure_to w)

-- who waits has had a reply after as many tries as there are upstreams
abbrev pub RepliedInTime : Type 0
RepliedInTime =
    (first m n : SiteModel) (before actions : List Action) (w : WaiterData) → HasNoneOpen first
    → ActionsLead first before m → IsWaiting m.pending w
    → Tries (length m.upstreams) m actions n → IsRepliedIn actions w

-- a turn of a server whose ticks are done whole takes in its datagram, then serves all that is due,
-- then sweeps where it is time
abbrev pub TurnsServeAllDue : Type 0
TurnsServeAllDue =
    (t : Seconds) (word : ℕ) (every : Seconds) (a b : ServerState) (turn : Turn t word every a b)
    (m : SiteModel) → StandsFor a.site m → AllByRecursion IsDoneWhole turn.ticks
    → (k : SiteModel) × (l : SiteModel) × (n : SiteModel) × ActionsLead m turn.given k
    × ServesAllDue t k turn.ticks l × ActionsLead l turn.sweep n × StandsFor b.site n
