-- What the clients of a server may count on: each question is replied to, in a number of tries.
-- Serves law `questions_answered`.
use Rattle.std.specs.Prelude.{◌≡◌, ℕ, zero, suc, ◌+◌, ◌<◌, ◌≤◌, List, length, Option, Some, None}
use Rattle.std.specs.List.{AllByRecursion}
use Rattle.rand_core.specs.Stream.{Stream}
use Rattle.fleet_name.specs.Types.{OctetList}
use Rattle.fleet_name.specs.Name.{lower}
use Rattle.fleet_wire.specs.Types.{Seconds}
use Rattle.fleet_wire.specs.Question.{QuestionData}
use Rattle.fleet_pending.specs.declared.bounds.TheConstants.{TRY_SECONDS}
use Rattle.fleet_pending.specs.declared.addr.Addr.{Addr}
use Rattle.fleet_site.specs.PacketData.{PacketData}
use Rattle.fleet_site.specs.SiteData.{SiteData}
use Rattle.fleet_site.specs.question.Decision.{IsAsking}
use Rattle.fleet_site.specs.server.PortRecord.{PortCall, Received}
use Rattle.fleet_site.specs.server.Turn.{ServerState, Turn, Turns, start_of}
use Rattle.fleet_site.specs.server.Replies.{IsClient, ReceivedAt, SentAt, IsReadAs, Echoes, RepliesWith, OwesNothing, RunsLead}
use Rattle.fleet_site.specs.server.Answered.{IsDoneWhole}
use Rattle.fleet_site.specs.declared.bounds.TheConstants.{MOST_COUNTED}

-- turns of a server one after the other, whatever they bring
pub data TurnsLead (a : ServerState) : ServerState → Type 0 where
  no_turn : TurnsLead a a
  one_turn : {b c : ServerState} (t : Seconds) (word : ℕ) (every : Seconds) → TurnsLead a b
      → Turn t word every b c → TurnsLead a c

-- the turns of a run are turns of a server one after the other
abbrev pub RunsAreTurns : Type 0
RunsAreTurns = (moments : Option (ℕ → ℕ)) (words : Stream) (every : Seconds) (n : ℕ)
    (a b : ServerState) → Turns moments words every n a b → TurnsLead a b

-- one of these turns received the datagram, by the call at this place, and gave it to the site
pub record IsGivenIn (first last : ServerState) (k : ℕ) (from : Addr) (octets : OctetList)
    : Type 0 where
  pub a : ServerState
  pub b : ServerState
  pub now : Seconds
  pub word : ℕ
  pub every : Seconds
  pub before : TurnsLead first a
  pub turn : Turn now word every a b
  pub behind : TurnsLead b last
  pub room : ℕ
  pub received : turn.arrival ≡ Received room from octets
  pub place : k ≡ length a.calls

-- each datagram that a server received since these turns began was given to the site, in the turn that
-- received it
abbrev pub ArrivalsAreGiven : Type 0
ArrivalsAreGiven =
    (first last : ServerState) (k : ℕ) (from : Addr) (octets : OctetList) → TurnsLead first last
    → length first.calls ≤ k → ReceivedAt last.calls k from octets
    → IsGivenIn first last k from octets

-- Where the report counts no more short steps after some turns than before them, the steps of the
-- datagram and of the ticks of each were done whole.
abbrev pub MemoryIsCounted : Type 0
MemoryIsCounted =
    (first a b last : ServerState) (t : Seconds) (word : ℕ) (every : Seconds)
    (turn : Turn t word every a b) → TurnsLead first a → TurnsLead b last
    → first.report.short < MOST_COUNTED → last.report.short ≡ first.report.short
    → AllByRecursion IsDoneWhole turn.given × AllByRecursion IsDoneWhole turn.ticks

-- a try of a server: turns, and then one whose ticks are done whole, at a clock TRY_SECONDS or more
-- after that of a
pub record ServerTry (a b : ServerState) : Type 0 where
  pub before : ServerState
  pub turns : TurnsLead a before
  pub now : Seconds
  pub word : ℕ
  pub every : Seconds
  pub turn : Turn now word every before b
  pub whole : AllByRecursion IsDoneWhole turn.ticks
  pub later : a.site.clock + TRY_SECONDS ≤ b.site.clock

-- this number of tries of a server, one after the other
abbrev pub ServerTries : ℕ → ServerState → ServerState → Type 0
ServerTries zero a b = b ≡ a
ServerTries (suc u) a b = (mid : ServerState) × ServerTry a mid × ServerTries u mid b

-- the question that was asked but for upper and lower case; none where none is read
abbrev pub EchoesInAnyCase : OctetList → Option QuestionData → Type 0
EchoesInAnyCase asked None = Echoes asked None
EchoesInAnyCase asked (Some r) = (q : QuestionData) × IsReadAs asked q
    × (lower r.spelled ≡ lower q.spelled) × (r.rtype ≡ q.rtype) × (r.class ≡ q.class)

-- octets that reply to what was asked, or to the same question in another spelling
abbrev pub RepliesInAnyCase : OctetList → OctetList → Type 0
RepliesInAnyCase asked octets = RepliesWith EchoesInAnyCase asked octets

-- after the call at this place a reply is sent to who asked, or lost: to this question, or to the same
-- one in another spelling
pub record GetsReply (calls : List PortCall) (k : ℕ) (from : Addr) (asked : OctetList) : Type 0
  where
    pub place : ℕ
    pub packet : PacketData
    pub later : k < place
    pub sent : SentAt calls place packet
    pub to : packet.to ≡ from
    pub replies : RepliesInAnyCase asked packet.octets

-- In a run of a server, the first of its site or one after others, where the first began with a site
-- with no open question: a client's question, whose step is done whole, is replied to by the end of as
-- many tries after its turn as there are upstreams.
abbrev pub QuestionsAnswered : Type 0
QuestionsAnswered =
    (first site : SiteData) (earlier : List PortCall) (a b z : ServerState) (t : Seconds) (word : ℕ)
    (every : Seconds) (turn : Turn t word every a b) (room : ℕ) (from : Addr) (octets : OctetList)
    → OwesNothing first → RunsLead first earlier site → TurnsLead (start_of site) a
    → turn.arrival ≡ Received room from octets → IsClient site.config from → IsAsking octets
    → AllByRecursion IsDoneWhole turn.given → ServerTries (length site.config.upstreams) b z
    → GetsReply z.calls (length a.calls) from octets
