-- What a site does with a question: it answers, turns it away, or asks an upstream.
-- Serves `Site::datagram`, `Site::datagram_into`.
use Rattle.std.specs.Prelude.{◌≡◌, ◌≢◌, ◌⊎◌, ℕ, List, Some, false, Result, Ok, Err}
use Rattle.fleet_name.specs.Types.{OctetList}
use Rattle.fleet_wire.specs.Types.{Seconds}
use Rattle.fleet_wire.specs.Query.{query_octets}
use Rattle.fleet_wire.specs.Question.{QuestionData}
use Rattle.fleet_wire.specs.declared.header.Header.{Header}
use Rattle.fleet_wire.specs.declared.rcode.TheConstants.{SERVER_FAILURE, REFUSED}
use Rattle.fleet_observe.specs.Observation.{Observations}
use Rattle.fleet_pending.specs.Waiter.{WaiterData}
use Rattle.fleet_pending.specs.Asking.{Asks}
use Rattle.fleet_pending.specs.PendingData.{PendingData}
use Rattle.fleet_name.specs.Places.{At}
use Rattle.fleet_pending.specs.declared.addr.Addr.{Addr}
use Rattle.fleet_pending.specs.declared.answer.Asked.{Asked as Opened}
use Rattle.fleet_pending.specs.declared.answer.Asked.TheVariants.{Again, Joined, Send}
use Rattle.fleet_pending.specs.declared.answer.PendingFault.{PendingFault}
use Rattle.fleet_pending.specs.declared.answer.PendingFault.TheVariants.{OutOfMemory}
use Rattle.fleet_site.specs.Choice.{when◌then◌otherwise◌}
use Rattle.fleet_site.specs.OutcomeData.{OutcomeData, nothing, sends}
use Rattle.fleet_site.specs.question.AnswerRecords.{bare_octets}
use Rattle.fleet_site.specs.SiteModel.{Effect, says_only, refuses}
use Rattle.fleet_site.specs.question.Decision.{DecisionData, Dropped, Reply, Unread, Miss, Decides}
use Rattle.fleet_site.specs.declared.outcome.Refusal.TheVariants.{Read, Full, Dropped as RefusalDropped}

-- one who waits for the answer to a question: address, identifier, and the question as it is spelled
abbrev pub waiter : Addr → Header → QuestionData → WaiterData
waiter from h q = record { from = from; id = h.id; question = q }

-- the question is turned away: a server failure with it (RCODE 2, RFC 1035 4.1.1), and the refusal
-- `Full`, whether too many questions are open or too many wait for this one
abbrev pub turns_away : Addr → Header → QuestionData → OutcomeData
turns_away from h q = record (sends from (bare_octets h SERVER_FAILURE (Some q)))
    { refused = Some Full }

-- what is said where the table of open questions answered this: a new entry's query goes to the
-- upstream at its place, one who waits is sent nothing yet, and one who was refused is turned away
pub data Forwarded (upstreams : List Addr) (from : Addr) (h : Header) (q : QuestionData)
    (answer : Result Opened PendingFault) (e : OutcomeData) : Type 0 where
  is_asked : (upstream id : ℕ) (there : Addr) → At upstreams upstream there
      → answer ≡ Ok (Send upstream id) → e ≡ sends there (query_octets id q)
      → Forwarded upstreams from h q answer e
  is_quiet : (answer ≡ Ok Joined) ⊎ (answer ≡ Ok Again) → e ≡ nothing
      → Forwarded upstreams from h q answer e
  is_turned_away : (f : PendingFault) → f ≢ OutOfMemory → answer ≡ Err f → e ≡ turns_away from h q
      → Forwarded upstreams from h q answer e

-- the question goes to the table of open questions, and what is said depends on the table's answer
pub record Forwards (upstreams : List Addr) (o : PendingData) (t : Seconds) (from : Addr) (word : ℕ)
    (h : Header) (q : QuestionData) (d : Effect) : Type 0 where
  pub answer : Result Opened PendingFault
  pub asks : Asks o (waiter from h q) t word answer d.asking
  pub says : Forwarded upstreams from h q answer d.says
  pub brings : d ≡ says_only d.says d.asking

-- what a site does with a question where this was decided. Where nothing known answers it, it is
-- refused if recursion is not wanted (RD clear, RCODE 5, RFC 1035 4.1.1), and else goes to the table of
-- open questions
abbrev pub Reacts : List Addr → PendingData → Seconds → Addr → ℕ → DecisionData → Effect → Type 0
Reacts upstreams o t from word Dropped d = d ≡ refuses RefusalDropped o
Reacts upstreams o t from word (Reply octets) d = d ≡ says_only (sends from octets) o
Reacts upstreams o t from word (Unread octets f) d =
    d ≡ says_only (record (sends from octets) { refused = Some (Read f) }) o
Reacts upstreams o t from word (Miss h q) d =
    when h.rd ≡ false then d ≡ says_only (sends from (bare_octets h REFUSED (Some q))) o otherwise
    Forwards upstreams o t from word h q d

-- what a site does with octets from an address that is no upstream's and no peer's
abbrev pub Questioned : Observations → List Addr → PendingData → Seconds → Addr → ℕ → OctetList
    → Effect → Type 0
Questioned taken upstreams o t from word octets d =
    (v : DecisionData) × Decides taken t octets v × Reacts upstreams o t from word v d
