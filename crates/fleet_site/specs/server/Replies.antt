-- What the clients of a server get: each reply answers a question of their own, at most one for each.
-- Serves law `own_replies`.
use Rattle.std.specs.Prelude.{◌≡◌, ℕ, ◌<◌, ◌≤◌, List, [], ◌++◌, length, Option, Some, None}
use Rattle.fleet_name.specs.Types.{OctetList}
use Rattle.fleet_name.specs.Places.{At}
use Rattle.fleet_wire.specs.Types.{Place}
use Rattle.fleet_wire.specs.Message.{header_of, IsQuery}
use Rattle.fleet_wire.specs.Outline.{OutlineData, octets_of_outline}
use Rattle.fleet_wire.specs.Question.{QuestionData}
use Rattle.fleet_wire.specs.declared.bounds.TheConstants.{LONGEST_MESSAGE}
use Rattle.fleet_pending.specs.declared.addr.Addr.{Addr}
use Rattle.fleet_site.specs.ConfigData.{ConfigData, IsAmong}
use Rattle.fleet_site.specs.PacketData.{PacketData}
use Rattle.fleet_site.specs.SiteData.{SiteData}
use Rattle.fleet_site.specs.SiteModel.{SiteModel, IsLawfulModel}
use Rattle.fleet_site.specs.StandsFor.{StandsFor, opening}
use Rattle.fleet_site.specs.question.Decision.{IsAsking}
use Rattle.fleet_site.specs.server.PortRecord.{PortCall, Received, PortState}
use Rattle.fleet_site.specs.server.Sending.{IsSend}
use Rattle.fleet_site.specs.server.Served.{RunInput, Served}
use Rattle.fleet_site.specs.declared.report.Report.{Report}

-- an address that is neither an upstream's nor a peer's
pub record IsClient (c : ConfigData) (addr : Addr) : Type 0 where
  pub no_upstream : ¬ IsAmong c.upstreams addr
  pub no_peer : ¬ IsAmong c.peers addr

-- the call at this place received these octets from this address
abbrev pub ReceivedAt : List PortCall → ℕ → Addr → OctetList → Type 0
ReceivedAt calls k from octets = (room : ℕ) × At calls k (Received room from octets)

-- the call at this place sent this packet, or lost it
abbrev pub SentAt : List PortCall → ℕ → PacketData → Type 0
SentAt calls k p = (call : PortCall) × At calls k call × IsSend p call

-- the question that is read of what was asked: the Opcode is 0, and it is a query without a fault
abbrev pub IsReadAs : OctetList → QuestionData → Type 0
IsReadAs asked q =
    ((header_of asked).opcode ≡ 0) × (past : Place) × IsQuery asked (header_of asked) q past

-- the question that was asked, octet for octet as it is spelled there; none where none is read
abbrev pub Echoes : OctetList → Option QuestionData → Type 0
Echoes asked None = (q : QuestionData) → ¬ IsReadAs asked q
Echoes asked (Some q) = IsReadAs asked q

-- octets that reply to a question, never to a reply: with its identifier, Opcode and RD
-- (RFC 1035 4.1.1), a question that echoes it so, and at most LONGEST_MESSAGE octets (RFC 1035 2.3.4)
pub record RepliesWith (Echo : OctetList → Option QuestionData → Type 0) (asked octets : OctetList)
    : Type 0 where
  pub asks : IsAsking asked
  pub outline : OutlineData
  pub written : octets ≡ octets_of_outline outline
  pub id : outline.id ≡ (header_of asked).id
  pub opcode : outline.opcode ≡ (header_of asked).opcode
  pub rd : outline.rd ≡ (header_of asked).rd
  pub question : Echo asked outline.question
  pub short : length octets ≤ LONGEST_MESSAGE

-- octets that reply to a question, with the question in its own spelling
abbrev pub RepliesTo : OctetList → OctetList → Type 0
RepliesTo asked octets = RepliesWith Echoes asked octets

-- among these calls of a port each packet to a client is paired with a datagram that came before from
-- that client, to which it replies, and no two with the same one
pub record RepliesOnce (c : ConfigData) (calls : List PortCall) : Type 0 where
  pub question_at : ℕ → ℕ
  pub replies : (k : ℕ) (p : PacketData) → SentAt calls k p → IsClient c p.to
      → (question_at k < k) × ((octets : OctetList) × ReceivedAt calls (question_at k) p.to octets
      × RepliesTo octets p.octets)
  pub once : (k l : ℕ) (p r : PacketData) → SentAt calls k p → SentAt calls l r → IsClient c p.to
      → IsClient c r.to → question_at k ≡ question_at l → k ≡ l

-- a model that has no open question
pub record HasNoneOpen (m : SiteModel) : Type 0 where
  pub lawful : IsLawfulModel m
  pub none : m.pending.entries ≡ []

-- a site that has no open question
pub record OwesNothing (s : SiteData) : Type 0 where
  pub model : SiteModel
  pub stands : StandsFor s model
  pub none : HasNoneOpen model

-- a site that was made new, or restarted, has no open question
abbrev pub NewOwesNothing : Type 0
NewOwesNothing = (s : SiteData) (upstreams peers : List Addr)
    → StandsFor s (opening upstreams peers) → OwesNothing s

-- runs of servers one after the other, each with the site that the one before left, and all calls of
-- their ports
pub data RunsLead (first : SiteData) : List PortCall → SiteData → Type 0 where
  no_run : RunsLead first [] first
  one_run : {calls : List PortCall} {site after : SiteData} (old new : PortState) (i : RunInput)
      (report : Report) (run : Served old new site after i report) → RunsLead first calls site
      → RunsLead first (calls ++ run.end.calls) after

-- each packet to a client replies to a question of its own, once, in all runs, one after the other, of
-- a site that had no open question at first
abbrev pub RepliesOnceInRuns : Type 0
RepliesOnceInRuns =
    (first after : SiteData) (calls : List PortCall) → OwesNothing first
    → RunsLead first calls after → RepliesOnce first.config calls
