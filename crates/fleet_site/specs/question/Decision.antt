-- What a site that took in a set of observations makes of octets that are asked, before it looks at
-- open questions.
-- Serves `Site::datagram`, `Site::datagram_into`, `Site::ask`.
use Rattle.std.specs.Prelude.{◌≡◌, ◌≢◌, ◌<◌, ◌≤◌, Some, None, false, IsTrue, length}
use Rattle.fleet_name.specs.Types.{OctetList}
use Rattle.fleet_wire.specs.Types.{Place, Seconds}
use Rattle.fleet_wire.specs.Message.{header_of, IsQuery, IsPlainQuery, HasQuery, QueryFails}
use Rattle.fleet_wire.specs.Question.{QuestionData}
use Rattle.fleet_wire.specs.declared.fault.ReadFault.{ReadFault}
use Rattle.fleet_wire.specs.declared.header.Header.{Header}
use Rattle.fleet_wire.specs.declared.class.TheConstants.{IN}
use Rattle.fleet_wire.specs.declared.rcode.TheConstants.{FORMAT_ERROR, NOT_IMPLEMENTED}
use Rattle.fleet_observe.specs.Observation.{IsDataType, Observations}
use Rattle.fleet_cache.specs.Answer.{AnswerData, Missed, Found, NoData, NxDomain, answer_of}
use Rattle.fleet_site.specs.Choice.{when◌then◌otherwise◌}
use Rattle.fleet_site.specs.question.AnswerRecords.{bare_octets, Writes}
use Rattle.fleet_site.specs.declared.decision.Decision.{Decision}
use Rattle.fleet_site.specs.declared.decision.Decision.TheVariants.{Dropped as DecisionDropped, Reply as DecisionReply, Unread as DecisionUnread, Miss as DecisionMiss}

-- what is decided of octets: they are dropped; a reply; one that says that they can't be read, for this
-- fault; or a miss, where nothing that is known answers the question
pub data DecisionData : Type 0 where
  Dropped : DecisionData
  Reply : OctetList → DecisionData
  Unread : OctetList → ReadFault → DecisionData
  Miss : Header → QuestionData → DecisionData

-- a question that is answered: of class 1 (IN) and of a type that data can have
pub record IsServedQuestion (q : QuestionData) : Type 0 where
  pub class : q.class ≡ IN
  pub typed : IsDataType q.rtype

-- octets with the header of a question: 12 octets or more, and QR is clear (RFC 1035 4.1.1)
pub record IsAsking (octets : OctetList) : Type 0 where
  pub long : 12 ≤ length octets
  pub question : ¬ IsTrue (header_of octets).response

-- what is decided of a question by what the set answers: its reply, or a miss
abbrev pub DecidesAnswer : Header → QuestionData → AnswerData → DecisionData → Type 0
DecidesAnswer h q Missed v = v ≡ Miss h q
DecidesAnswer h q (Found chain set) v =
    (octets : OctetList) × Writes h q (Found chain set) octets × (v ≡ Reply octets)
DecidesAnswer h q (NoData chain soa) v =
    (octets : OctetList) × Writes h q (NoData chain soa) octets × (v ≡ Reply octets)
DecidesAnswer h q (NxDomain chain soa) v =
    (octets : OctetList) × Writes h q (NxDomain chain soa) octets × (v ≡ Reply octets)

-- what is decided of a question that was read: not implemented (RCODE 4, RFC 1035 4.1.1) where it is
-- not served, else by what the set answers at the moment
abbrev pub DecidesQuestion : Observations → Seconds → Header → QuestionData → DecisionData → Type 0
DecidesQuestion s t h q v =
    when ¬ IsServedQuestion q then v ≡ Reply (bare_octets h NOT_IMPLEMENTED (Some q)) otherwise
    DecidesAnswer h q (answer_of s t q.name q.rtype) v

-- What a site makes of octets that are asked, before it looks at open questions. The first that fits
-- (RFC 1035 4.1.1): under 12 octets or a reply, dropped; another Opcode than 0, not implemented (RCODE
-- 4); no query, a format error (RCODE 1); else it is decided by the question.
abbrev pub Decides : Observations → Seconds → OctetList → DecisionData → Type 0
Decides s t octets v =
    when length octets < 12 then v ≡ Dropped otherwise
    when IsTrue (header_of octets).response then v ≡ Dropped otherwise
    when (header_of octets).opcode ≢ 0
    then v ≡ Reply (bare_octets (header_of octets) NOT_IMPLEMENTED None) otherwise
    when ¬ HasQuery octets
    then ((f : ReadFault) × QueryFails octets f
    × (v ≡ Unread (bare_octets (header_of octets) FORMAT_ERROR None) f)) otherwise
    ((q : QuestionData) × (past : Place) × IsQuery octets (header_of octets) q past
    × DecidesQuestion s t (header_of octets) q v)

-- the header of a standard query (RFC 1035 4.1.1): QR is clear, and the Opcode is 0
pub record IsStandardQuery (h : Header) : Type 0 where
  pub question : h.response ≡ false
  pub plain : h.opcode ≡ 0

-- octets that are a standard query in full and in lower case, which data could answer
pub record IsPlainQuestion (octets : OctetList) (h : Header) (q : QuestionData) : Type 0 where
  pub spelled : IsPlainQuery octets h q
  pub standard : IsStandardQuery h
  pub served : IsServedQuestion q

-- octets that are a standard query in full and in lower case, which the set answers at the moment
pub record IsPlainHit (s : Observations) (t : Seconds) (octets : OctetList) : Type 0 where
  pub header : Header
  pub question : QuestionData
  pub plain : IsPlainQuestion octets header question
  pub known : answer_of s t question.name question.rtype ≢ Missed

-- What follows, private contracts alone cite.

-- a decision, as plain data
abbrev pub decision_data : {A : Type 0} → Decision A → DecisionData
decision_data DecisionDropped = Dropped
decision_data (DecisionReply octets) = Reply octets
decision_data (DecisionUnread octets f) = Unread octets f
decision_data (DecisionMiss h q) = Miss h q
