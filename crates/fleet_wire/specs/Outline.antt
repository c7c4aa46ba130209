-- What a reply that is to be written says, and its octets (RFC 1035 4.1).
-- Serves `write_reply`, `write_reply_into`, every call of `Outline`, law `reply_reads_back`.
use Rattle.std.specs.Prelude.{◌≡◌, ℕ, ◌+◌, ◌*◌, ◌<◌, ◌≤◌, List, [], ◌∷◌, ◌++◌, length, Bool, true, false, Option, Some, None, if◌then◌else◌, nat_le}
use Rattle.std.specs.List.{flat_map, AllByRecursion}
use Rattle.fleet_name.specs.Types.{Labels, OctetList}
use Rattle.fleet_wire.specs.Types.{RType, Seconds}
use Rattle.fleet_name.specs.Name.{wire, IsName}
use Rattle.fleet_wire.specs.Number.{u16_octets, u32_octets}
use Rattle.fleet_wire.specs.Question.{QuestionData, IsQuestionData}
use Rattle.fleet_wire.specs.Record.{RecordData}
use Rattle.fleet_wire.specs.Shape.{IsPlain}
use Rattle.fleet_wire.specs.Message.{MessageData}
use Rattle.fleet_wire.specs.declared.bounds.TheConstants.{LONGEST_MESSAGE}
use Rattle.fleet_wire.specs.declared.class.TheConstants.{IN}

-- what a reply that is to be written says: the header fields, the question if any, and the records
-- of the answer and authority sections
pub record OutlineData : Type 0 where
  pub id : ℕ
  pub opcode : ℕ
  pub rd : Bool
  pub rcode : ℕ
  pub tc : Bool
  pub question : Option QuestionData
  pub answer : List RecordData
  pub authority : List RecordData

-- the outline of these parts
abbrev pub outline_data : ℕ → ℕ → Bool → ℕ → Bool → Option QuestionData → List RecordData
    → List RecordData → OutlineData
outline_data id opcode rd rcode tc question answer authority = record {
  id = id;
  opcode = opcode;
  rd = rd;
  rcode = rcode;
  tc = tc;
  question = question;
  answer = answer;
  authority = authority;
}

-- the bit n of a flag where it is set, else 0
abbrev pub flag : Bool → ℕ → ℕ
flag b n = if b then n else 0

-- a record: its name in full, ten octets, and its RDATA (RFC 1035 4.1.3)
abbrev pub record_octets : RecordData → OctetList
record_octets r = wire r.name
    ++ (u16_octets r.rtype
    ++ (u16_octets r.class ++ (u32_octets r.ttl ++ (u16_octets (length r.rdata) ++ r.rdata))))

-- a question in its own spelling (RFC 1035 4.1.2)
abbrev pub question_octets : QuestionData → OctetList
question_octets q = q.spelled ++ (u16_octets q.rtype ++ u16_octets q.class)

-- the octets of the question, if there is one
abbrev pub question_octets_if_any : Option QuestionData → OctetList
question_octets_if_any None = []
question_octets_if_any (Some q) = question_octets q

-- QDCOUNT: 1 where there is a question, else 0 (RFC 1035 4.1.1)
abbrev pub question_count : Option QuestionData → ℕ
question_count None = 0
question_count (Some q) = 1

-- the twelve octets of a header with these counts of records: QR and RA are set, AA is clear (RFC
-- 1035 4.1.1)
abbrev pub header_octets : OutlineData → Bool → ℕ → ℕ → OctetList
header_octets o tc an ns =
    u16_octets o.id
    ++ ((128 + o.opcode * 8 + flag tc 2 + flag o.rd 1) ∷ (128 + o.rcode)
    ∷ (u16_octets (question_count o.question) ++ (u16_octets an ++ (u16_octets ns ++ 0 ∷ 0 ∷ []))))

-- all of a reply: the header, the question if any, and the records of both sections
abbrev pub whole_octets : OutlineData → OctetList
whole_octets o = header_octets o o.tc (length o.answer) (length o.authority)
    ++ (question_octets_if_any o.question
    ++ (flat_map record_octets o.answer ++ flat_map record_octets o.authority))

-- a reply that is cut off: the header with TC set, and the question if any
abbrev pub cut_octets : OutlineData → OctetList
cut_octets o = header_octets o true 0 0 ++ question_octets_if_any o.question

-- a line: a record of the class IN
abbrev pub line : Labels → RType → Seconds → OctetList → RecordData
line name rtype ttl rdata =
    record { name = name; rtype = rtype; class = IN; ttl = ttl; rdata = rdata }

-- the outline with one more record at the end of its answer section
abbrev pub with_answer : OutlineData → RecordData → OutlineData
with_answer o r = record o { answer = o.answer ++ r ∷ [] }

-- the outline with one more record at the end of its authority section
abbrev pub with_authority : OutlineData → RecordData → OutlineData
with_authority o r = record o { authority = o.authority ++ r ∷ [] }

-- the octets of a reply: all of it where that has at most LONGEST_MESSAGE octets, else header and
-- question, cut off, with TC (RFC 1035 4.1.1, 4.2.1)
unfoldable pub octets_of_outline : OutlineData → OctetList
octets_of_outline o =
    if nat_le (length (whole_octets o)) LONGEST_MESSAGE then whole_octets o else cut_octets o

-- a record as a line has it: its owner is a name, and its class IN
pub record IsLine (r : RecordData) : Type 0 where
  pub name : IsName r.name
  pub class : r.class ≡ IN

-- the question is lawful, if there is one
abbrev pub IsQuestionIfAny : Option QuestionData → Type 0
IsQuestionIfAny None = Unit {0}
IsQuestionIfAny (Some q) = IsQuestionData q

-- what every outline of a program meets: an opcode and an RCODE of four bits, a lawful question if
-- any, and lines in both sections
pub record IsOutlineData (o : OutlineData) : Type 0 where
  pub opcode : o.opcode < 16
  pub rcode : o.rcode < 16
  pub question : IsQuestionIfAny o.question
  pub answer : AllByRecursion IsLine o.answer
  pub authority : AllByRecursion IsLine o.authority

-- the RDATA is plain for its type
abbrev pub HasPlainRdata : RecordData → Type 0
HasPlainRdata r = IsPlain r.rtype r.rdata

-- an outline that reads back: with a question, TC clear, plain RDATA, and within a message
pub record IsWhole (o : OutlineData) (q : QuestionData) : Type 0 where
  pub clear : o.tc ≡ false
  pub question : o.question ≡ Some q
  pub answer : AllByRecursion HasPlainRdata o.answer
  pub authority : AllByRecursion HasPlainRdata o.authority
  pub fits : length (whole_octets o) ≤ LONGEST_MESSAGE

-- the reply as which such an outline is read back
abbrev pub message_of_outline : OutlineData → QuestionData → MessageData
message_of_outline o q = record {
  header = record {
    id = o.id;
    response = true;
    opcode = o.opcode;
    aa = false;
    tc = false;
    rd = o.rd;
    rcode = o.rcode;
    counts = 1 ∷ length o.answer ∷ length o.authority ∷ 0 ∷ [];
  };
  question = q;
  answer = o.answer;
  authority = o.authority;
}

-- What follows, private contracts alone cite.

-- the records of a section, one after the other
abbrev pub section_octets : List RecordData → OctetList
section_octets rs = flat_map record_octets rs
