-- What messages say: a header, a question, and records (RFC 1035 4.1).
-- Serves `read_header`, `read_query`, `read_plain_query`, `read_reply`, every call of `Message`,
-- and the laws of queries and replies.
use Rattle.std.specs.Prelude.{◌≡◌, ◌≢◌, ◌/◌, ◌%◌, ◌<◌, ◌≤◌, ◌⊎◌, List, [], ◌∷◌, ◌++◌, length, drop, slice_index, Bool, true, false, nat_eq, nat_le, IsTrue}
use Rattle.std.specs.List.{AllByRecursion}
use Rattle.fleet_name.specs.Types.{OctetList}
use Rattle.fleet_wire.specs.Types.{Place}
use Rattle.fleet_name.specs.Name.{wire}
use Rattle.fleet_wire.specs.Number.{u16_at}
use Rattle.fleet_wire.specs.Question.{QuestionData, IsQuestionData, IsQuestion, QuestionFails}
use Rattle.fleet_wire.specs.Record.{RecordData, IsPlainRecord, RecordsAt, RecordsFail}
use Rattle.fleet_wire.specs.declared.bounds.TheConstants.{LONGEST_MESSAGE}
use Rattle.fleet_wire.specs.declared.fault.ReadFault.{ReadFault}
use Rattle.fleet_wire.specs.declared.fault.ReadFault.TheVariants.{TooShort, TooLong, QuestionCount}
use Rattle.fleet_wire.specs.declared.header.Header.{Header}

-- the header in the first twelve octets (RFC 1035 4.1.1)
abbrev pub header_of : OctetList → Header
header_of m = record {
  id = u16_at m 0;
  response = nat_le 128 (slice_index m 2);
  opcode = slice_index m 2 / 8 % 16;
  aa = nat_eq (slice_index m 2 / 4 % 2) 1;
  tc = nat_eq (slice_index m 2 / 2 % 2) 1;
  rd = nat_eq (slice_index m 2 % 2) 1;
  rcode = slice_index m 3 % 16;
  counts = u16_at m 4 ∷ u16_at m 6 ∷ u16_at m 8 ∷ u16_at m 10 ∷ [];
}

-- the opcode and the RCODE have four bits, as in every header that was read (RFC 1035 4.1.1)
pub record IsHeader (h : Header) : Type 0 where
  pub opcode : h.opcode < 16
  pub rcode : h.rcode < 16

-- m has 12 to LONGEST_MESSAGE octets, and counts one question
pub record HasOneQuestion (m : OctetList) : Type 0 where
  pub long : 12 ≤ length m
  pub short : length m ≤ LONGEST_MESSAGE
  pub one : u16_at m 4 ≡ 1

-- The first fault of a header: it is not whole, the message is too long, or it doesn't count one
-- question.
pub data HeaderFails (m : OctetList) (f : ReadFault) : Type 0 where
  no_header : length m < 12 → f ≡ TooShort → HeaderFails m f
  long_message : LONGEST_MESSAGE < length m → f ≡ TooLong → HeaderFails m f
  not_one : 12 ≤ length m → length m ≤ LONGEST_MESSAGE → u16_at m 4 ≢ 1 → f ≡ QuestionCount
      → HeaderFails m f

-- m has a header and a question, which ends before past; whatever follows the question is free
pub record IsQuery (m : OctetList) (h : Header) (q : QuestionData) (past : Place) : Type 0 where
  pub counted : HasOneQuestion m
  pub header : h ≡ header_of m
  pub question : IsQuestion m 12 q past

-- m is a query whose name is in full and in lower case: it has no pointer and no capital letter
-- (RFC 1035 4.1, 4.1.4)
pub record IsPlainQuery (m : OctetList) (h : Header) (q : QuestionData) : Type 0 where
  pub past : Place
  pub query : IsQuery m h q past
  pub lower_case : q.spelled ≡ wire q.name
  pub others : OctetList
  pub in_full : drop 12 m ≡ wire q.name ++ others

-- the first fault of m as a query: its header's, or its question's
abbrev pub QueryFails : OctetList → ReadFault → Type 0
QueryFails m f = HeaderFails m f ⊎ (HasOneQuestion m × QuestionFails m 12 f)

-- the octets are a query: a header and one question
abbrev pub HasQuery : OctetList → Type 0
HasQuery m = (q : QuestionData) × (past : Place) × IsQuery m (header_of m) q past

-- a reply that was read, as plain data
pub record MessageData : Type 0 where
  pub header : Header
  pub question : QuestionData
  pub answer : List RecordData
  pub authority : List RecordData

-- the reply of these parts
abbrev pub message_data : Header → QuestionData → List RecordData → List RecordData → MessageData
message_data header question answer authority =
    record { header = header; question = question; answer = answer; authority = authority }

-- What every reply that was read meets: a lawful header and question, plain records whatever their
-- class, and none of them where it was cut off.
pub record IsRead (r : MessageData) : Type 0 where
  pub header : IsHeader r.header
  pub question : IsQuestionData r.question
  pub answer : AllByRecursion IsPlainRecord r.answer
  pub authority : AllByRecursion IsPlainRecord r.authority
  pub cut : IsTrue r.header.tc → (r.answer ≡ []) × (r.authority ≡ [])

-- the answer and authority sections, which follow the question; where the message says that it was
-- cut off, none is read
abbrev pub SectionsAt : OctetList → Place → Bool → List RecordData → List RecordData → Type 0
SectionsAt m past true a b = (a ≡ []) × (b ≡ [])
SectionsAt m past false a b = (middle : Place) × (end : Place) × RecordsAt m past a middle
    × (length a ≡ u16_at m 6) × RecordsAt m middle b end × (length b ≡ u16_at m 8)

-- the first fault of these sections; none where the message was cut off
abbrev pub SectionsFail : OctetList → Place → Bool → ReadFault → Type 0
SectionsFail m past true f = ⊥
SectionsFail m past false f = RecordsFail m past (u16_at m 6) f
    ⊎ ((a : List RecordData) × (middle : Place) × RecordsAt m past a middle × (length a ≡ u16_at m 6)
    × RecordsFail m middle (u16_at m 8) f)

-- m is this reply; whatever follows its last part is free
pub record IsReply (m : OctetList) (r : MessageData) : Type 0 where
  pub past : Place
  pub query : IsQuery m r.header r.question past
  pub sections : SectionsAt m past r.header.tc r.answer r.authority

-- the octets are a reply
abbrev pub HasReply : OctetList → Type 0
HasReply m = (r : MessageData) × IsReply m r

-- the first fault of m as a reply: its fault as a query, or that of its sections
abbrev pub ReplyFails : OctetList → ReadFault → Type 0
ReplyFails m f = QueryFails m f
    ⊎ ((q : QuestionData) × (past : Place) × IsQuery m (header_of m) q past
    × SectionsFail m past (header_of m).tc f)
