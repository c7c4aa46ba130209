-- What a query to an upstream is, as octets (RFC 1035 4.1.1, 4.1.2).
-- Serves `write_query`, law `query_reads_back`.
use Rattle.std.specs.Prelude.{ℕ, [], ◌∷◌, ◌++◌, true, false}
use Rattle.fleet_name.specs.Types.{OctetList}
use Rattle.fleet_name.specs.Name.{wire}
use Rattle.fleet_wire.specs.Question.{QuestionData}
use Rattle.fleet_wire.specs.Number.{u16_octets}
use Rattle.fleet_wire.specs.Outline.{question_octets}
use Rattle.fleet_wire.specs.declared.header.Header.{Header}

-- the question with its name in lower case
abbrev pub lowercase_question : QuestionData → QuestionData
lowercase_question q = record
    { spelled = wire q.name; name = q.name; rtype = q.rtype; class = q.class }

-- the header of a query: RD set, no other flag, and one question
abbrev pub query_head : ℕ → OctetList
query_head id = u16_octets id
    ++ (u16_octets 256 ++ (u16_octets 1 ++ (u16_octets 0 ++ (u16_octets 0 ++ u16_octets 0))))

-- the octets of a query to an upstream: recursion is desired, and the name is in lower case
abbrev pub query_octets : ℕ → QuestionData → OctetList
query_octets id q = query_head id ++ question_octets (lowercase_question q)

-- the header of a query, as it is read back
abbrev pub query_header : ℕ → Header
query_header id = record {
  id = id;
  response = false;
  opcode = 0;
  aa = false;
  tc = false;
  rd = true;
  rcode = 0;
  counts = 1 ∷ 0 ∷ 0 ∷ 0 ∷ [];
}
