-- What a reply says of an answer: its header, its question, and records (RFC 1035 4.1).
-- Serves `Site::datagram`, `Site::datagram_into`, `Site::ask`.
use Rattle.std.specs.Prelude.{◌≡◌, ℕ, List, [], ◌∷◌, ◌++◌, Option, Some, false, map}
use Rattle.fleet_name.specs.Types.{Labels, OctetList}
use Rattle.fleet_wire.specs.Outline.{OutlineData, line, octets_of_outline}
use Rattle.fleet_wire.specs.Question.{QuestionData}
use Rattle.fleet_wire.specs.Record.{RecordData}
use Rattle.fleet_wire.specs.declared.header.Header.{Header}
use Rattle.fleet_wire.specs.declared.rtype.TheConstants.{SOA}
use Rattle.fleet_wire.specs.declared.rcode.TheConstants.{NO_ERROR, NAME_ERROR}
use Rattle.fleet_observe.specs.Body.{positive_body, negative_body, IsDenial}
use Rattle.fleet_cache.specs.Answer.{ShownData, AnswerData, Missed, Found, NoData, NxDomain}

-- a reply without records: identifier, Opcode and RD are copied from the question's header
abbrev pub bare_outline : Header → ℕ → Option QuestionData → OutlineData
bare_outline h rcode q = record {
  id = h.id;
  opcode = h.opcode;
  rd = h.rd;
  rcode = rcode;
  tc = false;
  question = q;
  answer = [];
  authority = [];
}

-- the octets of a reply without records
abbrev pub bare_octets : Header → ℕ → Option QuestionData → OctetList
bare_octets h rcode q = octets_of_outline (bare_outline h rcode q)

-- the record of one RDATA of a part of an answer, with the TTL shown
abbrev pub row : ShownData → OctetList → RecordData
row p rdata = line p.observation.name p.observation.rtype p.ttl rdata

-- the records of a part of an answer: one for each RDATA, in their order
abbrev pub AreRows : ShownData → List RecordData → Type 0
AreRows p rows =
    (rdatas : List OctetList) × (p.observation.body ≡ positive_body rdatas)
    × (rows ≡ map (row p) rdatas)

-- the records of the links of an answer, link by link
abbrev pub AreChainRows : List ShownData → List RecordData → Type 0
AreChainRows [] rows = rows ≡ []
AreChainRows (p ∷ ps) rows = (first : List RecordData) × (others : List RecordData)
    × AreRows p first
    × AreChainRows ps others × (rows ≡ first ++ others)

-- the SOA record of a denial that is held, with the TTL shown (RFC 2308 6)
abbrev pub IsSoaRow : ShownData → RecordData → Type 0
IsSoaRow p r = (owner : Labels) × (rdata : OctetList) × IsDenial p.observation.name owner rdata
    × (p.observation.body ≡ negative_body owner rdata) × (r ≡ line owner SOA p.ttl rdata)

-- the octets of an answer with records: the links, and then the records
abbrev pub WritesRecords : Header → QuestionData → List ShownData → ShownData → OctetList → Type 0
WritesRecords h q chain set octets =
    (links : List RecordData) × (rows : List RecordData) × AreChainRows chain links
    × AreRows set rows
    × (octets ≡ octets_of_outline
    (record (bare_outline h NO_ERROR (Some q)) { answer = links ++ rows }))

-- the octets of a denial: the links in the answer section, and the SOA in the authority section
-- (RFC 2308 6)
abbrev pub WritesDenial : Header → ℕ → QuestionData → List ShownData → ShownData
    → OctetList → Type 0
WritesDenial h rcode q chain soa octets =
    (links : List RecordData) × (r : RecordData) × AreChainRows chain links × IsSoaRow soa r
    × (octets ≡ octets_of_outline
    (record (bare_outline h rcode (Some q)) { answer = links; authority = r ∷ [] }))

-- the octets of an answer that is no miss: the links, then the records or the SOA, each with the TTL
-- shown; RCODE 3 for a name error, else 0
abbrev pub Writes : Header → QuestionData → AnswerData → OctetList → Type 0
Writes h q Missed octets = ⊥
Writes h q (Found chain set) octets = WritesRecords h q chain set octets
Writes h q (NoData chain soa) octets = WritesDenial h NO_ERROR q chain soa octets
Writes h q (NxDomain chain soa) octets = WritesDenial h NAME_ERROR q chain soa octets
