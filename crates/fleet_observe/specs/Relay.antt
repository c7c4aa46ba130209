-- The reply to a waiting client, as an outline.
-- Serves `relay`, `add_rrset`.
use Rattle.std.specs.Prelude.{◌≡◌, ℕ, ◌<◌, length, take, Bool, true, false, List, [], ◌∷◌, ◌++◌, map, Option, Some, None}
use Rattle.std.specs.List.{flat_map}
use Rattle.fleet_wire.specs.Question.{QuestionData}
use Rattle.fleet_wire.specs.Record.{RecordData}
use Rattle.fleet_wire.specs.Outline.{OutlineData, line}
use Rattle.fleet_wire.specs.declared.rcode.TheConstants.{NAME_ERROR, NO_ERROR}
use Rattle.fleet_wire.specs.declared.rtype.TheConstants.{SOA}
use Rattle.fleet_observe.specs.RrSet.{RrSetData}
use Rattle.fleet_observe.specs.Soa.{SoaData}
use Rattle.fleet_observe.specs.Digest.{EndData, Records, NoData, NxDomain, Code, Truncated, DigestData}

-- the code of a relay: NAME_ERROR for a name error, the reply's own code where it is another, else
-- NO_ERROR
abbrev pub code_of : EndData → ℕ
code_of (Records x) = NO_ERROR
code_of (NoData soa) = NO_ERROR
code_of (NxDomain soa) = NAME_ERROR
code_of (Code c) = c
code_of Truncated = NO_ERROR

-- whether an end is that of a reply that was cut off
abbrev pub is_cut : EndData → Bool
is_cut (Records x) = false
is_cut (NoData soa) = false
is_cut (NxDomain soa) = false
is_cut (Code c) = false
is_cut Truncated = true

-- an RRset's records, their RDATA ascending
abbrev pub set_lines : RrSetData → List RecordData
set_lines x = map (line x.name x.rtype x.ttl) x.rdatas

-- the records of the links
abbrev pub chain_lines : List RrSetData → List RecordData
chain_lines chain = flat_map set_lines chain

-- an end's records for the answer section
abbrev pub answer_lines : EndData → List RecordData
answer_lines (Records x) = set_lines x
answer_lines (NoData soa) = []
answer_lines (NxDomain soa) = []
answer_lines (Code c) = []
answer_lines Truncated = []

-- the record of an SOA, if there is one
abbrev pub soa_lines : Option SoaData → List RecordData
soa_lines None = []
soa_lines (Some x) = line x.owner SOA x.ttl x.rdata ∷ []

-- an end's records for the authority section
abbrev pub authority_lines : EndData → List RecordData
authority_lines (Records x) = []
authority_lines (NoData soa) = soa_lines soa
authority_lines (NxDomain soa) = soa_lines soa
authority_lines (Code c) = []
authority_lines Truncated = []

-- the outline of the reply that a waiting client is sent: the links, and then the records, or the
-- SOA in the authority section
abbrev pub relay_outline : DigestData → QuestionData → ℕ → Bool → OutlineData
relay_outline d q id rd = record {
  id = id;
  opcode = 0;
  rd = rd;
  rcode = code_of d.end;
  tc = is_cut d.end;
  question = Some q;
  answer = chain_lines d.chain ++ answer_lines d.end;
  authority = authority_lines d.end;
}

-- the outline with more records at the end of its answer section
abbrev pub with_answer_lines : OutlineData → List RecordData → OutlineData
with_answer_lines o rs = record o { answer = o.answer ++ rs }

-- the answer section has a number of the first of these records more, not all of them, and all else
-- is as it was
abbrev pub HasFirstOf : OutlineData → List RecordData → OutlineData → Type 0
HasFirstOf old rs new = (n : ℕ) × (n < length rs) × (new ≡ with_answer_lines old (take n rs))

-- What follows, private contracts alone cite.

-- the outline with more records at the end of its authority section
abbrev pub with_authority_lines : OutlineData → List RecordData → OutlineData
with_authority_lines o rs = record o { authority = o.authority ++ rs }

-- the outline with the records of an end at the end of its sections
abbrev pub with_end : OutlineData → EndData → OutlineData
with_end o e =
    record o { answer = o.answer ++ answer_lines e; authority = o.authority ++ authority_lines e }
