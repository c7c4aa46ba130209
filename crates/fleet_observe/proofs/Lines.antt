-- The lines of a relayed reply.
-- Serves `add_rrset`, `outline_of`.
use Rattle.std.proofs.Common.{◌≡◌, ◌<◌, arith, ℕ, Bool, List, [], ◌∷◌, ◌++◌, ap, sym, ◌∙◌, refl, append_assoc, append-nil, map, Option, Some}
use Rattle.fleet_wire.specs.Question.{QuestionData}
use Rattle.fleet_wire.specs.Record.{RecordData}
use Rattle.fleet_wire.specs.Outline.{OutlineData, line}
use Rattle.fleet_observe.specs.RrSet.{RrSetData}
use Rattle.fleet_observe.specs.Digest.{EndData, Records, NoData, NxDomain, Code, Truncated, IsLawfulEnd}
use Rattle.fleet_observe.specs.Relay.{code_of, set_lines, chain_lines, with_answer_lines}

pub no_answers : (o : OutlineData) → with_answer_lines o [] ≡ o
no_answers o = rw (append-nil o.answer) refl

pub more_answers : (o : OutlineData) (a b : List RecordData)
    → with_answer_lines (with_answer_lines o a) b ≡ with_answer_lines o (a ++ b)
more_answers o a b = rw (append_assoc o.answer a b) refl

pub lines-push : (name : List (List ℕ)) (rtype ttl : ℕ) (ds : List (List ℕ)) (d : List ℕ)
    → map (line name rtype ttl) (ds ++ d ∷ []) ≡ map (line name rtype ttl) ds ++ line name rtype
    ttl d ∷ []
lines-push name rtype ttl [] d = refl
lines-push name rtype ttl (x ∷ ds) d = ap (λ (t : List RecordData). line name rtype ttl x ∷ t)
    (lines-push name rtype ttl ds d)

pub chain_lines-push : (xs : List RrSetData) (x : RrSetData)
    → chain_lines (xs ++ x ∷ []) ≡ chain_lines xs ++ set_lines x
chain_lines-push [] x = append-nil (set_lines x)
chain_lines-push (y ∷ xs) x = ap (λ (t : List RecordData). set_lines y ++ t)
    (chain_lines-push xs x) ∙ sym (append_assoc (set_lines y) (chain_lines xs) (set_lines x))

abbrev pub sketch_with : ℕ → ℕ → ℕ → Bool → Bool → Option QuestionData → List RecordData
    → List RecordData → OutlineData
sketch_with id opcode rcode rd tc q answer authority = record {
  id = id;
  opcode = opcode;
  rd = rd;
  rcode = rcode;
  tc = tc;
  question = q;
  answer = answer;
  authority = authority;
}

pub sketch_is : (o : OutlineData) (id opcode rcode : ℕ) (rd tc : Bool) (q : QuestionData)
    → o.id ≡ id → o.opcode ≡ opcode → o.rd ≡ rd → o.rcode ≡ rcode → o.tc ≡ tc → o.question ≡ Some q
    → o.answer ≡ [] → o.authority ≡ []
    → o ≡ sketch_with id opcode rcode rd tc (Some q) [] []
sketch_is o id opcode rcode rd tc q a b c d e f g h =
    let same : sketch_with o.id o.opcode o.rcode o.rd o.tc o.question o.answer o.authority
    ≡ sketch_with id opcode rcode rd tc (Some q) [] [] = rw (a, b, c, d, e, f, g, h) refl in
    same

-- a code has four bits
pub code_short : (n : List (List ℕ)) (e : EndData) → IsLawfulEnd n e → code_of e < 16
code_short n (Records x) is = omega arith
code_short n (NoData soa) is = omega arith
code_short n (NxDomain soa) is = omega arith
code_short n (Code c) is = is
code_short n Truncated is = omega arith
