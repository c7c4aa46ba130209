-- What is read is lawful: a question spells its name, and the RDATA of a record is plain.
-- Serves `question_of`, `message_of`, `reply_head`, `append_name`, law `reply_is_read`, and
-- fleet_world.
use Rattle.std.proofs.Common.{◌≡◌, ℕ, ◌+◌, List, [], ◌∷◌, length, take, drop, refl, sym, ap, ◌∙◌, subst, arith, Option, Some, None, Bool, true, false, get_or}
use Rattle.std.proofs.lemmas.List.{length-take-le, length-drop}
use Rattle.std.specs.Prelude.{IsTrue}
use Rattle.std.specs.List.{AllByRecursion}
use Rattle.fleet_name.specs.Name.{wire, lower, lower_all, IsLabel, IsName}
use Rattle.fleet_wire.specs.Number.{u16_at}
use Rattle.fleet_wire.specs.Question.{QuestionData, IsQuestionData, IsQuestion}
use Rattle.fleet_wire.specs.Shape.{shape_of, PartsAt, ShapeAt, ArePlain, HasShape}
use Rattle.fleet_wire.specs.Record.{RecordData, RecordAt, RecordsAt, IsPlainRecord}
use Rattle.fleet_wire.specs.Message.{IsHeader, IsRead, HasOneQuestion, IsQuery, MessageData, IsReply, SectionsAt, header_of, message_data}
use Rattle.fleet_wire.specs.declared.header.Header.{Header}
use Rattle.fleet_wire.specs.declared.shape.Part.{Part}
use Rattle.fleet_wire.specs.declared.shape.Part.TheVariants.{Plain, Name}
use Rattle.fleet_wire.proofs.Parts.{reads_named}
use Rattle.fleet_name.proofs.Lemmas.{any_case-from_lower, lower-wire}

-- the octets of labels of any case, put in lower case, are their name's
pub spells_name : (octets : List ℕ) (labels name : List (List ℕ)) → octets ≡ wire labels
    → name ≡ lower_all labels → IsName name → lower octets ≡ wire name
spells_name octets labels name is e named =
    let all : AllByRecursion IsLabel (lower_all labels) = rw e at named.labels in
    ap lower is ∙ (lower-wire labels (any_case-from_lower labels all) ∙ ap wire (sym e))

pub header_lawful : (m : List ℕ) (h : Header) → h ≡ header_of m → IsHeader h
header_lawful m h is =
    let lawful : IsHeader (header_of m) = record { opcode = omega arith; rcode = omega arith } in
    subst (λ (x : Header). IsHeader x) (sym is) lawful

pub question_asked : (m : List ℕ) (p : ℕ) (q : QuestionData) (e : ℕ) → IsQuestion m p q e
    → IsQuestionData q
question_asked m p q e is =
    record {
      spelled = spells_name q.spelled is.labels q.name is.spelled is.name is.named;
      named =
          is.named;
    }

parts_plain : (m : List ℕ) (parts : List Part) (p : ℕ) (o : List ℕ) (e : ℕ) → PartsAt m parts p o e
    → ArePlain parts o
parts_plain m [] p o e at = at.0
parts_plain m (Plain n ∷ parts) p o e at = (
  take n (drop p m),
  at.0,
  at.3,
  length-take-le n (drop p m) (omega (arith, at.1, length-drop p m)),
  parts_plain m parts (p + n) at.0 e at.2,
)
parts_plain m (Name ∷ parts) p o e at =
    (at.0, at.2, at.5, reads_named m p at.0 at.1 at.3, parts_plain m parts at.1 at.2 e at.4)

shape_plain : (m : List ℕ) (p k : ℕ) (s : Option (List Part)) (o : List ℕ) → ShapeAt m p k s o
    → HasShape s o
shape_plain m p k None o at = tt
shape_plain m p k (Some parts) o at = parts_plain m parts p o (p + k) at

record_plain : (m : List ℕ) (p : ℕ) (r : RecordData) (e : ℕ) → RecordAt m p r e → IsPlainRecord r
record_plain m p r e at =
    record {
      name = reads_named m p r.name at.past at.name;
      rdata =
          shape_plain m _ _ (shape_of r.rtype) r.rdata at.rdata;
    }

pub records_plain : (m : List ℕ) (p : ℕ) (rs : List RecordData) (e : ℕ) → RecordsAt m p rs e
    → AllByRecursion IsPlainRecord rs
records_plain m p [] e at = tt
records_plain m p (r ∷ rs) e at = (record_plain m p r at.0 at.1, records_plain m at.0 rs e at.2)

pub query_read : (m : List ℕ) (h : Header) (q : QuestionData) (past : ℕ)
    → HasOneQuestion m × (h ≡ header_of m) → IsQuestion m 12 q past → IsQuery m h q past
query_read m h q past head question =
    record { counted = head.0; header = head.1; question = question }

IsClear : Bool → Type 0
IsClear true = ⊥
IsClear false = Unit {0}

-- A header, a question and the records that were read after them.
module _ (m : List ℕ) (h : Header) (q : QuestionData) (past : ℕ) (is : IsQuery m h q past) where
  pub cut_read : IsTrue h.tc → (a b : List RecordData) → a ≡ [] → b ≡ []
      → IsRead (message_data h q a b)
  cut_read cut a b none none' =
      record {
        header = header_lawful m h is.header;
        question =
            question_asked m 12 q past is.question;
        answer = rw none tt;
        authority = rw none' tt;
        cut =
            λ _. (none, none');
      }

  pub cut_reply : IsTrue h.tc → (a b : List RecordData) → a ≡ [] → b ≡ []
      → IsReply m (message_data h q a b)
  cut_reply cut a b none none' =
      record {
        past = past;
        query = is;
        sections =
            subst (λ (x : Bool). SectionsAt m past x a b) (sym cut) (none, none');
      }

  pub whole_read : h.tc ≡ false → (a b : List RecordData) (middle end : ℕ)
      → RecordsAt m past a middle
      → RecordsAt m middle b end → IsRead (message_data h q a b)
  unfolding IsClear
  whole_read whole a b middle end at at' =
      let never : IsTrue h.tc → ⊥ = λ cut. subst (λ (x : Bool). IsClear x) (sym whole ∙ cut) tt in
      record {
        header = header_lawful m h is.header;
        question =
            question_asked m 12 q past is.question;
        answer = records_plain m past a middle at;
        authority =
            records_plain m middle b end at';
        cut = λ cut. absurd (never cut);
      }

  pub whole_reply : h.tc ≡ false → (a b : List RecordData) (middle end : ℕ)
      → RecordsAt m past a middle
      → length a ≡ get_or h.counts 1 0 → RecordsAt m middle b end → length b ≡ get_or h.counts 2 0
      → IsReply m (message_data h q a b)
  whole_reply whole a b middle end at n at' n' =
      let count : length a ≡ u16_at m 6 = n ∙ ap (λ (x : Header). get_or x.counts 1 0) is.header in
      let count' : length b ≡ u16_at m 8 =
      n' ∙ ap (λ (x : Header). get_or x.counts 2 0) is.header in
      record {
        past = past;
        query = is;
        sections =
            subst (λ (x : Bool). SectionsAt m past x a b) (sym whole)
            (middle, end, at, count, at', count');
      }

-- what reads as a reply is lawful
pub reply_read : (m : List ℕ) (r : MessageData) → IsReply m r → IsRead r
reply_read m r is = go r.header.tc refl is.sections
  where
    go : (b : Bool) → r.header.tc ≡ b → SectionsAt m is.past b r.answer r.authority → IsRead r
    go true e s = cut_read m r.header r.question is.past is.query e r.answer r.authority s.0 s.1
    go false e s =
        whole_read m r.header r.question is.past is.query e r.answer r.authority s.0 s.1 s.2 s.4
