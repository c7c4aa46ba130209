-- What is written for an asker replies to it.
-- Serves the laws `none_forgotten`, `own_replies`, `questions_answered`.
use Rattle.std.proofs.Common.{◌≡◌, ◌≢◌, ◌⊎◌, inl, inr, ℕ, ◌+◌, ◌<◌, ◌≤◌, Bool, true, false, List, ◌++◌, Option, Some, None, length, refl, sym, ap, ◌∙◌, subst, arith, length-append, cond, nat_le}
use Rattle.std.specs.Prelude.{IsTrue}
use Rattle.std.proofs.lemmas.Bool.{cases_Bool, cases_eq, cases_lt, leb-true}
use Rattle.std.proofs.lemmas.List.{length-map}
use Rattle.std.specs.Char.{to_ascii_lowercase}
use Rattle.fleet_name.specs.Name.{wire, lower, lower_all, IsName}
use Rattle.fleet_name.specs.declared.bounds.TheConstants.{LONGEST_NAME}
use Rattle.fleet_name.proofs.Lemmas.{lower-wire, any_case-from_lower}
use Rattle.fleet_wire.specs.Number.{u16_octets}
use Rattle.fleet_wire.specs.Message.{header_of, IsQuery}
use Rattle.fleet_wire.specs.Question.{QuestionData, IsQuestion}
use Rattle.fleet_wire.specs.Outline.{OutlineData, header_octets, question_octets, question_octets_if_any, whole_octets, cut_octets, octets_of_outline}
use Rattle.fleet_wire.specs.declared.bounds.TheConstants.{LONGEST_MESSAGE}
use Rattle.fleet_wire.specs.declared.class.TheConstants.{IN}
use Rattle.fleet_wire.specs.declared.header.Header.{Header}
use Rattle.fleet_cache.specs.Answer.{AnswerData, Missed, Found, NoData, NxDomain}
use Rattle.fleet_observe.specs.Observation.{ObservationData}
use Rattle.fleet_site.specs.question.AnswerRecords.{bare_outline, bare_octets}
use Rattle.fleet_site.specs.question.Decision.{DecisionData, Dropped, Reply, Unread, Miss, IsAsking, IsServedQuestion, DecidesAnswer, Decides}
use Rattle.fleet_site.specs.server.Replies.{Echoes, RepliesTo}

pub spelled_short : (m : List ℕ) (p : ℕ) (q : QuestionData) (e : ℕ) → IsQuestion m p q e
    → length q.spelled ≤ LONGEST_NAME
spelled_short m p q e h =
    let named = subst (λ (n : List (List ℕ)). IsName n) h.name h.named in
    let low = lower-wire h.labels (any_case-from_lower h.labels named.labels) in
    let a : length (lower (wire h.labels)) ≡ length (wire h.labels) =
    length-map (wire h.labels) to_ascii_lowercase in
    let b : length (lower (wire h.labels)) ≡ length (wire (lower_all h.labels)) = ap length low in
    let d : length q.spelled ≡ length (wire h.labels) = ap length h.spelled in
    omega (arith, a, b, d, named.fits)

pub asked_short : (q : QuestionData) → length q.spelled ≤ LONGEST_NAME
    → length (question_octets_if_any (Some q)) + 12 ≤ LONGEST_MESSAGE
asked_short q l =
    let b : length (question_octets q) ≡ length q.spelled + 4 =
    length-append q.spelled (u16_octets q.rtype ++ u16_octets q.class) in
    omega (arith, l, b)

-- a question is short enough to stand after a header
question_short : (asked : List ℕ) (q : Option QuestionData) → Echoes asked q
    → length (question_octets_if_any q) + 12 ≤ LONGEST_MESSAGE
question_short asked None h = omega arith
question_short asked (Some q) h = asked_short q (spelled_short asked 12 q h.1 h.2.question)

-- the octets of an outline are all of it where that is short enough, or it is cut off
outline_cases : (o : OutlineData)
    → ((octets_of_outline o ≡ whole_octets o) × (length (whole_octets o) ≤ LONGEST_MESSAGE))
    ⊎ (octets_of_outline o ≡ cut_octets o)
unfolding octets_of_outline
outline_cases o = elim (cases_Bool (nat_le (length (whole_octets o)) LONGEST_MESSAGE)) [
  | inl e ↦ inl (
    ap (λ (b : Bool). cond b (whole_octets o) (cut_octets o)) e,
    leb-true (length (whole_octets o)) LONGEST_MESSAGE e,
  )
  | inr e ↦ inr (ap (λ (b : Bool). cond b (whole_octets o) (cut_octets o)) e)
]

pub outline_short : (o : OutlineData)
    → length (question_octets_if_any o.question) + 12 ≤ LONGEST_MESSAGE
    → length (octets_of_outline o) ≤ LONGEST_MESSAGE
outline_short o l = elim (outline_cases o) [
  | inl h ↦
      let n : length (octets_of_outline o) ≡ length (whole_octets o) = ap length h.0 in
      omega (arith, n, h.1)
  | inr h ↦
      let n : length (octets_of_outline o) ≡ length (cut_octets o) = ap length h in
      let k : length (cut_octets o) ≡ length (header_octets o true 0 0)
      + length (question_octets_if_any o.question) =
      length-append (header_octets o true 0 0) (question_octets_if_any o.question) in
      let t : length (header_octets o true 0 0) ≡ 12 = refl in
      omega (arith, n, k, t, l)
]

-- an outline with the identifier, Opcode and RD of what was asked, and its question if with any
pub outline_replies : (asked : List ℕ) (o : OutlineData) → IsAsking asked
    → o.id ≡ (header_of asked).id → o.opcode ≡ (header_of asked).opcode
    → o.rd ≡ (header_of asked).rd → Echoes asked o.question → RepliesTo asked (octets_of_outline o)
outline_replies asked o asks id opcode rd echoes = record {
  asks = asks;
  outline = o;
  written = refl;
  id = id;
  opcode = opcode;
  rd = rd;
  question = echoes;
  short = outline_short o (question_short asked o.question echoes);
}

-- a question that was read is spelled as its name
pub question_read : (m : List ℕ) (p : ℕ) (q : QuestionData) (e : ℕ) → IsQuestion m p q e
    → lower q.spelled ≡ wire q.name
question_read m p q e h =
    let named = subst (λ (n : List (List ℕ)). IsName n) h.name h.named in
    ap lower h.spelled
    ∙ (lower-wire h.labels (any_case-from_lower h.labels named.labels) ∙ sym (ap wire h.name))

-- a question that was read, and nothing known answers it
pub record IsMissed (asked : List ℕ) (h : Header) (q : QuestionData) : Type 0 where
  pub header : h ≡ header_of asked
  pub past : ℕ
  pub query : IsQuery asked (header_of asked) q past
  pub standard : (header_of asked).opcode ≡ 0
  pub class : q.class ≡ IN
  pub asks : IsAsking asked

-- what is made of octets that are asked suits them
abbrev pub Suits : List ℕ → DecisionData → Type 0
Suits asked Dropped = ¬ IsAsking asked
Suits asked (Reply octets) = RepliesTo asked octets
Suits asked (Unread octets f) = RepliesTo asked octets
Suits asked (Miss h q) = IsMissed asked h q

-- a reply without records to one that is missed
pub bare_replies : (asked : List ℕ) (h : Header) (q : QuestionData) (rcode : ℕ) → IsMissed asked h q
    → RepliesTo asked (bare_octets h rcode (Some q))
bare_replies asked h q rcode m =
    outline_replies asked (bare_outline h rcode (Some q)) m.asks
    (ap (λ (x : Header). x.id) m.header) (ap (λ (x : Header). x.opcode) m.header)
    (ap (λ (x : Header). x.rd) m.header) (m.standard, m.past, m.query)

-- a question that is not unserved is of class 1
served_class : (q : QuestionData) → ¬ (¬ IsServedQuestion q) → q.class ≡ IN
served_class q h = elim (cases_eq q.class IN) [
  | inl e ↦ e
  | inr n ↦ absurd (h (λ (s : IsServedQuestion q). n s.class))
]

suits_answer : (asked : List ℕ) (q : QuestionData) (a : AnswerData) (v : DecisionData)
    → IsMissed asked (header_of asked) q → DecidesAnswer (header_of asked) q a v → Suits asked v
suits_answer asked q Missed v m e = subst (Suits asked) (sym e) m
suits_answer asked q (Found chain set) v m h =
    subst (Suits asked) (sym h.2)
    (subst (RepliesTo asked) (sym h.1.4)
    (outline_replies asked _ m.asks refl refl refl (m.standard, m.past, m.query)))
suits_answer asked q (NoData chain soa) v m h =
    subst (Suits asked) (sym h.2)
    (subst (RepliesTo asked) (sym h.1.4)
    (outline_replies asked _ m.asks refl refl refl (m.standard, m.past, m.query)))
suits_answer asked q (NxDomain chain soa) v m h =
    subst (Suits asked) (sym h.2)
    (subst (RepliesTo asked) (sym h.1.4)
    (outline_replies asked _ m.asks refl refl refl (m.standard, m.past, m.query)))

pub not_true : (b : Bool) → ¬ IsTrue b → b ≡ false
not_true true n = absurd (n refl)
not_true false n = refl

-- what is not false is true
pub not_false : (b : Bool) → ¬ (b ≡ false) → b ≡ true
not_false true n = refl
not_false false n = absurd (n refl)

asking : (asked : List ℕ) → ¬ (length asked < 12) → ¬ IsTrue (header_of asked).response
    → IsAsking asked
asking asked long question = record {
  long = elim (cases_lt (length asked) 12) [ inl l ↦ absurd (long l) | inr g ↦ g ];
  question = question;
}

standard : (asked : List ℕ) → ¬ ((header_of asked).opcode ≢ 0) → (header_of asked).opcode ≡ 0
standard asked n =
    elim (cases_eq (header_of asked).opcode 0) [ inl e ↦ e | inr o ↦ absurd (n o) ]

-- so it is with all that is decided
pub decides_suits : (s : List ObservationData) (t : ℕ) (asked : List ℕ) (v : DecisionData)
    → Decides s t asked v → Suits asked v
decides_suits s t asked v (inl h) =
    subst (Suits asked) (sym h.1) (λ (a : IsAsking asked). omega (arith, a.long, h.0))
decides_suits s t asked v (inr h) = elim h.1 [
  | inl k ↦ subst (Suits asked) (sym k.1) (λ (a : IsAsking asked). a.question k.0)
  | inr k ↦
      let asks = asking asked h.0 k.0 in
      elim k.1 [
        | inl l ↦ subst (Suits asked) (sym l.1)
            (outline_replies asked _ asks refl refl refl (λ q r. l.0 r.0))
        | inr l ↦ elim l.1 [
          | inl f ↦ subst (Suits asked) (sym f.1.2)
              (outline_replies asked _ asks refl refl refl (λ q r. f.0 (q, r.1, r.2)))
          | inr r ↦ elim r.1.3 [
            | inl u ↦
                subst (Suits asked) (sym u.1)
                (outline_replies asked _ asks refl refl refl (standard asked l.0, r.1.1, r.1.2))
            | inr d ↦
                suits_answer asked r.1.0 _ v
                (record {
                  header = refl;
                  past = r.1.1;
                  query = r.1.2;
                  standard = standard asked l.0;
                  class = served_class r.1.0 d.0;
                  asks = asks;
                }) d.1
          ]
        ]
      ]
]
