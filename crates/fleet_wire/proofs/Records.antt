-- Records, a query and a reply are read in one way, or have a first fault.
-- Serves `read_query`, `record_at`, `records_end`, `records_of`, `message_of`, `read_reply`,
-- `reply_head`, the laws `one_query`, `one_reply`, `query_or_fault`, `reply_or_fault`, what
-- `FirstFaults` serves, and fleet_site.
use mathlib.Core.Logic.{inl, inr}
use Rattle.std.proofs.Common.{◌≡◌, ℕ, ◌+◌, ◌<◌, ◌≤◌, List, [], ◌∷◌, ◌++◌, length, refl, sym, ap, ◌∙◌, subst, arith, Bool, true, false, get_or}
use Rattle.fleet_name.specs.Name.{wire, lower_all}
use Rattle.fleet_wire.specs.Number.{u16_at, u32_at}
use Rattle.fleet_wire.specs.NameAt.{ReadsName}
use Rattle.fleet_wire.specs.Question.{QuestionData, IsQuestion, QuestionFails}
use Rattle.fleet_wire.specs.Shape.{shape_of, ShapeAt, ShapeFails}
use Rattle.fleet_wire.specs.Record.{RecordData, RecordAt, FixedFails, RecordFails, RecordsAt, HasRecords, RecordsFail}
use Rattle.fleet_wire.specs.Message.{header_of, IsQuery, QueryFails, MessageData, IsReply, HasReply, ReplyFails, SectionsAt, SectionsFail}
use Rattle.fleet_wire.specs.declared.fault.ReadFault.{ReadFault}
use Rattle.fleet_wire.specs.declared.fault.ReadFault.TheVariants.{Truncated, OutOfMemory}
use Rattle.fleet_wire.specs.declared.header.Header.{Header}
use Rattle.fleet_wire.proofs.Faults.{header_or_fault, header_no_memory}
use Rattle.fleet_wire.proofs.Readings.{one_reading, no_memory}
use Rattle.fleet_wire.proofs.Parts.{one_reads, name_or_fault, one_shape, shape_or_fault, shape_no_memory}

shape_moved : (m : List ℕ) (past past' t t' : ℕ) (o : List ℕ) → past' ≡ past → t' ≡ t
    → ShapeAt m (past' + 10) (u16_at m (past' + 8)) (shape_of t') o
    → ShapeAt m (past + 10) (u16_at m (past + 8)) (shape_of t) o
shape_moved m past past' t t' o e e' h =
    subst (λ (x : ℕ). ShapeAt m (past + 10) (u16_at m (past + 8)) (shape_of x) o) e'
    (subst (λ (x : ℕ). ShapeAt m (x + 10) (u16_at m (x + 8)) (shape_of t') o) e h)

record_from : List (List ℕ) → ℕ → ℕ → ℕ → List ℕ → RecordData
record_from name rtype class ttl rdata =
    record { name = name; rtype = rtype; class = class; ttl = ttl; rdata = rdata }

record_same : (a b : RecordData) → a.name ≡ b.name → a.rtype ≡ b.rtype → a.class ≡ b.class
    → a.ttl ≡ b.ttl
    → a.rdata ≡ b.rdata → a ≡ b
unfolding record_from
record_same a b name rtype class ttl rdata =
    let h : record_from a.name a.rtype a.class a.ttl a.rdata
    ≡ record_from b.name b.rtype b.class b.ttl b.rdata = cc in h

pub one_record : (m : List ℕ) (p : ℕ) (a b : RecordData) (x y : ℕ) → RecordAt m p a x
    → RecordAt m p b y
    → (a ≡ b) × (x ≡ y)
one_record m p a b x y one two =
    let same = one_reads m p a.name b.name one.past two.past one.name two.name in
    let rtype : a.rtype ≡ b.rtype =
    one.rtype ∙ (ap (λ (q : ℕ). u16_at m q) same.1 ∙ sym two.rtype) in
    let class : a.class ≡ b.class =
    one.class ∙ (ap (λ (q : ℕ). u16_at m (q + 2)) same.1 ∙ sym two.class) in
    let ttl : a.ttl ≡ b.ttl = one.ttl ∙ (ap (λ (q : ℕ). u32_at m (q + 4)) same.1 ∙ sym two.ttl) in
    let rdata =
    one_shape m (one.past + 10) (u16_at m (one.past + 8)) (shape_of a.rtype) a.rdata b.rdata
    one.rdata (shape_moved m one.past two.past a.rtype b.rtype b.rdata (sym same.1) (sym rtype)
    two.rdata) in (
      record_same a b same.0 rtype class ttl rdata,
      one.end_is
          ∙ (ap (λ (q : ℕ). q + 10 + u16_at m (q + 8)) same.1 ∙ sym two.end_is),
    )

fixed_or_fault : (m : List ℕ) (p : ℕ) (r : RecordData) (e : ℕ) (f : ReadFault)
    (at : RecordAt m p r e)
    → FixedFails m at.past f → ⊥
fixed_or_fault m p r e f at (inl h) = omega (arith, h.0, at.room)
fixed_or_fault m p r e f at (inr h) =
    shape_or_fault m (at.past + 10) (u16_at m (at.past + 8)) (shape_of r.rtype) r.rdata f at.rdata
    (subst (λ (t : ℕ). ShapeFails m (at.past + 10) (u16_at m (at.past + 8)) (shape_of t) f)
    (sym at.rtype) h.1)

pub record_or_fault : (m : List ℕ) (p : ℕ) (r : RecordData) (e : ℕ) (f : ReadFault)
    → RecordAt m p r e
    → RecordFails m p f → ⊥
record_or_fault m p r e f at (inl h) = name_or_fault m p r.name at.past f at.name h
record_or_fault m p r e f at (inr h) =
    let same = one_reads m p h.0 r.name h.1 at.past h.2 at.name in
    fixed_or_fault m p r e f at (subst (λ (q : ℕ). FixedFails m q f) same.1 h.3)

-- what is after the name of a record, wherever its name was read
pub record_behind : (m : List ℕ) (p : ℕ) (n : List (List ℕ)) (past : ℕ) (r : RecordData) (e : ℕ)
    → ReadsName m p n past → RecordAt m p r e
    → (past + 10 + u16_at m (past + 8) ≤ length m)
    × ShapeAt m (past + 10) (u16_at m (past + 8)) (shape_of (u16_at m past)) r.rdata
record_behind m p n past r e reads at =
    let same = one_reads m p r.name n at.past past at.name reads in (
      subst (λ (q : ℕ). q + 10 + u16_at m (q + 8) ≤ length m) same.1 at.room,
      shape_moved m past at.past (u16_at m past) r.rtype r.rdata same.1
          (at.rtype ∙ ap (λ (q : ℕ). u16_at m q) same.1) at.rdata,
    )

pub one_row : (m : List ℕ) (p : ℕ) (a b : List RecordData) (x y : ℕ) → RecordsAt m p a x
    → RecordsAt m p b y → length a ≡ length b → (a ≡ b) × (x ≡ y)
one_row m p [] [] x y one two n = (refl, one ∙ sym two)
one_row m p [] (r ∷ rs) x y one two n = absurd (omega (arith, n))
one_row m p (r ∷ rs) [] x y one two n = absurd (omega (arith, n))
one_row m p (r ∷ rs) (r' ∷ rs') x y one two n =
    let first = one_record m p r r' one.0 two.0 one.1 two.1 in
    let others =
    one_row m one.0 rs rs' x y one.2 (subst (λ (q : ℕ). RecordsAt m q rs' y) (sym first.1) two.2)
    (omega (arith, n)) in (
      ap (λ (z : RecordData). z ∷ rs) first.0 ∙ ap (λ (z : List RecordData). r' ∷ z) others.0,
      others.1,
    )

-- after fewer records than are there none fails
row_or_fault : (m : List ℕ) (p middle e : ℕ) (rs all : List RecordData) (f : ReadFault)
    → RecordsAt m p rs middle → length rs < length all → RecordFails m middle f
    → RecordsAt m p all e → ⊥
row_or_fault m p middle e rs [] f before fewer h at = omega (arith, fewer)
row_or_fault m p middle e [] (a ∷ all) f before fewer h at =
    record_or_fault m p a at.0 f at.1 (subst (λ (q : ℕ). RecordFails m q f) before h)
row_or_fault m p middle e (r ∷ rs) (a ∷ all) f before fewer h at =
    let first = one_record m p r a before.0 at.0 before.1 at.1 in
    row_or_fault m before.0 middle e rs all f before.2 (omega (arith, fewer)) h
    (subst (λ (q : ℕ). RecordsAt m q all e) (sym first.1) at.2)

pub records_or_fault : (m : List ℕ) (p count e : ℕ) (all : List RecordData) (f : ReadFault)
    → RecordsAt m p all e → length all ≡ count → RecordsFail m p count f → ⊥
records_or_fault m p count e all f at n h =
    row_or_fault m p h.1 e h.0 all f h.2 (omega (arith, n, h.3)) h.4 at

-- one more record after those that are there
pub records_more : (m : List ℕ) (p middle e : ℕ) (rs : List RecordData) (r : RecordData)
    → RecordsAt m p rs middle → RecordAt m middle r e → RecordsAt m p (rs ++ r ∷ []) e
records_more m p middle e [] r before at = (e, subst (λ (q : ℕ). RecordAt m q r e) before at, refl)
records_more m p middle e (first ∷ rs) r before at =
    (before.0, before.1, records_more m before.0 middle e rs r before.2 at)

-- where records are in a row, one is first, and the others follow it
pub first_lies : (m : List ℕ) (p count : ℕ) → HasRecords m p count → 0 < count
    → (r : RecordData) × (e : ℕ) × RecordAt m p r e
first_lies m p count ([], e, at, n) some = absurd (omega (arith, n, some))
first_lies m p count (r ∷ rs, e, at, n) some = (r, at.0, at.1)

pub others_lie : (m : List ℕ) (p count left : ℕ) (r : RecordData) (past : ℕ)
    → HasRecords m p count
    → count ≡ left + 1 → RecordAt m p r past → HasRecords m past left
others_lie m p count left r past ([], e, at, n) some one = absurd (omega (arith, n, some))
others_lie m p count left r past (r' ∷ rs, e, at, n) some one =
    let same = one_record m p r' r at.0 past at.1 one in
    (rs, e, subst (λ (q : ℕ). RecordsAt m q rs e) same.1 at.2, omega (arith, n, some))

reads_question : (m : List ℕ) (p : ℕ) (q : QuestionData) (e : ℕ) → (at : IsQuestion m p q e)
    → ReadsName m p q.name at.past
reads_question m p q e at =
    record { spelled = at.labels; name_at = at.name_at; lowered = at.name; named = at.named }

question_or_fault : (m : List ℕ) (p : ℕ) (q : QuestionData) (e : ℕ) (f : ReadFault)
    → IsQuestion m p q e
    → QuestionFails m p f → ⊥
question_or_fault m p q e f at (inl h) =
    name_or_fault m p q.name at.past f (reads_question m p q e at) h
question_or_fault m p q e f at (inr h) =
    let same = one_reads m p h.0 q.name h.1 at.past h.2 (reads_question m p q e at) in
    omega (arith, same.1, at.fits, h.3)

pub query_or_fault : (m : List ℕ) (h : Header) (q : QuestionData) (past : ℕ) (f : ReadFault)
    → IsQuery m h q past → QueryFails m f → ⊥
query_or_fault m h q past f is (inl e) = header_or_fault m f is.counted e
query_or_fault m h q past f is (inr e) = question_or_fault m 12 q past f is.question e.1

asked_of : List ℕ → List (List ℕ) → ℕ → ℕ → QuestionData
asked_of spelled name rtype class =
    record { spelled = spelled; name = name; rtype = rtype; class = class }

asked_same : (a b : QuestionData) → a.spelled ≡ b.spelled → a.name ≡ b.name → a.rtype ≡ b.rtype
    → a.class ≡ b.class → a ≡ b
unfolding asked_of
asked_same a b spelled name rtype class =
    let h : asked_of a.spelled a.name a.rtype a.class ≡ asked_of b.spelled b.name b.rtype b.class =
    cc in h

pub one_question : (m : List ℕ) (p : ℕ) (a b : QuestionData) (x y : ℕ) → IsQuestion m p a x
    → IsQuestion m p b y → (a ≡ b) × (x ≡ y)
one_question m p a b x y one two =
    let same = one_reading m p p one.labels two.labels one.past two.past one.name_at two.name_at in
    let spelled : a.spelled ≡ b.spelled = one.spelled ∙ (ap wire same.0 ∙ sym two.spelled) in
    let name : a.name ≡ b.name = one.name ∙ (ap lower_all same.0 ∙ sym two.name) in
    let rtype : a.rtype ≡ b.rtype =
    one.rtype ∙ (ap (λ (q : ℕ). u16_at m q) same.1 ∙ sym two.rtype) in
    let class : a.class ≡ b.class =
    one.class ∙ (ap (λ (q : ℕ). u16_at m (q + 2)) same.1 ∙ sym two.class) in (
      asked_same a b spelled name rtype class,
      one.end_is
          ∙ (ap (λ (q : ℕ). q + 4) same.1 ∙ sym two.end_is),
    )

-- out of memory is no fault of a record, nor of a question
fixed_no_memory : (m : List ℕ) (past : ℕ) (f : ReadFault) → FixedFails m past f → f ≡ OutOfMemory
    → ⊥
fixed_no_memory m past f (inl h) e = let t : Truncated ≡ OutOfMemory = sym h.1 ∙ e in absurd (cc)
fixed_no_memory m past f (inr h) e =
    shape_no_memory m (past + 10) (u16_at m (past + 8)) (shape_of (u16_at m past)) f h.1 e

record_no_memory : (m : List ℕ) (p : ℕ) (f : ReadFault) → RecordFails m p f → f ≡ OutOfMemory → ⊥
record_no_memory m p f (inl h) e = no_memory m p p 1 f h e
record_no_memory m p f (inr h) e = fixed_no_memory m h.1 f h.3 e

records_no_memory : (m : List ℕ) (p count : ℕ) (f : ReadFault) → RecordsFail m p count f
    → f ≡ OutOfMemory → ⊥
records_no_memory m p count f h e = record_no_memory m h.1 f h.4 e

pub question_no_memory : (m : List ℕ) (p : ℕ) (f : ReadFault) → QuestionFails m p f
    → f ≡ OutOfMemory → ⊥
question_no_memory m p f (inl h) e = no_memory m p p 1 f h e
question_no_memory m p f (inr h) e = let t : Truncated ≡ OutOfMemory = sym h.4 ∙ e in absurd (cc)

sections_no_memory : (m : List ℕ) (past : ℕ) (tc : Bool) (f : ReadFault) → SectionsFail m past tc f
    → f ≡ OutOfMemory → ⊥
sections_no_memory m past true f h e = h
sections_no_memory m past false f (inl h) e = records_no_memory m past (u16_at m 6) f h e
sections_no_memory m past false f (inr h) e = records_no_memory m h.1 (u16_at m 8) f h.4 e

-- out of memory is no fault of a query, nor of a reply
pub query_no_memory : (m : List ℕ) (f : ReadFault) → QueryFails m f → f ≡ OutOfMemory → ⊥
query_no_memory m f (inl h) e = header_no_memory m f h e
query_no_memory m f (inr h) e = question_no_memory m 12 f h.1 e

pub reply_no_memory : (m : List ℕ) (f : ReadFault) → ReplyFails m f → f ≡ OutOfMemory → ⊥
reply_no_memory m f (inl h) e = query_no_memory m f h e
reply_no_memory m f (inr h) e = sections_no_memory m h.1 (header_of m).tc f h.3 e

sections_or_fault : (m : List ℕ) (past : ℕ) (tc : Bool) (a b : List RecordData) (f : ReadFault)
    → SectionsAt m past tc a b → SectionsFail m past tc f → ⊥
sections_or_fault m past true a b f at h = h
sections_or_fault m past false a b f at (inl h) =
    records_or_fault m past (u16_at m 6) at.0 a f at.2 at.3 h
sections_or_fault m past false a b f at (inr h) =
    let same = one_row m past h.0 a h.1 at.0 h.2 at.2 (h.3 ∙ sym at.3) in
    records_or_fault m at.0 (u16_at m 8) at.1 b f at.4 at.5
    (subst (λ (q : ℕ). RecordsFail m q (u16_at m 8) f) same.1 h.4)

pub reply_or_fault : (m : List ℕ) (r : MessageData) (f : ReadFault) → IsReply m r → ReplyFails m f
    → ⊥
reply_or_fault m r f is (inl h) = query_or_fault m r.header r.question is.past f is.query h
reply_or_fault m r f is (inr h) =
    let same = one_question m 12 h.0 r.question h.1 is.past h.2.question is.query.question in
    let sections =
    subst (λ (x : Header). SectionsAt m is.past x.tc r.answer r.authority) is.query.header
    is.sections in
    sections_or_fault m is.past (header_of m).tc r.answer r.authority f sections
    (subst (λ (q : ℕ). SectionsFail m q (header_of m).tc f) same.1 h.3)

one_sections : (m : List ℕ) (past : ℕ) (tc : Bool) (a b a' b' : List RecordData)
    → SectionsAt m past tc a b → SectionsAt m past tc a' b' → (a ≡ a') × (b ≡ b')
one_sections m past true a b a' b' one two = (one.0 ∙ sym two.0, one.1 ∙ sym two.1)
one_sections m past false a b a' b' one two =
    let first = one_row m past a a' one.0 two.0 one.2 two.2 (one.3 ∙ sym two.3) in (
      first.0,
      (one_row m one.0 b b' one.1 two.1 one.4
          (subst (λ (q : ℕ). RecordsAt m q b' two.1) (sym first.1) two.4) (one.5 ∙ sym two.5)).0,
    )

reply_with : Header → QuestionData → List RecordData → List RecordData → MessageData
reply_with h q a b = record { header = h; question = q; answer = a; authority = b }

reply_same : (a b : MessageData) → a.header ≡ b.header → a.question ≡ b.question
    → a.answer ≡ b.answer
    → a.authority ≡ b.authority → a ≡ b
unfolding reply_with
reply_same a b h q x y =
    let e : reply_with a.header a.question a.answer a.authority
    ≡ reply_with b.header b.question b.answer b.authority = cc in e

pub one_reply : (m : List ℕ) (a b : MessageData) → IsReply m a → IsReply m b → a ≡ b
one_reply m a b one two =
    let same =
    one_question m 12 a.question b.question one.past two.past one.query.question
    two.query.question in
    let header : a.header ≡ b.header = one.query.header ∙ sym two.query.header in
    let moved : SectionsAt m one.past a.header.tc b.answer b.authority =
    subst (λ (h : Header). SectionsAt m one.past h.tc b.answer b.authority) (sym header)
    (subst (λ (q : ℕ). SectionsAt m q b.header.tc b.answer b.authority) (sym same.1)
    two.sections) in
    let sections =
    one_sections m one.past a.header.tc a.answer a.authority b.answer b.authority one.sections
    moved in
    reply_same a b header same.0 sections.0 sections.1

-- where the header says that nothing was cut off, a fault of a section is one of the reply
module _ (m : List ℕ) (h : Header) (q : QuestionData) (past : ℕ) (f : ReadFault)
    (is : IsQuery m h q past)
    (whole : h.tc ≡ false) where
  own : IsQuery m (header_of m) q past
  own = record { counted = is.counted; header = refl; question = is.question }

  section_fails : SectionsFail m past false f → ReplyFails m f
  section_fails fails =
      let tc : (header_of m).tc ≡ false = ap (λ (x : Header). x.tc) (sym is.header) ∙ whole in
      inr (q, past, own, subst (λ (b : Bool). SectionsFail m past b f) (sym tc) fails)

  pub answer_fails : (k : ℕ) → k ≡ get_or h.counts 1 0 → RecordsFail m past k f → ReplyFails m f
  answer_fails k e fails =
      let count : k ≡ u16_at m 6 = e ∙ ap (λ (x : Header). get_or x.counts 1 0) is.header in
      section_fails (inl (subst (λ (n : ℕ). RecordsFail m past n f) count fails))

  pub authority_fails : (k l middle : ℕ) (a : List RecordData) → k ≡ get_or h.counts 1 0
      → l ≡ get_or h.counts 2 0 → RecordsAt m past a middle → length a ≡ k
      → RecordsFail m middle l f → ReplyFails m f
  authority_fails k l middle a e e' at n fails =
      let count : length a ≡ u16_at m 6 =
      n ∙ (e ∙ ap (λ (x : Header). get_or x.counts 1 0) is.header) in
      let count' : l ≡ u16_at m 8 = e' ∙ ap (λ (x : Header). get_or x.counts 2 0) is.header in
      section_fails
      (inr (a, middle, at, count, subst (λ (n : ℕ). RecordsFail m middle n f) count' fails))

-- and the sections of a reply follow the question
module _ (m : List ℕ) (h : Header) (q : QuestionData) (past : ℕ) (is : IsQuery m h q past)
    (whole : h.tc ≡ false) where
  sections_lie : HasReply m
      → (a : List RecordData) × (b : List RecordData) × SectionsAt m past false a b
  sections_lie (r, reply) =
      let same = one_question m 12 r.question q reply.past past reply.query.question is.question in
      let tc : r.header.tc ≡ false =
      ap (λ (x : Header). x.tc) (reply.query.header ∙ sym is.header) ∙ whole in (
        r.answer,
        r.authority,
        subst (λ (b : Bool). SectionsAt m past b r.answer r.authority) tc
            (subst (λ (p : ℕ). SectionsAt m p r.header.tc r.answer r.authority) same.1
            reply.sections),
      )

  pub answer_lies : (k : ℕ) → k ≡ get_or h.counts 1 0 → HasReply m → HasRecords m past k
  answer_lies k e reply =
      let s = (sections_lie reply).2 in (
        (sections_lie reply).0,
        s.0,
        s.2,
        s.3
            ∙ sym (e ∙ ap (λ (x : Header). get_or x.counts 1 0) is.header),
      )

  pub authority_lies : (k l middle : ℕ) (a : List RecordData) → k ≡ get_or h.counts 1 0
      → l ≡ get_or h.counts 2 0 → RecordsAt m past a middle → length a ≡ k → HasReply m
      → HasRecords m middle l
  authority_lies k l middle a e e' at n reply =
      let s = (sections_lie reply).2 in
      let count : length a ≡ u16_at m 6 =
      n ∙ (e ∙ ap (λ (x : Header). get_or x.counts 1 0) is.header) in
      let same = one_row m past (sections_lie reply).0 a s.0 middle s.2 at (s.3 ∙ sym count) in (
        (sections_lie reply).1,
        s.1,
        subst (λ (p : ℕ). RecordsAt m p (sections_lie reply).1 s.1) same.1 s.4,
        s.5
            ∙ sym (e' ∙ ap (λ (x : Header). get_or x.counts 2 0) is.header),
      )
