-- What is written is read again.
-- Serves `run_at`, `after_name`, `are_plain`, `read_plain_query`, `write_query`, `write_reply`, the
-- laws `query_reads_back`, `reply_reads_back`.
use Rattle.std.proofs.Common.{◌≡◌, ℕ, ◌+◌, ◌*◌, ◌/◌, ◌%◌, ◌<◌, ◌≤◌, List, [], ◌∷◌, ◌++◌, length, take, drop, get_or, refl, sym, ap, ◌∙◌, subst, arith, append_assoc, length-append, Bool, true, false, Option, Some, None, nat_eq, nat_le, cond}
use Rattle.std.proofs.Math.Seq.{drop-append_seam, take-append_seam, get_or-append_seam}
use Rattle.std.proofs.lemmas.List.{append-nil}
use Rattle.std.specs.Prelude.{slice_index}
use Rattle.std.proofs.lemmas.Bool.{le-leb}
use Rattle.std.specs.List.{flat_map, AllByRecursion}
use Rattle.fleet_name.specs.Name.{wire, label_octets, IsLabel, IsName}
use Rattle.fleet_wire.specs.Number.{u16_at, u32_at, u16_octets, u32_octets}
use Rattle.fleet_wire.specs.NameAt.{LabelAt, NameAt, ends, goes_on, ReadsName}
use Rattle.fleet_wire.specs.Question.{QuestionData, IsQuestion, IsQuestionData}
use Rattle.fleet_wire.specs.Shape.{shape_of, PartsAt, ShapeAt, ArePlain, HasShape}
use Rattle.fleet_wire.specs.Record.{RecordData, RecordAt, RecordsAt, IsPlainRecord}
use Rattle.fleet_wire.specs.declared.shape.Part.{Part}
use Rattle.fleet_wire.specs.declared.shape.Part.TheVariants.{Plain, Name}
use Rattle.fleet_wire.specs.Message.{header_of, IsQuery, SectionsAt, IsReply}
use Rattle.fleet_wire.specs.Query.{lowercase_question, query_head, query_octets, query_header}
use Rattle.fleet_wire.specs.declared.bounds.TheConstants.{LONGEST_MESSAGE}
use Rattle.fleet_wire.specs.declared.header.Header.{Header}
use Rattle.fleet_wire.specs.Outline.{flag, record_octets, question_octets, OutlineData, IsLine, IsQuestionIfAny, IsOutlineData, HasPlainRdata, IsWhole, whole_octets, cut_octets, octets_of_outline, message_of_outline}
use Rattle.fleet_name.proofs.Lemmas.{IsAnyCase, any_case-from_lower, lower_all-same, lower-wire}
use Rattle.fleet_wire.proofs.Spelled.{labels_spelled}

-- these octets are at a place of the message
pub record SitsAt (m : List ℕ) (p : ℕ) (x : List ℕ) : Type 0 where
  pub front : List ℕ
  pub back : List ℕ
  pub whole : m ≡ front ++ (x ++ back)
  pub place : length front ≡ p

pub sits_first : (m : List ℕ) (p : ℕ) (x y : List ℕ) → SitsAt m p (x ++ y) → SitsAt m p x
sits_first m p x y s =
    record {
      front = s.front;
      back = y ++ s.back;
      whole =
          s.whole ∙ ap (λ (z : List ℕ). s.front ++ z) (append_assoc x y s.back);
      place = s.place;
    }

pub sits_rest : (m : List ℕ) (p : ℕ) (x y : List ℕ) → SitsAt m p (x ++ y)
    → SitsAt m (p + length x) y
sits_rest m p x y s = record {
  front = s.front ++ x;
  back = s.back;
  whole =
      s.whole ∙ (ap (λ (z : List ℕ). s.front ++ z) (append_assoc x y s.back)
      ∙ sym (append_assoc s.front x (y ++ s.back)));
  place = length-append s.front x ∙ ap (λ (n : ℕ). n + length x) s.place;
}

pub sits_moved : (m : List ℕ) (p q : ℕ) (x y : List ℕ) → p ≡ q → x ≡ y → SitsAt m p x → SitsAt m q y
sits_moved m p q x y e f s =
    record {
      front = s.front;
      back = s.back;
      whole =
          s.whole ∙ ap (λ (z : List ℕ). s.front ++ (z ++ s.back)) f;
      place = s.place ∙ e;
    }

pub sits_whole : (m : List ℕ) → SitsAt m 0 m
sits_whole m = record { front = []; back = []; whole = sym (append-nil m); place = refl }

pub sits_within : (m : List ℕ) (p : ℕ) (x : List ℕ) → SitsAt m p x → p + length x ≤ length m
sits_within m p x s =
    omega (
      arith,
      ap length s.whole,
      length-append s.front (x ++ s.back),
      length-append x s.back,
      s.place,
    )

pub sits_take : (m : List ℕ) (p : ℕ) (x : List ℕ) → SitsAt m p x → x ≡ take (length x) (drop p m)
sits_take m p x s =
    let from : drop p m ≡ x ++ s.back =
    ap (λ (l : List ℕ). drop p l) s.whole
    ∙ (ap (λ (n : ℕ). drop n (s.front ++ (x ++ s.back))) (sym s.place)
    ∙ drop-append_seam s.front (x ++ s.back)) in
    sym (ap (λ (l : List ℕ). take (length x) l) from ∙ take-append_seam x s.back)

pub sits_octet : (m : List ℕ) (p c : ℕ) (rest : List ℕ) → SitsAt m p (c ∷ rest)
    → slice_index m p ≡ c
sits_octet m p c rest s =
    ap (λ (l : List ℕ). get_or l p 0) s.whole
    ∙ (ap (λ (n : ℕ). get_or (s.front ++ (c ∷ (rest ++ s.back))) n 0) (sym s.place)
    ∙ get_or-append_seam s.front c (rest ++ s.back) 0)

pub sits_u16 : (m : List ℕ) (p n : ℕ) → SitsAt m p (u16_octets n) → u16_at m p ≡ n
sits_u16 m p n s =
    let high = sits_octet m p (n / 256) (n % 256 ∷ []) s in
    let low = sits_octet m (p + 1) (n % 256) [] (sits_rest m p (n / 256 ∷ []) (n % 256 ∷ []) s) in
    rw (high, low) (omega arith)

pub sits_u32 : (m : List ℕ) (p n : ℕ) → SitsAt m p (u32_octets n) → u32_at m p ≡ n
sits_u32 m p n s =
    let high =
    sits_u16 m p (n / 65536) (sits_first m p (u16_octets (n / 65536)) (u16_octets (n % 65536)) s) in
    let low =
    sits_u16 m (p + 2) (n % 65536)
    (sits_rest m p (u16_octets (n / 65536)) (u16_octets (n % 65536)) s) in
    rw (high, low) (omega arith)

pub lies_written : (m : List ℕ) (p s : ℕ) (n : List (List ℕ)) → AllByRecursion IsAnyCase n
    → SitsAt m p (wire n) → NameAt m s p n (p + length (wire n))
lies_written m p s [] all at =
    ends (record {
      begins = omega (arith, sits_within m p (0 ∷ []) at);
      zero_octet =
          sits_octet m p 0 [] at;
    }) refl refl
lies_written m p s (l ∷ n) all at =
    let is : wire (l ∷ n) ≡ label_octets l ++ wire n =
    append_assoc (label_octets l) (flat_map label_octets n) (0 ∷ []) in
    let at' = sits_moved m p p (wire (l ∷ n)) (label_octets l ++ wire n) refl is at in
    let framed = sits_first m p (label_octets l) (wire n) at' in
    let inside = sits_rest m p (length l ∷ []) l framed in
    let found : LabelAt m p l = record {
      begins = omega (arith, sits_within m p (label_octets l) framed);
      counted = sits_octet m p (length l) l framed;
      some = all.0.0;
      short = all.0.1;
      within = omega (arith, sits_within m (p + 1) l inside);
      octets = sits_take m (p + 1) l inside;
    } in
    let rest =
    sits_moved m (p + length (label_octets l)) (p + 1 + length l) (wire n) (wire n)
    (omega arith) refl
    (sits_rest m p (label_octets l) (wire n) at') in
    let others = lies_written m (p + 1 + length l) s n all.1 rest in
    let size = ap length is ∙ length-append (label_octets l) (wire n) in
    goes_on l n found
    (subst (λ (e : ℕ). NameAt m s (p + 1 + length l) n e) (omega (arith, size)) others) refl

pub reads_written : (m : List ℕ) (p : ℕ) (n : List (List ℕ)) → IsName n → SitsAt m p (wire n)
    → ReadsName m p n (p + length (wire n))
reads_written m p n named at =
    let same = lower_all-same n named.labels in
    record {
      spelled = n;
      name_at =
          lies_written m p p n (any_case-from_lower n (rw same named.labels)) at;
      lowered =
          sym same;
      named = named;
    }

pub question_written : (m : List ℕ) (p : ℕ) (q : QuestionData) → IsQuestionData q
    → SitsAt m p (question_octets q)
    → IsQuestion m p q (p + length (question_octets q))
question_written m p q is at =
    let found = labels_spelled q.name q.spelled is.named.labels is.spelled in
    let labels = found.0 in
    let numbers = u16_octets q.rtype ++ u16_octets q.class in
    let name =
    sits_moved m p p q.spelled (wire labels) refl found.1 (sits_first m p q.spelled numbers at) in
    let past = p + length (wire labels) in
    let others =
    sits_moved m (p + length q.spelled) past numbers numbers
    (ap (λ (x : List ℕ). p + length x) found.1) refl (sits_rest m p q.spelled numbers at) in
    let within = sits_within m past numbers others in
    record {
      labels = labels;
      past = past;
      name_at =
          lies_written m p p labels
          (any_case-from_lower labels
          (subst (λ (x : List (List ℕ)). AllByRecursion IsLabel x) (sym found.2) is.named.labels))
          name;
      spelled = found.1;
      name = sym found.2;
      named = is.named;
      fits = within;
      rtype =
          sym (sits_u16 m past q.rtype
          (sits_first m past (u16_octets q.rtype) (u16_octets q.class) others));
      class =
          sym (sits_u16 m (past + 2) q.class
          (sits_rest m past (u16_octets q.rtype) (u16_octets q.class) others));
      end_is = omega (arith, length-append q.spelled numbers, ap length found.1);
    }

pub parts_written : (m : List ℕ) (parts : List Part) (p : ℕ) (o : List ℕ) → ArePlain parts o
    → SitsAt m p o → PartsAt m parts p o (p + length o)
parts_written m [] p o plain at = (plain, omega (arith, ap length plain))
parts_written m (Plain n ∷ parts) p o plain at =
    let first = plain.0 in let others = plain.1 in
    let at' = sits_moved m p p o (first ++ others) refl plain.2 at in
    let one = sits_first m p first others at' in
    let rest =
    sits_moved m (p + length first) (p + n) others others (ap (λ (k : ℕ). p + k) plain.3) refl
    (sits_rest m p first others at') in
    let more = parts_written m parts (p + n) others plain.4 rest in
    let size = ap length plain.2 ∙ length-append first others in
    let taken : first ≡ take n (drop p m) =
    subst (λ (k : ℕ). first ≡ take k (drop p m)) plain.3 (sits_take m p first one) in (
      others,
      omega (arith, sits_within m p first one, plain.3),
      subst (λ (e : ℕ). PartsAt m parts (p + n) others e) (omega (arith, size, plain.3)) more,
      plain.2
          ∙ ap (λ (x : List ℕ). x ++ others) taken,
    )
parts_written m (Name ∷ parts) p o plain at =
    let n = plain.0 in let others = plain.1 in
    let at' = sits_moved m p p o (wire n ++ others) refl plain.2 at in
    let past = p + length (wire n) in
    let more = parts_written m parts past others plain.4 (sits_rest m p (wire n) others at') in
    let size = ap length plain.2 ∙ length-append (wire n) others in (
      n,
      past,
      others,
      reads_written m p n plain.3 (sits_first m p (wire n) others at'),
      subst (λ (e : ℕ). PartsAt m parts past others e) (omega (arith, size)) more,
      plain.2,
    )

pub shape_written : (m : List ℕ) (p : ℕ) (s : Option (List Part)) (o : List ℕ) → HasShape s o
    → SitsAt m p o → ShapeAt m p (length o) s o
shape_written m p None o plain at = sits_take m p o at
shape_written m p (Some parts) o plain at = parts_written m parts p o plain at

pub record_written : (m : List ℕ) (p : ℕ) (r : RecordData) → IsPlainRecord r
    → SitsAt m p (record_octets r) → RecordAt m p r (p + length (record_octets r))
record_written m p r is at =
    let a = wire r.name in
    let b = u16_octets r.rtype in
    let d = u16_octets r.class in
    let f = u32_octets r.ttl in
    let h = u16_octets (length r.rdata) in
    let past = p + length a in
    let at1 = sits_rest m p a (b ++ (d ++ (f ++ (h ++ r.rdata)))) at in
    let at2 = sits_rest m past b (d ++ (f ++ (h ++ r.rdata))) at1 in
    let at3 =
    sits_moved m (past + 2 + 2) (past + 4) (f ++ (h ++ r.rdata)) (f ++ (h ++ r.rdata)) (omega arith)
    refl (sits_rest m (past + 2) d (f ++ (h ++ r.rdata)) at2) in
    let at4 =
    sits_moved m (past + 4 + 4) (past + 8) (h ++ r.rdata) (h ++ r.rdata) (omega arith) refl
    (sits_rest m (past + 4) f (h ++ r.rdata) at3) in
    let at5 =
    sits_moved m (past + 8 + 2) (past + 10) r.rdata r.rdata (omega arith) refl
    (sits_rest m (past + 8) h r.rdata at4) in
    let count = sits_u16 m (past + 8) (length r.rdata) (sits_first m (past + 8) h r.rdata at4) in
    record {
      past = past;
      name =
          reads_written m p r.name is.name
          (sits_first m p a (b ++ (d ++ (f ++ (h ++ r.rdata)))) at);
      room = rw count (sits_within m (past + 10) r.rdata at5);
      rtype = sym (sits_u16 m past r.rtype (sits_first m past b (d ++ (f ++ (h ++ r.rdata))) at1));
      class =
          sym (sits_u16 m (past + 2) r.class (sits_first m (past + 2) d (f ++ (h ++ r.rdata)) at2));
      ttl = sym (sits_u32 m (past + 4) r.ttl (sits_first m (past + 4) f (h ++ r.rdata) at3));
      rdata =
          subst (λ (k : ℕ). ShapeAt m (past + 10) k (shape_of r.rtype) r.rdata) (sym count)
          (shape_written m (past + 10) (shape_of r.rtype) r.rdata is.rdata at5);
      end_is = omega (arith, count, length-append a (b ++ (d ++ (f ++ (h ++ r.rdata)))));
    }

pub records_written : (m : List ℕ) (p : ℕ) (rs : List RecordData) → AllByRecursion IsPlainRecord rs
    → SitsAt m p (flat_map record_octets rs)
    → RecordsAt m p rs (p + length (flat_map record_octets rs))
records_written m p [] all at = omega arith
records_written m p (r ∷ rs) all at =
    let one = record_octets r in let others = flat_map record_octets rs in
    let more = records_written m (p + length one) rs all.1 (sits_rest m p one others at) in (
      p + length one,
      record_written m p r all.0 (sits_first m p one others at),
      subst (λ (e : ℕ). RecordsAt m (p + length one) rs e) (omega (arith, length-append one others))
          more,
    )

small_flag : (b : Bool) → flag b 1 ≤ 1
small_flag true = omega arith
small_flag false = omega arith

-- what is read of the third octet of a header
module _ (k : ℕ) (b : Bool) (small : k < 16) where
  third : ℕ
  third = 128 + k * 8 + 0 + flag b 1

  third_response : nat_le 128 third ≡ true
  unfolding third
  third_response = le-leb 128 (128 + k * 8 + 0 + flag b 1) (omega (arith, small_flag b))

  third_opcode : third / 8 % 16 ≡ k
  unfolding third
  third_opcode = omega (arith, small_flag b)

  third_aa : nat_eq (third / 4 % 2) 1 ≡ false
  unfolding third
  third_aa = let e : (128 + k * 8 + 0 + flag b 1) / 4 % 2 ≡ 0 = omega (arith, small_flag b) in
      ap (λ (x : ℕ). nat_eq x 1) e

  third_tc : nat_eq (third / 2 % 2) 1 ≡ false
  unfolding third
  third_tc = let e : (128 + k * 8 + 0 + flag b 1) / 2 % 2 ≡ 0 = omega (arith, small_flag b) in
      ap (λ (x : ℕ). nat_eq x 1) e

  third_low : third % 2 ≡ flag b 1
  unfolding third
  third_low = omega (arith, small_flag b)

flag_back : (b : Bool) → nat_eq (flag b 1) 1 ≡ b
flag_back true = refl
flag_back false = refl

header_with : ℕ → Bool → ℕ → Bool → Bool → Bool → ℕ → List ℕ → Header
header_with id response opcode aa tc rd rcode counts =
    record {
      id = id;
      response = response;
      opcode = opcode;
      aa = aa;
      tc = tc;
      rd = rd;
      rcode =
          rcode;
      counts = counts;
    }

header_same : (a b : Header) → a.id ≡ b.id → a.response ≡ b.response → a.opcode ≡ b.opcode
    → a.aa ≡ b.aa → a.tc ≡ b.tc → a.rd ≡ b.rd → a.rcode ≡ b.rcode → a.counts ≡ b.counts → a ≡ b
unfolding header_with
header_same a b e1 e2 e3 e4 e5 e6 e7 e8 =
    let h : header_with a.id a.response a.opcode a.aa a.tc a.rd a.rcode a.counts
    ≡ header_with b.id b.response b.opcode b.aa b.tc b.rd b.rcode b.counts = cc in h

counts_same : (a b c d a' b' c' d' : ℕ) → a ≡ a' → b ≡ b' → c ≡ c' → d ≡ d'
    → ◌≡◌ {A = List ℕ} (a ∷ b ∷ c ∷ d ∷ []) (a' ∷ b' ∷ c' ∷ d' ∷ [])
counts_same a b c d a' b' c' d' e1 e2 e3 e4 = cc

-- a header of one question, and not cut off
abbrev head_octets : ℕ → ℕ → Bool → ℕ → ℕ → ℕ → List ℕ
head_octets id opcode rd rcode an ns =
    u16_octets id
    ++ ((128 + opcode * 8 + 0 + flag rd 1) ∷ (128 + rcode)
    ∷ (u16_octets 1 ++ (u16_octets an ++ (u16_octets ns ++ 0 ∷ 0 ∷ []))))

abbrev head : ℕ → ℕ → Bool → ℕ → ℕ → ℕ → Header
head id opcode rd rcode an ns =
    record {
      id = id;
      response = true;
      opcode = opcode;
      aa = false;
      tc = false;
      rd = rd;
      rcode =
          rcode;
      counts = 1 ∷ an ∷ ns ∷ 0 ∷ [];
    }

pub header_written : (m : List ℕ) (id opcode : ℕ) (rd : Bool) (rcode an ns : ℕ) → opcode < 16
    → rcode < 16 → SitsAt m 0 (head_octets id opcode rd rcode an ns)
    → head id opcode rd rcode an ns ≡ header_of m
unfolding third
header_written m id opcode rd rcode an ns small small' at =
    let low = u16_octets 1 ++ (u16_octets an ++ (u16_octets ns ++ 0 ∷ 0 ∷ [])) in
    let flags = 128 + opcode * 8 + 0 + flag rd 1 in
    let at2 = sits_rest m 0 (u16_octets id) (flags ∷ (128 + rcode) ∷ low) at in
    let at3 = sits_rest m 2 (flags ∷ []) ((128 + rcode) ∷ low) at2 in
    let at4 = sits_rest m 3 ((128 + rcode) ∷ []) low at3 in
    let at6 = sits_rest m 4 (u16_octets 1) (u16_octets an ++ (u16_octets ns ++ 0 ∷ 0 ∷ [])) at4 in
    let at8 = sits_rest m 6 (u16_octets an) (u16_octets ns ++ 0 ∷ 0 ∷ []) at6 in
    let at10 = sits_rest m 8 (u16_octets ns) (0 ∷ 0 ∷ []) at8 in
    let is2 : flags ≡ slice_index m 2 = sym (sits_octet m 2 flags ((128 + rcode) ∷ low) at2) in
    let is3 : slice_index m 3 ≡ 128 + rcode = sits_octet m 3 (128 + rcode) low at3 in
    let rd_is : rd ≡ nat_eq (slice_index m 2 % 2) 1 =
    sym (flag_back rd)
    ∙ (ap (λ (x : ℕ). nat_eq x 1) (sym (third_low opcode rd small))
    ∙ ap (λ (x : ℕ). nat_eq (x % 2) 1) is2) in
    header_same (head id opcode rd rcode an ns) (header_of m)
    (sym (sits_u16 m 0 id (sits_first m 0 (u16_octets id) (flags ∷ (128 + rcode) ∷ low) at)))
    (sym (third_response opcode rd small) ∙ ap (λ (x : ℕ). nat_le 128 x) is2)
    (sym (third_opcode opcode rd small) ∙ ap (λ (x : ℕ). x / 8 % 16) is2)
    (sym (third_aa opcode rd small) ∙ ap (λ (x : ℕ). nat_eq (x / 4 % 2) 1) is2)
    (sym (third_tc opcode rd small) ∙ ap (λ (x : ℕ). nat_eq (x / 2 % 2) 1) is2)
    rd_is
    (omega (arith, is3))
    (counts_same 1 an ns 0 (u16_at m 4) (u16_at m 6) (u16_at m 8) (u16_at m 10)
    (sym (sits_u16 m 4 1
    (sits_first m 4 (u16_octets 1) (u16_octets an ++ (u16_octets ns ++ 0 ∷ 0 ∷ [])) at4)))
    (sym (sits_u16 m 6 an (sits_first m 6 (u16_octets an) (u16_octets ns ++ 0 ∷ 0 ∷ []) at6)))
    (sym (sits_u16 m 8 ns (sits_first m 8 (u16_octets ns) (0 ∷ 0 ∷ []) at8)))
    (sym (sits_u16 m 10 0 at10)))

-- the octets of such an outline
abbrev plain_octets : OutlineData → QuestionData → List ℕ
plain_octets o q =
    head_octets o.id o.opcode o.rd o.rcode (length o.answer) (length o.authority)
    ++ (question_octets q ++ (flat_map record_octets o.answer ++ flat_map record_octets
    o.authority))

whole_is : (o : OutlineData) (q : QuestionData) → o.tc ≡ false → o.question ≡ Some q
    → whole_octets o ≡ plain_octets o q
whole_is o q whole question = rw (whole, question) refl

fits_whole : (o : OutlineData) → length (whole_octets o) ≤ LONGEST_MESSAGE
    → octets_of_outline o ≡ whole_octets o
unfolding octets_of_outline
fits_whole o fits =
    ap (λ (b : Bool). cond b (whole_octets o) (cut_octets o))
    (le-leb (length (whole_octets o)) LONGEST_MESSAGE fits)

sections_written : (m : List ℕ) (past : ℕ) (a b : List RecordData) (an ns : ℕ)
    → AllByRecursion IsPlainRecord a → AllByRecursion IsPlainRecord b → an ≡ u16_at m 6
    → ns ≡ u16_at m 8 → length a ≡ an → length b ≡ ns
    → SitsAt m past (flat_map record_octets a ++ flat_map record_octets b)
    → SectionsAt m past false a b
sections_written m past a b an ns all all' is is' n n' at =
    let first = flat_map record_octets a in let others = flat_map record_octets b in (
      past + length first,
      past + length first + length others,
      records_written m past a all (sits_first m past first others at),
      n ∙ is,
      records_written m (past + length first) b all' (sits_rest m past first others at),
      n' ∙ is',
    )

-- an outline of plain records that fits
record ReadsBack (o : OutlineData) (q : QuestionData) : Type 0 where
  pub opcode : o.opcode < 16
  pub rcode : o.rcode < 16
  pub whole : o.tc ≡ false
  pub question : o.question ≡ Some q
  pub asked : IsQuestionData q
  pub answer : AllByRecursion IsPlainRecord o.answer
  pub authority : AllByRecursion IsPlainRecord o.authority
  pub fits : length (whole_octets o) ≤ LONGEST_MESSAGE

plain_records : (rs : List RecordData) → AllByRecursion IsLine rs → AllByRecursion HasPlainRdata rs
    → AllByRecursion IsPlainRecord rs
plain_records [] lines plain = tt
plain_records (r ∷ rs) lines plain =
    (record { name = lines.0.name; rdata = plain.0 }, plain_records rs lines.1 plain.1)

asked_lawful : (a : Option QuestionData) (q : QuestionData) → a ≡ Some q → IsQuestionIfAny a
    → IsQuestionData q
asked_lawful a q e is = let is' : IsQuestionIfAny (Some q) =
    subst (λ (x : Option QuestionData). IsQuestionIfAny x) e is in is'

whole_back : (o : OutlineData) (q : QuestionData) → IsOutlineData o → IsWhole o q → ReadsBack o q
whole_back o q lawful is = record {
  opcode = lawful.opcode;
  rcode = lawful.rcode;
  whole = is.clear;
  question = is.question;
  asked = asked_lawful o.question q is.question lawful.question;
  answer = plain_records o.answer lawful.answer is.answer;
  authority = plain_records o.authority lawful.authority is.authority;
  fits = is.fits;
}

plain_written : (m : List ℕ) (o : OutlineData) (q : QuestionData) → ReadsBack o q
    → m ≡ plain_octets o q
    → length m ≤ LONGEST_MESSAGE → IsReply m (message_of_outline o q)
plain_written m o q is e fits =
    let h = head_octets o.id o.opcode o.rd o.rcode (length o.answer) (length o.authority) in
    let rows = flat_map record_octets o.answer ++ flat_map record_octets o.authority in
    let at = sits_moved m 0 0 m (h ++ (question_octets q ++ rows)) refl e (sits_whole m) in
    let header =
    header_written m o.id o.opcode o.rd o.rcode (length o.answer) (length o.authority) is.opcode
    is.rcode (sits_first m 0 h (question_octets q ++ rows) at) in
    let body = sits_rest m 0 h (question_octets q ++ rows) at in
    let asked = question_written m 12 q is.asked (sits_first m 12 (question_octets q) rows body) in
    let past = 12 + length (question_octets q) in
    record {
      past = past;
      query = record {
        counted = record {
          long = omega (arith, sits_within m 0 h (sits_first m 0 h (question_octets q ++ rows) at));
          short = fits;
          one = sym (ap (λ (x : Header). get_or x.counts 0 0) header);
        };
        header = header;
        question = asked;
      };
      sections =
          sections_written m past o.answer o.authority (length o.answer) (length o.authority)
          is.answer is.authority
          (ap (λ (x : Header). get_or x.counts 1 0) header)
          (ap (λ (x : Header). get_or x.counts 2 0) header) refl refl
          (sits_rest m 12 (question_octets q) rows body);
    }

-- an outline of plain records that fits is read as it is
pub reads_back : (o : OutlineData) (q : QuestionData) → IsOutlineData o → IsWhole o q
    → IsReply (octets_of_outline o) (message_of_outline o q)
reads_back o q lawful is =
    let whole = fits_whole o is.fits in
    let plain = whole_is o q is.clear is.question in
    plain_written (octets_of_outline o) o q (whole_back o q lawful is) (whole ∙ plain)
    (omega (arith, ap length whole, is.fits))

query_header_written : (m : List ℕ) (id : ℕ) → SitsAt m 0 (query_head id)
    → query_header id ≡ header_of m
query_header_written m id at =
    let low6 = u16_octets 1 ++ (u16_octets 0 ++ (u16_octets 0 ++ u16_octets 0)) in
    let at2 = sits_rest m 0 (u16_octets id) (u16_octets 256 ++ low6) at in
    let at3 = sits_rest m 2 (1 ∷ []) (0 ∷ low6) at2 in
    let at4 = sits_rest m 2 (u16_octets 256) low6 at2 in
    let at6 = sits_rest m 4 (u16_octets 1) (u16_octets 0 ++ (u16_octets 0 ++ u16_octets 0)) at4 in
    let at8 = sits_rest m 6 (u16_octets 0) (u16_octets 0 ++ u16_octets 0) at6 in
    let at10 = sits_rest m 8 (u16_octets 0) (u16_octets 0) at8 in
    let is2 : 1 ≡ slice_index m 2 = sym (sits_octet m 2 1 (0 ∷ low6) at2) in
    let is3 : 0 ≡ slice_index m 3 = sym (sits_octet m 3 0 low6 at3) in
    header_same (query_header id) (header_of m)
    (sym (sits_u16 m 0 id (sits_first m 0 (u16_octets id) (u16_octets 256 ++ low6) at)))
    (ap (λ (x : ℕ). nat_le 128 x) is2)
    (ap (λ (x : ℕ). x / 8 % 16) is2)
    (ap (λ (x : ℕ). nat_eq (x / 4 % 2) 1) is2)
    (ap (λ (x : ℕ). nat_eq (x / 2 % 2) 1) is2)
    (ap (λ (x : ℕ). nat_eq (x % 2) 1) is2)
    (ap (λ (x : ℕ). x % 16) is3)
    (counts_same 1 0 0 0 (u16_at m 4) (u16_at m 6) (u16_at m 8) (u16_at m 10)
    (sym (sits_u16 m 4 1
    (sits_first m 4 (u16_octets 1) (u16_octets 0 ++ (u16_octets 0 ++ u16_octets 0)) at4)))
    (sym (sits_u16 m 6 0 (sits_first m 6 (u16_octets 0) (u16_octets 0 ++ u16_octets 0) at6)))
    (sym (sits_u16 m 8 0 (sits_first m 8 (u16_octets 0) (u16_octets 0) at8)))
    (sym (sits_u16 m 10 0 at10)))

-- a query is read as it is
pub query_back : (id : ℕ) (q : QuestionData) → IsName q.name
    → IsQuery (query_octets id q) (query_header id) (lowercase_question q)
    (length (query_octets id q))
query_back id q named =
    let m = query_octets id q in
    let at = sits_whole m in
    let header =
    query_header_written m id
    (sits_first m 0 (query_head id) (question_octets (lowercase_question q)) at) in
    let same = sym (lower_all-same q.name named.labels) in
    let lower_is =
    lower-wire q.name
    (any_case-from_lower q.name
    (subst (λ (x : List (List ℕ)). AllByRecursion IsLabel x) same named.labels)) in
    let asked : IsQuestionData (lowercase_question q) =
    record { spelled = lower_is ∙ ap wire (sym same); named = named } in
    let question =
    question_written m 12 (lowercase_question q) asked
    (sits_rest m 0 (query_head id) (question_octets (lowercase_question q)) at) in
    let size = length-append (query_head id) (question_octets (lowercase_question q)) in
    let inner = length-append (wire q.name) (u16_octets q.rtype ++ u16_octets q.class) in
    record {
      counted =
          record {
            long = omega (arith, size);
            short = omega (arith, size, inner, named.fits);
            one =
                sym (ap (λ (x : Header). get_or x.counts 0 0) header);
          };
      header = header;
      question = subst (λ (e : ℕ). IsQuestion m 12 (lowercase_question q) e) (sym size) question;
    }

-- the octets of a query, piece by piece
pub query_pieces : (id : ℕ) (w t k a b d e f : List ℕ) → a ≡ [] → b ≡ a ++ query_head id
    → d ≡ b ++ w
    → e ≡ d ++ t → f ≡ e ++ k → f ≡ query_head id ++ (w ++ (t ++ k))
query_pieces id w t k a b d e f is_a is_b is_d is_e is_f =
    rw (is_f, is_e, is_d, is_b, is_a)
    (append_assoc (query_head id ++ w) t k ∙ append_assoc (query_head id) w (t ++ k))
