-- What is read in what a site answers.
-- Serves the laws `fresh`, `withdrawn`.
use Rattle.std.proofs.Common.{◌≡◌, ℕ, ◌<◌, max, inl, inr, List, [], ◌∷◌, ◌++◌, refl, sym, subst, ◌∙◌, arith, Option, Some, None}
use Rattle.std.specs.List.{AllByRecursion}
use Rattle.fleet_name.specs.Places.{At, Has}
use Rattle.fleet_name.proofs.Lemmas.{has_either, has_left, has_right}
use Rattle.fleet_wire.specs.Message.{header_of}
use Rattle.fleet_wire.specs.Outline.{IsLine, octets_of_outline}
use Rattle.fleet_wire.specs.Question.{QuestionData, IsQuestionData}
use Rattle.fleet_wire.specs.Record.{RecordData}
use Rattle.fleet_wire.specs.declared.header.Header.{Header}
use Rattle.fleet_wire.specs.declared.rcode.TheConstants.{NO_ERROR, NAME_ERROR}
use Rattle.fleet_observe.specs.Observation.{ObservationData}
use Rattle.fleet_observe.specs.declared.observation.kind.Kind.{Kind}
use Rattle.fleet_observe.specs.declared.observation.kind.Kind.TheVariants.{NameError, NoData as KindNoData, Positive}
use Rattle.fleet_cache.specs.Answer.{ShownData, AnswerData, Missed, Found, NoData, NxDomain, answer_of}
use Rattle.fleet_cache.specs.Kinds.{ArePositiveParts, HasKinds}
use Rattle.fleet_cache.specs.Laws.{TestsLive}
use Rattle.fleet_site.specs.ConfigData.{ConfigData}
use Rattle.fleet_site.specs.question.AnswerRecords.{bare_outline, WritesRecords, WritesDenial}
use Rattle.fleet_site.specs.question.Looking.{Shows}
use Rattle.fleet_site.specs.question.Decision.{DecisionData, Dropped, Reply, Unread, Miss, DecidesAnswer, DecidesQuestion, Decides}
use Rattle.fleet_site.specs.declared.looked.Looked.{Looked}
use Rattle.fleet_site.specs.declared.looked.Looked.TheVariants.{Reply as LookedReply, Miss as LookedMiss, Dropped as LookedDropped}
use Rattle.fleet_world.specs.FleetModel.{Replica, FleetModel, opening}
use Rattle.fleet_world.specs.Run.{Results, Run}
use Rattle.fleet_world.specs.Own.{AllGossipIsOwn}
use Rattle.fleet_world.specs.Fresh.{parts_of, ReadsOnly, IsReplyOf, AskedAreFresh}
use Rattle.fleet_world.specs.Withdrawn.{IsFreshAfter, AskedAfter}
use Rattle.fleet_world.specs.declared.event.Event.{Event}
use Rattle.fleet_world.proofs.Packs.{OneList}
use Rattle.fleet_world.proofs.Kept.{run_ok, opening_ok}
use Rattle.fleet_cache.proofs.Lemmas.{has_kinds-answer_of}
use Rattle.fleet_world.proofs.Parts.{parts}
use Rattle.fleet_world.proofs.Freshness.{answers_fresh}
use Rattle.fleet_world.proofs.Withdrawals.{taken_withdraw}
use Rattle.fleet_wire.proofs.Lemmas.{question_asked}
use Rattle.fleet_world.proofs.Rows.{IsPlainLine, IsGoodPart, IsGoodRecord, good_rows, good_chain, good_soa}
use Rattle.fleet_world.proofs.Reading.{OneReply, ReadsBack, without_read, outline_read}

-- what is read in the octets of a decision
abbrev pub DecisionReads : (RecordData → Type 0) → DecisionData → Type 0
DecisionReads P (Reply octets) = ReadsOnly P octets
DecisionReads P (Unread octets f) = ReadsOnly P octets
DecisionReads P Dropped = Unit {0}
DecisionReads P (Miss h q) = Unit {0}

all_lines : (xs : List RecordData) → ((x : RecordData) → Has xs x → IsPlainLine x)
    → AllByRecursion IsLine xs
all_lines [] f = tt
all_lines (x ∷ xs) f = ((f x (inl refl)).line_is, all_lines xs (λ y h. f y (inr h)))

module _ (one : OneReply) (back : ReadsBack) {A : Type 0} (m : FleetModel) (es : List (Event A))
    (rs : Results A) (n : FleetModel) (run : Run m es rs n) (s : List ObservationData) (t : ℕ) where
  abbrev FreshRecord : RecordData → Type 0
  FreshRecord = IsFreshAfter m es rs n run s t

  abbrev GoodPart : ShownData → Type 0
  GoodPart = IsGoodPart m es rs n run s t

  abbrev GoodRecord : RecordData → Type 0
  GoodRecord = IsGoodRecord m es rs n run s t

  -- octets of good records
  good_read : (h : Header) (q : QuestionData) (rcode : ℕ) (a b : List RecordData)
      → h.opcode < 16 → rcode < 16 → IsQuestionData q
      → ((x : RecordData) → Has a x → GoodRecord x) → ((x : RecordData) → Has b x → GoodRecord x)
      → ReadsOnly FreshRecord (octets_of_outline
      (record (bare_outline h rcode (Some q)) { answer = a; authority = b }))
  good_read h q rcode a b opcode code asked f g =
      outline_read FreshRecord one back
      (record (bare_outline h rcode (Some q)) { answer = a; authority = b }) q
      (record {
        opcode = opcode;
        rcode = code;
        question = asked;
        answer = all_lines a (λ x k. (f x k).line_is);
        authority = all_lines b (λ x k. (g x k).line_is);
      }) refl refl (λ x k. ((f x k).fresh, (f x k).line_is))
      (λ x k. ((g x k).fresh, (g x k).line_is))

  -- links and records
  records_read : (h : Header) (q : QuestionData) (chain : List ShownData) (set : ShownData)
      (octets : List ℕ) → h.opcode < 16 → IsQuestionData q
      → ((p : ShownData) → Has (chain ++ set ∷ []) p → GoodPart p) → ArePositiveParts chain
      → set.observation.kind ≡ Positive → WritesRecords h q chain set octets
      → ReadsOnly FreshRecord octets
  records_read h q chain set octets opcode asked f k positive w =
      subst (ReadsOnly FreshRecord) (sym w.4)
      (good_read h q NO_ERROR (w.0 ++ w.1) [] opcode (omega arith) asked
      (λ x j. elim (has_either w.0 w.1 x j) [
        | inl l ↦ good_chain m es rs n run s t chain w.0 x
            (λ p i. f p (has_left chain (set ∷ []) p i)) k w.2 l
        | inr l ↦ good_rows m es rs n run s t set w.1 x
            (f set (has_right chain (set ∷ []) set (inl refl))) positive w.3 l
      ]) (λ x j. absurd j))

  -- links and an SOA
  denial_read : (h : Header) (rcode : ℕ) (q : QuestionData) (chain : List ShownData)
      (soa : ShownData) (octets : List ℕ) → h.opcode < 16 → rcode < 16 → IsQuestionData q
      → ((p : ShownData) → Has (chain ++ soa ∷ []) p → GoodPart p) → ArePositiveParts chain
      → ¬ (soa.observation.kind ≡ Positive) → WritesDenial h rcode q chain soa octets
      → ReadsOnly FreshRecord octets
  denial_read h rcode q chain soa octets opcode code asked f k negative w =
      subst (ReadsOnly FreshRecord) (sym w.4)
      (good_read h q rcode w.0 (w.1 ∷ []) opcode code asked
      (λ x j. good_chain m es rs n run s t chain w.0 x
      (λ p i. f p (has_left chain (soa ∷ []) p i)) k w.2 j)
      (λ x j. elim j [
        | inl e ↦ subst GoodRecord e (good_soa m es rs n run s t soa w.1
            (f soa (has_right chain (soa ∷ []) soa (inl refl))) negative w.3)
        | inr l ↦ absurd l
      ]))

  not_positive : (k j : Kind) → k ≡ j → ¬ (j ≡ Positive) → ¬ (k ≡ Positive)
  not_positive k j e f g = f (sym e ∙ g)

  -- an answer
  answer_decides : (h : Header) (q : QuestionData) (answer : AnswerData) (v : DecisionData)
      → h.opcode < 16 → IsQuestionData q → HasKinds answer
      → ((p : ShownData) → Has (parts_of answer) p → GoodPart p) → DecidesAnswer h q answer v
      → DecisionReads FreshRecord v
  answer_decides h q Missed v opcode asked k f d = subst (DecisionReads FreshRecord) (sym d) tt
  answer_decides h q (Found chain set) v opcode asked k f d =
      subst (DecisionReads FreshRecord) (sym d.2)
      (records_read h q chain set d.0 opcode asked f k.0 k.1 d.1)
  answer_decides h q (NoData chain soa) v opcode asked k f d =
      subst (DecisionReads FreshRecord) (sym d.2)
      (denial_read h NO_ERROR q chain soa d.0 opcode (omega arith) asked f k.0
      (not_positive soa.observation.kind KindNoData k.1 (λ e. cc)) d.1)
  answer_decides h q (NxDomain chain soa) v opcode asked k f d =
      subst (DecisionReads FreshRecord) (sym d.2)
      (denial_read h NAME_ERROR q chain soa d.0 opcode (omega arith) asked f k.0
      (not_positive soa.observation.kind NameError k.1 (λ e. cc)) d.1)

  bare_decides : (h : Header) (rcode : ℕ) (q : Option QuestionData)
      → ReadsOnly FreshRecord (octets_of_outline (bare_outline h rcode q))
  bare_decides h rcode q = without_read FreshRecord (bare_outline h rcode q) refl refl

  opcode_of : (octets : List ℕ) → (header_of octets).opcode < 16
  opcode_of octets = omega arith

  -- whatever is asked
  pub decides : (octets : List ℕ) (v : DecisionData)
      → ((name : List (List ℕ)) (rtype : ℕ) (p : ShownData)
      → Has (parts_of (answer_of s t name rtype)) p → GoodPart p)
      → Decides s t octets v → DecisionReads FreshRecord v
  decides octets v f (inl d) = subst (DecisionReads FreshRecord) (sym d.1) tt
  decides octets v f (inr (long, inl d)) = subst (DecisionReads FreshRecord) (sym d.1) tt
  decides octets v f (inr (long, inr (asking, inl d))) =
      subst (DecisionReads FreshRecord) (sym d.1) (bare_decides (header_of octets) _ None)
  decides octets v f (inr (long, inr (asking, inr (plain, inl d)))) =
      subst (DecisionReads FreshRecord) (sym d.1.2) (bare_decides (header_of octets) _ None)
  decides octets v f (inr (long, inr (asking, inr (plain, inr d)))) = go d.1.3
    where
      q : QuestionData
      q = d.1.0

      go : DecidesQuestion s t (header_of octets) q v → DecisionReads FreshRecord v
      go (inl k) =
          subst (DecisionReads FreshRecord) (sym k.1) (bare_decides (header_of octets) _ (Some q))
      go (inr k) =
          answer_decides (header_of octets) q (answer_of s t q.name q.rtype) v (opcode_of octets)
          (question_asked octets 12 q d.1.1 d.1.2.question) (has_kinds-answer_of s t q.rtype q.name)
          (f q.name q.rtype) k.1

shown_read : {A : Type 0} (P : RecordData → Type 0) (v : DecisionData) (looked : Looked A)
    (bytes : List ℕ) → DecisionReads P v → Shows v looked → IsReplyOf looked bytes
    → ReadsOnly P bytes
shown_read P (Reply octets) (LookedReply b) bytes r s is = subst (ReadsOnly P) (sym (is ∙ s)) r
shown_read P (Unread octets f) (LookedReply b) bytes r s is = subst (ReadsOnly P) (sym (is ∙ s)) r
shown_read P Dropped (LookedReply b) bytes r s is = absurd s
shown_read P (Miss h q) (LookedReply b) bytes r s is = absurd s
shown_read P v LookedMiss bytes r s is = absurd is
shown_read P v LookedDropped bytes r s is = absurd is

-- what holds of each record that is read
pub reads_more : (P Q : RecordData → Type 0) (octets : List ℕ) → ((x : RecordData) → P x → Q x)
    → ReadsOnly P octets → ReadsOnly Q octets
reads_more P Q octets f r = record {
  answer = λ m is x h. f x (r.answer m is x h);
  authority = λ m is x h. f x (r.authority m is x h);
}

module _ (list : OneList) (live : TestsLive) (one : OneReply) (back : ReadsBack) where
  -- the parts of a site's answers are good
  pub good_parts : {A : Type 0} (configs : List ConfigData) (events : List (Event A))
      (results : Results A) (end : FleetModel) (run : Run (opening configs) events results end)
      → AllGossipIsOwn configs (opening configs) events results end run → (i : ℕ) (a : Replica)
      → At end.sites i a → (t : ℕ) (name : List (List ℕ)) (rtype : ℕ) (p : ShownData)
      → Has (parts_of (answer_of a.site.taken t name rtype)) p
      → IsGoodPart (opening configs) events results end run a.site.taken t p
  good_parts configs events results end run own i a there t name rtype p h =
      let ok = (run_ok list (opening configs) events results end run (opening_ok list configs)).sites
      i a there in record {
        fresh = answers_fresh list live configs events results end run own i a there t name rtype p h;
        lawful = ok.lawful p.observation
            (ok.heard_of p.observation (parts a.site.taken t rtype name p h).member);
        after = λ flush m is under.
            taken_withdraw live a.site.taken flush m is t name rtype p h under;
      }

  pub asked_after : {A : Type 0} → AskedAfter A
  asked_after configs events results end run own i now octets looked h bytes is =
      let a = h.asked in
      let t = max a.site.clock now in
      shown_read (IsFreshAfter (opening configs) events results end run a.site.taken t)
      h.looks.0 looked bytes
      (decides one back (opening configs) events results end run a.site.taken t octets h.looks.0
      (good_parts configs events results end run own i a h.there t) h.looks.1)
      h.looks.2 is

  pub asked_fresh : {A : Type 0} → AskedAreFresh A
  asked_fresh configs events results end run own i now octets looked h bytes is =
      reads_more _ _ bytes (λ x f. f.fresh)
      (asked_after configs events results end run own i now octets looked h bytes is)
