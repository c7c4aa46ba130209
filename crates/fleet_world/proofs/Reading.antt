-- What is read in octets that were written.
-- Serves the laws `fresh`, `withdrawn`.
use Rattle.std.proofs.Common.{◌≡◌, ℕ, ◌+◌, ◌*◌, ◌/◌, ◌%◌, Bool, true, false, nat_le, if◌then◌else◌, inl, inr, List, [], ◌∷◌, length, refl, sym, ap, subst, ◌∙◌, arith, Some}
use Rattle.std.specs.List.{AllByRecursion}
use Rattle.std.proofs.lemmas.Bool.Decides.{nat_tests}
use Rattle.fleet_name.specs.Places.{Has}
use Rattle.fleet_wire.specs.Message.{MessageData, IsReply, SectionsAt}
use Rattle.fleet_wire.specs.Number.{u16_at}
use Rattle.fleet_wire.specs.Outline.{OutlineData, whole_octets, cut_octets, octets_of_outline, IsOutlineData, IsWhole, HasPlainRdata, message_of_outline}
use Rattle.fleet_wire.specs.Query.{query_octets}
use Rattle.fleet_wire.specs.Question.{QuestionData}
use Rattle.fleet_wire.specs.Record.{RecordData}
use Rattle.fleet_wire.specs.declared.bounds.TheConstants.{LONGEST_MESSAGE}
use Rattle.fleet_world.specs.Fresh.{ReadsOnly}
use Rattle.fleet_world.proofs.Rows.{IsPlainLine}

-- a message is one reply at most
abbrev pub OneReply : Type 0
OneReply = (m : List ℕ) (a b : MessageData) → IsReply m a → IsReply m b → a ≡ b

-- an outline reads back
abbrev pub ReadsBack : Type 0
ReadsBack = (o : OutlineData) (q : QuestionData) → IsOutlineData o → IsWhole o q
    → IsReply (octets_of_outline o) (message_of_outline o q)

none_counted : (xs : List RecordData) (x : RecordData) → length xs ≡ 0 → Has xs x → ⊥
none_counted [] x e h = h
none_counted (y ∷ xs) x e h = omega (arith, e)

answer_counted : (m : List ℕ) (past : ℕ) (tc : Bool) (a b : List RecordData) (x : RecordData)
    → SectionsAt m past tc a b → u16_at m 6 ≡ 0 → Has a x → ⊥
answer_counted m past true a b x s e h = subst (λ xs. Has xs x) s.0 h
answer_counted m past false a b x s e h = none_counted a x (s.3 ∙ e) h

authority_counted : (m : List ℕ) (past : ℕ) (tc : Bool) (a b : List RecordData) (x : RecordData)
    → SectionsAt m past tc a b → u16_at m 8 ≡ 0 → Has b x → ⊥
authority_counted m past true a b x s e h = subst (λ xs. Has xs x) s.1 h
authority_counted m past false a b x s e h = none_counted b x (s.5 ∙ e) h

module _ (P : RecordData → Type 0) where
  -- where no records are counted, none is read
  pub none_read : (m : List ℕ) → u16_at m 6 ≡ 0 → u16_at m 8 ≡ 0 → ReadsOnly P m
  none_read m a b = record {
    answer = λ r is x h. absurd (answer_counted m is.past r.header.tc r.answer r.authority x
        is.sections a h);
    authority = λ r is x h. absurd (authority_counted m is.past r.header.tc r.answer r.authority x
        is.sections b h);
  }

  cut_read : (o : OutlineData) → ReadsOnly P (cut_octets o)
  cut_read o = none_read (cut_octets o) refl refl

  two_octets : (n : ℕ) → n ≡ 0 → n / 256 * 256 + n % 256 ≡ 0
  two_octets n e = rw e refl

  bare_read : (o : OutlineData) → length o.answer ≡ 0 → length o.authority ≡ 0
      → ReadsOnly P (whole_octets o)
  bare_read o a b =
      none_read (whole_octets o) (two_octets (length o.answer) a)
      (two_octets (length o.authority) b)

  -- an outline without records
  pub without_read : (o : OutlineData) → length o.answer ≡ 0 → length o.authority ≡ 0
      → ReadsOnly P (octets_of_outline o)
  unfolding octets_of_outline
  without_read o a b = go (nat_le (length (whole_octets o)) LONGEST_MESSAGE)
    where
      go : (fits : Bool) → ReadsOnly P (if fits then whole_octets o else cut_octets o)
      go true = bare_read o a b
      go false = cut_read o

  -- a query
  pub query_read : (id : ℕ) (q : QuestionData) → ReadsOnly P (query_octets id q)
  query_read id q = none_read (query_octets id q) refl refl

  all_of : {X : Type 0} (Q : X → Type 0) (xs : List X) → ((x : X) → Has xs x → Q x)
      → AllByRecursion Q xs
  all_of Q [] f = tt
  all_of Q (x ∷ xs) f = (f x (inl refl), all_of Q xs (λ y h. f y (inr h)))

  cut_octets_of : (o : OutlineData) → nat_le (length (whole_octets o)) LONGEST_MESSAGE ≡ false
      → octets_of_outline o ≡ cut_octets o
  unfolding octets_of_outline
  cut_octets_of o e = ap (λ (b : Bool). if b then whole_octets o else cut_octets o) e

  -- what holds of each record of an outline is read, where the records read back
  pub outline_read : OneReply → ReadsBack → (o : OutlineData) (q : QuestionData) → IsOutlineData o
      → o.tc ≡ false → o.question ≡ Some q
      → ((x : RecordData) → Has o.answer x → P x × IsPlainLine x)
      → ((x : RecordData) → Has o.authority x → P x × IsPlainLine x)
      → ReadsOnly P (octets_of_outline o)
  outline_read one back o q lawful clear question a b =
      go (nat_le (length (whole_octets o)) LONGEST_MESSAGE) refl
    where
      go : (fits : Bool) → nat_le (length (whole_octets o)) LONGEST_MESSAGE ≡ fits
          → ReadsOnly P (octets_of_outline o)
      go false e = subst (ReadsOnly P) (sym (cut_octets_of o e)) (cut_read o)
      go true e =
          let read = back o q lawful (record {
            clear = clear;
            question = question;
            answer = all_of HasPlainRdata o.answer (λ x h. (a x h).1.plain);
            authority = all_of HasPlainRdata o.authority (λ x h. (b x h).1.plain);
            fits = grind (arith, nat_tests, e);
          }) in record {
            answer = λ r is x h. (a x (subst (λ (y : MessageData). Has y.answer x)
                (one (octets_of_outline o) r (message_of_outline o q) is read) h)).0;
            authority = λ r is x h. (b x (subst (λ (y : MessageData). Has y.authority x)
                (one (octets_of_outline o) r (message_of_outline o q) is read) h)).0;
          }
