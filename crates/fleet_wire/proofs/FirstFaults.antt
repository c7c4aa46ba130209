-- A message has one first fault at most.
-- Serves the laws `one_query_fault`, `one_reply_fault`.
use mathlib.Core.Logic.{inl, inr}
use Rattle.std.proofs.Common.{◌≡◌, ℕ, ◌+◌, List, [], ◌∷◌, length, sym, ◌∙◌, subst, arith, Option, Some, None, Bool, true, false}
use Rattle.fleet_wire.specs.Number.{u16_at}
use Rattle.fleet_wire.specs.Fault.{Fails, here, later, beyond, NameFails}
use Rattle.fleet_wire.specs.Question.{QuestionFails}
use Rattle.fleet_wire.specs.Shape.{PartsFail, ShapeFails, shape_of}
use Rattle.fleet_wire.specs.Record.{RecordData, FixedFails, RecordFails, RecordsAt, RecordsFail}
use Rattle.fleet_wire.specs.Message.{header_of, QueryFails, SectionsFail, ReplyFails}
use Rattle.fleet_wire.specs.declared.fault.ReadFault.{ReadFault}
use Rattle.fleet_wire.specs.declared.shape.Part.{Part}
use Rattle.fleet_wire.specs.declared.shape.Part.TheVariants.{Plain, Name}
use Rattle.fleet_wire.proofs.Faults.{one_here, fault_or_label, fault_or_pointer, one_header_fault, header_or_fault}
use Rattle.fleet_wire.proofs.Readings.{label_same}
use Rattle.fleet_wire.proofs.Parts.{name_or_fault, one_reads, parts_or_fault}
use Rattle.fleet_wire.proofs.Records.{record_or_fault, one_record, one_row, records_or_fault, one_question, query_or_fault}

one_fault : (m : List ℕ) (p s k : ℕ) (f g : ReadFault) → Fails m p s k f → Fails m p s k g → f ≡ g
one_fault m p s k f g (here h) (here h') = one_here m p s k f g h h'
one_fault m p s k f g (here h) (later l at room more) =
    absurd (fault_or_label m p s k f l h at room)
one_fault m p s k f g (here h) (beyond q at back more) =
    absurd (fault_or_pointer m p s k f q h at back)
one_fault m p s k f g (later l at room more) (here h) =
    absurd (fault_or_label m p s k g l h at room)
one_fault m p s k f g (later l at room more) (later l' at' room' more') =
    let same = label_same m p l' l at' at in
    one_fault m (p + 1 + length l) s (k + length l + 1) f g more
    (subst (λ (x : List ℕ). Fails m (p + 1 + length x) s (k + length x + 1) g) same more')
one_fault m p s k f g (later l at room more) (beyond q at' back more') =
    absurd (omega (arith, at, at'))
one_fault m p s k f g (beyond q at back more) (here h) =
    absurd (fault_or_pointer m p s k g q h at back)
one_fault m p s k f g (beyond q at back more) (later l at' room more') =
    absurd (omega (arith, at, at'))
one_fault m p s k f g (beyond q at back more) (beyond q' at' back' more') =
    let same : q' ≡ q = at'.target ∙ sym at.target in
    one_fault m q q k f g more (subst (λ (x : ℕ). Fails m x x k g) same more')

one_name_fault : (m : List ℕ) (p : ℕ) (f g : ReadFault) → NameFails m p f → NameFails m p g → f ≡ g
one_name_fault m p f g h h' = one_fault m p p 1 f g h h'

one_parts_fault : (m : List ℕ) (parts : List Part) (p : ℕ) (f g : ReadFault) → PartsFail m parts p f
    → PartsFail m parts p g → f ≡ g
one_parts_fault m [] p f g h h' = absurd h
one_parts_fault m (Plain n ∷ parts) p f g (inl h) (inl h') = h.1 ∙ sym h'.1
one_parts_fault m (Plain n ∷ parts) p f g (inl h) (inr h') = absurd (omega (arith, h.0, h'.0))
one_parts_fault m (Plain n ∷ parts) p f g (inr h) (inl h') = absurd (omega (arith, h.0, h'.0))
one_parts_fault m (Plain n ∷ parts) p f g (inr h) (inr h') =
    one_parts_fault m parts (p + n) f g h.1 h'.1
one_parts_fault m (Name ∷ parts) p f g (inl h) (inl h') = one_name_fault m p f g h h'
one_parts_fault m (Name ∷ parts) p f g (inl h) (inr h') =
    absurd (name_or_fault m p h'.0 h'.1 f h'.2 h)
one_parts_fault m (Name ∷ parts) p f g (inr h) (inl h') =
    absurd (name_or_fault m p h.0 h.1 g h.2 h')
one_parts_fault m (Name ∷ parts) p f g (inr h) (inr h') =
    let same = one_reads m p h'.0 h.0 h'.1 h.1 h'.2 h.2 in
    one_parts_fault m parts h.1 f g h.3 (subst (λ (x : ℕ). PartsFail m parts x g) same.1 h'.3)

one_shape_fault : (m : List ℕ) (p k : ℕ) (s : Option (List Part)) (f g : ReadFault)
    → ShapeFails m p k s f → ShapeFails m p k s g → f ≡ g
one_shape_fault m p k None f g h h' = absurd h
one_shape_fault m p k (Some parts) f g (inl h) (inl h') = one_parts_fault m parts p f g h h'
one_shape_fault m p k (Some parts) f g (inl h) (inr h') =
    absurd (parts_or_fault m parts p h'.0 h'.1 f h'.2 h)
one_shape_fault m p k (Some parts) f g (inr h) (inl h') =
    absurd (parts_or_fault m parts p h.0 h.1 g h.2 h')
one_shape_fault m p k (Some parts) f g (inr h) (inr h') = h.4 ∙ sym h'.4

one_fixed_fault : (m : List ℕ) (past : ℕ) (f g : ReadFault) → FixedFails m past f
    → FixedFails m past g → f ≡ g
one_fixed_fault m past f g (inl h) (inl h') = h.1 ∙ sym h'.1
one_fixed_fault m past f g (inl h) (inr h') = absurd (omega (arith, h.0, h'.0))
one_fixed_fault m past f g (inr h) (inl h') = absurd (omega (arith, h.0, h'.0))
one_fixed_fault m past f g (inr h) (inr h') =
    one_shape_fault m (past + 10) (u16_at m (past + 8)) (shape_of (u16_at m past)) f g h.1 h'.1

one_record_fault : (m : List ℕ) (p : ℕ) (f g : ReadFault) → RecordFails m p f → RecordFails m p g
    → f ≡ g
one_record_fault m p f g (inl h) (inl h') = one_name_fault m p f g h h'
one_record_fault m p f g (inl h) (inr h') = absurd (name_or_fault m p h'.0 h'.1 f h'.2 h)
one_record_fault m p f g (inr h) (inl h') = absurd (name_or_fault m p h.0 h.1 g h.2 h')
one_record_fault m p f g (inr h) (inr h') =
    let same = one_reads m p h'.0 h.0 h'.1 h.1 h'.2 h.2 in
    one_fixed_fault m h.1 f g h.3 (subst (λ (x : ℕ). FixedFails m x g) same.1 h'.3)

-- after the records that are there one fails first
one_row_fault : (m : List ℕ) (p past past' : ℕ) (rs rs' : List RecordData) (f g : ReadFault)
    → RecordsAt m p rs past → RecordsAt m p rs' past' → RecordFails m past f → RecordFails m past' g
    → f ≡ g
one_row_fault m p past past' [] [] f g at at' h h' =
    one_record_fault m p f g (subst (λ (x : ℕ). RecordFails m x f) at h)
    (subst (λ (x : ℕ). RecordFails m x g) at' h')
one_row_fault m p past past' [] (r ∷ rs) f g at at' h h' =
    absurd (record_or_fault m p r at'.0 f at'.1 (subst (λ (x : ℕ). RecordFails m x f) at h))
one_row_fault m p past past' (r ∷ rs) [] f g at at' h h' =
    absurd (record_or_fault m p r at.0 g at.1 (subst (λ (x : ℕ). RecordFails m x g) at' h'))
one_row_fault m p past past' (r ∷ rs) (r' ∷ rs') f g at at' h h' =
    let same = one_record m p r' r at'.0 at.0 at'.1 at.1 in
    one_row_fault m at.0 past past' rs rs' f g at.2
    (subst (λ (x : ℕ). RecordsAt m x rs' past') same.1 at'.2) h h'

one_records_fault : (m : List ℕ) (p count : ℕ) (f g : ReadFault) → RecordsFail m p count f
    → RecordsFail m p count g → f ≡ g
one_records_fault m p count f g h h' = one_row_fault m p h.1 h'.1 h.0 h'.0 f g h.2 h'.2 h.4 h'.4

one_question_fault : (m : List ℕ) (p : ℕ) (f g : ReadFault) → QuestionFails m p f
    → QuestionFails m p g → f ≡ g
one_question_fault m p f g (inl h) (inl h') = one_name_fault m p f g h h'
one_question_fault m p f g (inl h) (inr h') = absurd (name_or_fault m p h'.0 h'.1 f h'.2 h)
one_question_fault m p f g (inr h) (inl h') = absurd (name_or_fault m p h.0 h.1 g h.2 h')
one_question_fault m p f g (inr h) (inr h') = h.4 ∙ sym h'.4

pub one_query_fault : (m : List ℕ) (f g : ReadFault) → QueryFails m f → QueryFails m g → f ≡ g
one_query_fault m f g (inl h) (inl h') = one_header_fault m f g h h'
one_query_fault m f g (inl h) (inr h') = absurd (header_or_fault m f h'.0 h)
one_query_fault m f g (inr h) (inl h') = absurd (header_or_fault m g h.0 h')
one_query_fault m f g (inr h) (inr h') = one_question_fault m 12 f g h.1 h'.1

one_section_fault : (m : List ℕ) (past : ℕ) (tc : Bool) (f g : ReadFault) → SectionsFail m past tc f
    → SectionsFail m past tc g → f ≡ g
one_section_fault m past true f g h h' = absurd h
one_section_fault m past false f g (inl h) (inl h') = one_records_fault m past (u16_at m 6) f g h h'
one_section_fault m past false f g (inl h) (inr h') =
    absurd (records_or_fault m past (u16_at m 6) h'.1 h'.0 f h'.2 h'.3 h)
one_section_fault m past false f g (inr h) (inl h') =
    absurd (records_or_fault m past (u16_at m 6) h.1 h.0 g h.2 h.3 h')
one_section_fault m past false f g (inr h) (inr h') =
    let same = one_row m past h'.0 h.0 h'.1 h.1 h'.2 h.2 (h'.3 ∙ sym h.3) in
    one_records_fault m h.1 (u16_at m 8) f g h.4
    (subst (λ (x : ℕ). RecordsFail m x (u16_at m 8) g) same.1 h'.4)

pub one_reply_fault : (m : List ℕ) (f g : ReadFault) → ReplyFails m f → ReplyFails m g → f ≡ g
one_reply_fault m f g (inl h) (inl h') = one_query_fault m f g h h'
one_reply_fault m f g (inl h) (inr h') = absurd (query_or_fault m (header_of m) h'.0 h'.1 f h'.2 h)
one_reply_fault m f g (inr h) (inl h') = absurd (query_or_fault m (header_of m) h.0 h.1 g h.2 h')
one_reply_fault m f g (inr h) (inr h') =
    let same = one_question m 12 h'.0 h.0 h'.1 h.1 h'.2.question h.2.question in
    one_section_fault m h.1 (header_of m).tc f g h.3
    (subst (λ (x : ℕ). SectionsFail m x (header_of m).tc g) same.1 h'.3)
