-- The octets of an outline, piece by piece.
-- Serves `push_whole`, `write_reply`, `write_reply_into`.
use Rattle.std.proofs.Common.{◌≡◌, ℕ, ◌+◌, ◌<◌, ◌≤◌, List, [], ◌∷◌, ◌++◌, length, refl, sym, ap, ◌∙◌, arith, append_assoc, length-append, Bool, cond}
use Rattle.std.proofs.lemmas.Bool.{le-leb, lt-leb}
use Rattle.fleet_name.specs.Name.{wire}
use Rattle.fleet_wire.specs.Record.{RecordData}
use Rattle.fleet_wire.specs.Number.{u16_octets, u32_octets}
use Rattle.fleet_wire.specs.declared.bounds.TheConstants.{LONGEST_MESSAGE}
use Rattle.fleet_wire.specs.Outline.{OutlineData, record_octets, section_octets, question_octets_if_any, header_octets, whole_octets, cut_octets, octets_of_outline}

-- each record has octets
pub count_rows : (rs : List RecordData) → length rs ≤ length (section_octets rs)
count_rows [] = omega arith
count_rows (r ∷ rs) =
    let fixed =
    u16_octets r.rtype
    ++ (u16_octets r.class ++ (u32_octets r.ttl ++ (u16_octets (length r.rdata) ++ r.rdata))) in
    omega (
      arith,
      count_rows rs,
      length-append (record_octets r) (section_octets rs),
      length-append (wire r.name) fixed,
    )

whole_size : (o : OutlineData)
    → length (whole_octets o) ≡ 12 + (length (question_octets_if_any o.question)
    + (length (section_octets o.answer) + length (section_octets o.authority)))
whole_size o =
    let h = header_octets o o.tc (length o.answer) (length o.authority) in
    length-append h
    (question_octets_if_any o.question ++ (section_octets o.answer ++ section_octets o.authority))
    ∙ (ap (λ (n : ℕ). 12 + n)
    (length-append (question_octets_if_any o.question)
    (section_octets o.answer ++ section_octets o.authority)
    ∙ ap (λ (n : ℕ). length (question_octets_if_any o.question) + n)
    (length-append (section_octets o.answer) (section_octets o.authority))))

-- what fits a message whole has few records
pub rows_fit : (o : OutlineData) → length (whole_octets o) ≤ LONGEST_MESSAGE
    → (length o.answer ≤ LONGEST_MESSAGE) × (length o.authority ≤ LONGEST_MESSAGE)
rows_fit o fits =
    let size = whole_size o in (
      omega (arith, size, fits, count_rows o.answer),
      omega (arith, size, fits, count_rows o.authority),
    )

-- a reply that is written piece by piece
pub whole_pieces : (o : OutlineData) (start one two three four : List ℕ) (an ns : ℕ)
    → an ≡ length o.answer → ns ≡ length o.authority → one ≡ start ++ header_octets o o.tc an ns
    → two ≡ one ++ question_octets_if_any o.question → three ≡ two ++ section_octets o.answer
    → four ≡ three ++ section_octets o.authority → four ≡ start ++ whole_octets o
whole_pieces o start one two three four an ns is_an is_ns e1 e2 e3 e4 =
    let h = header_octets o o.tc (length o.answer) (length o.authority) in
    let y = question_octets_if_any o.question in
    let first : one ≡ start ++ h =
    e1 ∙ rw (is_an, is_ns) refl in
    let second : two ≡ (start ++ h) ++ y = e2 ∙ ap (λ (x : List ℕ). x ++ y) first in
    let third : three ≡ ((start ++ h) ++ y) ++ section_octets o.answer =
    e3 ∙ ap (λ (x : List ℕ). x ++ section_octets o.answer) second in
    e4 ∙ (ap (λ (x : List ℕ). x ++ section_octets o.authority) third
    ∙ (append_assoc ((start ++ h) ++ y) (section_octets o.answer) (section_octets o.authority)
    ∙ (append_assoc (start ++ h) y (section_octets o.answer ++ section_octets o.authority)
    ∙ append_assoc start h (y ++ (section_octets o.answer ++ section_octets o.authority)))))

-- what fits is written whole
pub written_whole : (o : OutlineData) → length (whole_octets o) ≤ LONGEST_MESSAGE
    → whole_octets o ≡ octets_of_outline o
unfolding octets_of_outline
written_whole o fits =
    sym (ap (λ (t : Bool). cond t (whole_octets o) (cut_octets o))
    (le-leb (length (whole_octets o)) LONGEST_MESSAGE fits))

-- and what does not is cut off
pub written_cut : (o : OutlineData) → LONGEST_MESSAGE < length (whole_octets o)
    → cut_octets o ≡ octets_of_outline o
unfolding octets_of_outline
written_cut o over =
    sym (ap (λ (t : Bool). cond t (whole_octets o) (cut_octets o))
    (lt-leb (length (whole_octets o)) LONGEST_MESSAGE over))
