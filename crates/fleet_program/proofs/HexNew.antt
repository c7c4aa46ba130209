-- Words that spell octets.
-- Serves `Hex::new`.
use Rattle.std.proofs.Common.{◌≡◌, ◌≢◌, ◌%◌, ℕ, List, [], length, true, Ok, inl, inr, refl, sym, ap, ◌∙◌}
use Rattle.std.specs.Prelude.{is_ok, codes}
use Rattle.std.specs.List.{AllPass}
use Rattle.std.specs.Result.{result_unwrap_or}
use Rattle.hex.specs.Hex.{decode_of, decode_pairs, is_hex_digit}
use Rattle.hex.proofs.HexLemmas.{decode_of-digits, decode_of-ok}
use Rattle.fleet_program.specs.Words.{SpellsOctets}

pub none_decoded : decode_of [] ≡ Ok []
unfolding decode_pairs
none_decoded = refl

-- a word for octets that is not `-` has an even number of digits
pub digits_of : (word octets : List ℕ) → word ≢ codes "-" → SpellsOctets word octets
    → (length word % 2 ≡ 0) × AllPass is_hex_digit word
digits_of word octets other (inl h) = absurd (other h.0)
digits_of word octets other (inr h) = let d = decode_of-ok word octets h.1 in (d.0, d.1)

-- an even number of digits decodes
pub is_decoded : (word : List ℕ) → length word % 2 ≡ 0 → AllPass is_hex_digit word
    → is_ok (decode_of word) ≡ true
is_decoded word even digits = let d = decode_of-digits word even digits in ap is_ok d.1

-- and to what it spells
pub octets_decoded : (word : List ℕ) → word ≢ [] → length word % 2 ≡ 0 → AllPass is_hex_digit word
    → SpellsOctets word (result_unwrap_or (decode_of word) [])
octets_decoded word some even digits =
    let d = decode_of-digits word even digits in
    let e : result_unwrap_or (decode_of word) [] ≡ d.0 = ap (λ r. result_unwrap_or r []) d.1 in
    inr (some, d.1 ∙ ap Ok (sym e))
