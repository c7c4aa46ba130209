use Rattle.std.proofs.Common.{◌≡◌, ◌≢◌, ◌%◌, ℕ, List, [], length, refl, sym, ap, arith, rules, inl, subst}
use mathlib.Core.Bool.{false≢true}
use Rattle.std.specs.Prelude.{is_ok, codes}
use Rattle.std.specs.List.{AllPass}
use Rattle.std.specs.Result.{result_unwrap_or}
use Rattle.hex.specs.Hex.{is_hex_digit}
use Rattle.fleet_program.proofs.HexNew.{none_decoded, digits_of, is_decoded, octets_decoded}
use Rattle.fleet_program.proofs.words.Hex.new.Goals as goal

pub invariant_of-result : goal.invariant_of-result
invariant_of-result c = ap is_ok none_decoded

pub returns-then-eq : goal.returns-then-eq
returns-then-eq c =
    let dash : c.args.word.now ≡ codes "-" = search rules in
    inl (dash, ap (λ r. result_unwrap_or r []) none_decoded)

pub returns-then-not-are_hex_digits : goal.returns-then-not-are_hex_digits
returns-then-not-are_hex_digits c = λ octets h.
    let other : c.args.word.now ≢ codes "-" = search rules in
    let digits = (digits_of c.args.word.now octets other h).1 in
    let same : List ℕ → Type 0 = AllPass is_hex_digit in
    absurd (false≢true (c.if-not-are_hex_digits.ensures.1
    (subst same (sym c.as_bytes.ensures.value) digits)))

pub invariant_of-result-2 : goal.invariant_of-result-2
invariant_of-result-2 c =
    let even : length c.args.word.now % 2 ≡ 0 = omega arith in
    let digits : AllPass is_hex_digit c.args.word.now =
    rw c.as_bytes.ensures.value at (c.if-not-are_hex_digits.ensures.0 refl) in
    is_decoded c.args.word.now even digits

pub returns : goal.returns
returns c =
    let even : length c.args.word.now % 2 ≡ 0 = omega arith in
    let some : c.args.word.now ≢ [] = search rules in
    let digits : AllPass is_hex_digit c.args.word.now =
    rw c.as_bytes.ensures.value at (c.if-not-are_hex_digits.ensures.0 refl) in
    octets_decoded c.args.word.now some even digits
