-- Words that are numbers.
-- Serves `address`, `number`.
use Rattle.std.proofs.Common.{◌≡◌, ℕ, ◌<◌, ◌≤◌, ◌^◌, List, length, true, rules, arith, Result, Ok, Err}
use Rattle.std.specs.Char.{is_ascii_digit}
use Rattle.std.specs.List.{AllPass, list_all}
use Rattle.std.specs.Option.{SomeIff}
use Rattle.std.specs.Result.{result_ok}
use Rattle.std.specs.Str.Parse.{digits_value, ParsesUnsigned}
use Rattle.std.proofs.lemmas.List.Sums.{list_all-from_AllPass}
use Rattle.std.proofs.lemmas.Str.Parse.{IsNumeralModel, IsDigitsTest, numerals_by_value, parse_digits, digits_value_short}
use Rattle.fleet_program.specs.Words.{IsNumber, number_of}
use Rattle.fleet_program.specs.declared.words.TheConstants.{MOST_DIGITS}

digits_test : IsDigitsTest (λ ds. list_all is_ascii_digit ds ≡ true)
digits_test = search rules

pub model : IsNumeralModel (λ ds. list_all is_ascii_digit ds ≡ true) (digits_value 10)
model = numerals_by_value _ digits_test

-- at most 13 digits are parsed as a number, if there are any
pub number_parsed : {E : Type 0} (word : List ℕ) (r : Result ℕ E) → ParsesUnsigned 64 10 word r
    → length word ≤ MOST_DIGITS → AllPass is_ascii_digit word
    → SomeIff (result_ok r) (IsNumber word) (number_of word)
number_parsed {E = E} word (Ok x) h short ds =
    let all : list_all is_ascii_digit word ≡ true = list_all-from_AllPass is_ascii_digit word ds in
    let told = parse_digits model {E = E} 64 word (Ok x) h all in
    (record { some = omega (arith, told.0.0); short = short; digits = ds }, told.1)
number_parsed {E = E} word (Err e) h short ds =
    let all : list_all is_ascii_digit word ≡ true = list_all-from_AllPass is_ascii_digit word ds in
    let told = parse_digits model {E = E} 64 word (Err e) h all in
    let fits : digits_value 10 word < 10 ^ MOST_DIGITS =
    digits_value_short model word MOST_DIGITS all short in
    λ n. told (omega (arith, n.some), omega (arith, fits))
