-- Words that spell names.
-- Serves `Hex::spells_name`, `NameWord::new`.
use Rattle.std.proofs.Common.{◌≡◌, ℕ, ◌<◌, ◌/◌, ◌*◌, ◌↔◌, List, [], length, drop, true, Option, Some, None, Result, Ok, Err, refl, sym, ap, ◌∙◌, subst, arith}
use Rattle.std.proofs.lemmas.List.{length-map}
use mathlib.Core.Bool.{false≢true}
use Rattle.std.specs.Prelude.{is_ok, is_some, MatchResult, MatchOption}
use Rattle.std.specs.Result.{result_unwrap_or}
use Rattle.std.specs.Char.{to_ascii_lowercase}
use Rattle.hex.specs.Hex.{decode_of, decode_sized}
use Rattle.hex.specs.declared.FromHexError.{FromHexError}
use Rattle.hex.proofs.HexLemmas.{decode_of-ok, decode_sized-twice}
use Rattle.fleet_name.specs.Name.{wire, lower, labels_of, IsName, IsWire, IsSuffix}
use Rattle.fleet_name.specs.declared.bounds.TheConstants.{LONGEST_NAME}
use Rattle.fleet_name.proofs.Lemmas.{labels_of-spelled}
use Rattle.fleet_program.specs.Words.{IsNameWord}

-- the octets of digits
abbrev pub octets_of : List ℕ → List ℕ
octets_of digits = result_unwrap_or (decode_of digits) []

unwrapped : (r : Result (List ℕ) FromHexError) → is_ok r ≡ true → r ≡ Ok (result_unwrap_or r [])
unwrapped (Ok octets) e = refl
unwrapped (Err fault) e = absurd (false≢true e)

-- two digits for each
two_for_each : (digits : List ℕ) → is_ok (decode_of digits) ≡ true
    → length digits ≡ 2 * length (octets_of digits)
two_for_each digits e = (decode_of-ok digits (octets_of digits) (unwrapped (decode_of digits) e)).2

-- what has more octets than a name spells none
pub too_long : (digits : List ℕ) → is_ok (decode_of digits) ≡ true
    → LONGEST_NAME < length digits / 2
    → IsWire (lower (octets_of digits)) → ⊥
too_long digits e long w =
    let twice = two_for_each digits e in
    let kept = length-map (octets_of digits) to_ascii_lowercase in
    let same = ap length w.whole in
    omega (arith, long, twice, kept, same, w.named.fits)

-- digits are decoded into room for half as many
pub written : (digits out : List ℕ) (n : ℕ) (r : Result (Unit {0}) FromHexError)
    → is_ok (decode_of digits) ≡ true → n ≡ length digits / 2
    → MatchResult (decode_sized digits n) (λ octets. (r ≡ Ok tt) × (out ≡ octets)) (λ f. r ≡ Err f)
    → out ≡ octets_of digits
written digits out n r e half told =
    let twice = two_for_each digits e in
    let is = decode_sized-twice digits n (omega (arith, half, twice))
    ∙ unwrapped (decode_of digits) e in
    (rw is at told).1

-- octets have a suffix without no labels where they are a name
pub suffix_found : {X : Type 0} (now : X → List ℕ) (octets : List ℕ) (r : Option X)
    → MatchOption r ((rest : List ℕ) → IsSuffix octets 0 rest → ⊥) (λ s. IsSuffix octets 0 (now s))
    → (is_some r ≡ true) ↔ IsWire octets
suffix_found now octets None told = (
  λ e. absurd (false≢true e),
  λ w. absurd (told (wire (drop 0 w.name)) (record {
    name = w.name;
    named = w.named;
    whole = w.whole;
    enough = omega arith;
    behind = refl;
  })),
)
suffix_found now octets (Some s) told =
    (λ e. record { name = told.name; named = told.named; whole = told.whole }, λ w. refl)

-- the name that octets spell
pub spelled_name : (octets : List ℕ) → IsWire (lower octets)
    → IsNameWord octets (labels_of (lower octets))
spelled_name octets w =
    let same = labels_of-spelled (lower octets) w.name w.named.labels w.whole in
    record { named = subst IsName (sym same) w.named; whole = w.whole ∙ ap wire (sym same) }
