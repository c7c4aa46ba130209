use Rattle.std.proofs.Common.{◌≡◌, ◌≤◌, ◌∷◌, [], ℕ, ◌+◌, ◌*◌, ◌-◌, IsTrue, IsFalse, length, List, get_or, drop, refl, sym, ap, arith, rules, tests}
use Rattle.std.proofs.lemmas.List.{take_rest}
use Rattle.std.proofs.lemmas.Bool.Decides.{nat_tests}
use Rattle.std.proofs.lemmas.Grind.{common_steps}
use Rattle.std.specs.Char.{is_ascii_digit}
use Rattle.fleet_program.specs.NameText.{Begins}
use Rattle.fleet_program.specs.NameText.SpellsOctet.{escaped, numbered}
use Rattle.fleet_program.proofs.names.escaped.Goals as goal

-- a backslash and three digits spell the octet of that number
begins_numbered : (text rest : List ℕ) (o : ℕ) → 3 ≤ length text → rest ≡ drop 3 text
    → IsTrue (is_ascii_digit (get_or text 0 0)) → IsTrue (is_ascii_digit (get_or text 1 0))
    → IsTrue (is_ascii_digit (get_or text 2 0)) → o ≤ 255
    → o ≡ (get_or text 0 0 - 48) * 100 + (get_or text 1 0 - 48) * 10 + (get_or text 2 0 - 48)
    → Begins (92 ∷ text) o rest
begins_numbered (a ∷ b ∷ c ∷ others) rest o some e da db dc octet is = (
  92 ∷ a ∷ b ∷ c ∷ [],
  ap (λ (x : List ℕ). 92 ∷ a ∷ b ∷ c ∷ x) (sym e),
  numbered a b c da db dc octet is refl,
)
begins_numbered _ rest o some e da db dc octet is = absurd (omega arith)

-- a backslash and what is no digit spell it
begins_escaped : (text rest : List ℕ) → 1 ≤ length text → rest ≡ drop 1 text
    → IsFalse (is_ascii_digit (get_or text 0 0)) → Begins (92 ∷ text) (get_or text 0 0) rest
begins_escaped (a ∷ others) rest some e no_digit =
    (92 ∷ a ∷ [], ap (λ (x : List ℕ). 92 ∷ a ∷ x) (sym e), escaped no_digit refl)
begins_escaped [] rest some e no_digit = absurd (omega arith)

pub returns-in_ok-ok-in-48-to-57 : goal.returns-in_ok-ok-in-48-to-57
returns-in_ok-ok-in-48-to-57 c =
    begins_numbered _ _ _ (omega arith) (take_rest c.args.text.now 3) (search (rules, tests))
    (search (rules, tests)) (search (rules, tests)) (grind (arith, common_steps))
    (grind (arith, common_steps))

pub returns-in-len1-up : goal.returns-in-len1-up
returns-in-len1-up c =
    begins_escaped _ _ (grind (arith, nat_tests)) (take_rest c.args.text.now 1)
    (grind (arith, nat_tests))
