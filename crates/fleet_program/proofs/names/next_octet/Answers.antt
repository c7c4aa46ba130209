use Rattle.std.proofs.Common.{◌≡◌, ◌<◌, ◌∷◌, ◌-◌, [], ℕ, length, List, get_or, take, drop, IfSome, refl, sym, ap, subst, ◌∙◌, arith, drop-cons}
use Rattle.std.proofs.lemmas.List.{take_rest}
use Rattle.fleet_program.specs.NameText.{Begins}
use Rattle.fleet_program.specs.NameText.SpellsOctet.{plain}
use Rattle.fleet_program.proofs.names.next_octet.Goals as goal

-- what is not empty is its first octet and the rest
first_and_rest : (text : List ℕ) → 0 < length text
    → text ≡ get_or text 0 0 ∷ take (length text - 1) (drop 1 text)
first_and_rest text some =
    drop-cons text 0 0 some ∙ ap (λ (x : List ℕ). get_or text 0 0 ∷ x) (sym (take_rest text 1))

pub returns-in-92 : goal.returns-in-92
returns-in-92 c =
    let text = c.args.text.now in
    let others = take (length text - 1) (drop 1 text) in
    let is : text ≡ 92 ∷ others =
    first_and_rest text (omega arith) ∙ ap (λ (o : ℕ). o ∷ others) (omega arith) in
    subst (λ (x : List ℕ). IfSome c.escaped.result (λ it. Begins x it.0 it.1.now)) (sym is)
    c.escaped.ensures

pub returns-in-33-to-126 : goal.returns-in-33-to-126
returns-in-33-to-126 c =
    let text = c.args.text.now in (
      get_or text 0 0 ∷ [],
      first_and_rest text (omega arith),
      plain (omega arith) (omega arith) (omega arith) (omega arith) refl,
    )
