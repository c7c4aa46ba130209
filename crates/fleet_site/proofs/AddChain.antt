-- The records of an answer, as they are added to an outline.
-- Serves `add_chain`.
use Rattle.std.proofs.Common.{◌≡◌, ℕ, zero, suc, ◌+◌, ◌<◌, ◌≤◌, List, [], ◌∷◌, ◌++◌, Option, Some, None, length, get_or, take, drop, map, refl, sym, ap, ◌∙◌, subst, add-one, append_assoc}
use Rattle.std.proofs.Math.Seq.{drop-cons, take-suc}
use Rattle.std.proofs.lemmas.List.{append-nil, take_all}
use Rattle.fleet_wire.specs.Outline.{OutlineData}
use Rattle.fleet_wire.specs.Record.{RecordData}
use Rattle.fleet_cache.specs.Answer.{ShownData}
use Rattle.fleet_cache.specs.Kinds.{IsPositivePart, ArePositiveParts}
use Rattle.fleet_cache.specs.Shown.{shown_parts}
use Rattle.fleet_site.specs.question.AnswerRecords.{row, AreRows, AreChainRows}
use Rattle.fleet_site.specs.steps.Writing.{with_rows, AddsRows, AddsChainRows}

-- one more link
chain_snoc : (ps : List ShownData) (p : ShownData) (rows more : List RecordData)
    → AreChainRows ps rows → AreRows p more → AreChainRows (ps ++ p ∷ []) (rows ++ more)
chain_snoc [] p rows more e n = (more, [], n, refl, ap (λ r. r ++ more) e ∙ sym (append-nil more))
chain_snoc (q ∷ ps) p rows more c n = (
  c.0,
  c.1 ++ more,
  c.2,
  chain_snoc ps p c.1 more c.3 n,
  ap (λ r. r ++ more) c.4
      ∙ append_assoc c.0 c.1 more,
)

parts_of-append : (xs ys : List (Option ShownData))
    → shown_parts (xs ++ ys) ≡ shown_parts xs ++ shown_parts ys
parts_of-append [] ys = refl
parts_of-append (None ∷ xs) ys = parts_of-append xs ys
parts_of-append (Some x ∷ xs) ys = ap (λ ps. x ∷ ps) (parts_of-append xs ys)

parts_taken : (xs : List (Option ShownData)) (i : ℕ) (o : Option ShownData) → i < length xs
    → o ≡ get_or xs i o → shown_parts (take (i + 1) xs) ≡ shown_parts (take i xs)
    ++ shown_parts (o ∷ [])
parts_taken xs i o h e =
    ap (λ n. shown_parts (take n xs)) (add-one i)
    ∙ ap shown_parts (take-suc xs i o h)
    ∙ parts_of-append (take i xs) (get_or xs i o ∷ [])
    ∙ ap (λ y. shown_parts (take i xs) ++ shown_parts (y ∷ [])) (sym e)

positive_dropped : (xs : List (Option ShownData)) (i : ℕ) → ArePositiveParts (shown_parts xs)
    → ArePositiveParts (shown_parts (drop i xs))
positive_dropped xs zero h = h
positive_dropped [] (suc i) h = h
positive_dropped (None ∷ xs) (suc i) h = positive_dropped xs i h
positive_dropped (Some x ∷ xs) (suc i) h = positive_dropped xs i h.1

positive_at : (xs : List (Option ShownData)) (i : ℕ) (o : Option ShownData) (x : ShownData)
    → i < length xs → o ≡ get_or xs i o → o ≡ Some x → ArePositiveParts (shown_parts xs)
    → IsPositivePart x
positive_at xs i o x h e is all =
    let P : List (Option ShownData) → Type 0 = λ l. ArePositiveParts (shown_parts l) in
    let first : P (get_or xs i o ∷ drop (suc i) xs) =
    subst P (drop-cons xs i o h) (positive_dropped xs i all) in
    let Q : Option ShownData → Type 0 = λ y. P (y ∷ drop (suc i) xs) in
    (subst Q (sym e ∙ is) first).0

-- an empty place adds nothing
pub gap_passed : (xs : List (Option ShownData)) (i : ℕ) (o : Option ShownData)
    (old mid : OutlineData) → i < length xs → o ≡ get_or xs i o → o ≡ None
    → (ArePositiveParts (shown_parts xs) → AddsChainRows (shown_parts (take i xs)) old mid)
    → ArePositiveParts (shown_parts xs) → AddsChainRows (shown_parts (take (i + 1) xs)) old mid
gap_passed xs i o old mid h e is before all =
    let P : List ShownData → Type 0 = λ ps. AddsChainRows ps old mid in
    let none : shown_parts (o ∷ []) ≡ [] = ap (λ y. shown_parts (y ∷ [])) is in
    subst P (sym (parts_taken xs i o h e ∙ ap (λ ps. shown_parts (take i xs) ++ ps) none
    ∙ append-nil (shown_parts (take i xs)))) (before all)

-- the records of one more link are added
pub chain_added : (xs : List (Option ShownData)) (i : ℕ) (o : Option ShownData) (x : ShownData)
    (old mid new : OutlineData) → i < length xs → o ≡ get_or xs i o → o ≡ Some x
    → (ArePositiveParts (shown_parts xs) → AddsChainRows (shown_parts (take i xs)) old mid)
    → (IsPositivePart x → AddsRows x mid new) → ArePositiveParts (shown_parts xs)
    → AddsChainRows (shown_parts (take (i + 1) xs)) old new
chain_added xs i o x old mid new h e is before adds all =
    let a = before all in
    let b = adds (positive_at xs i o x h e is all) in
    let more = map (row x) b.0 in
    let P : List ShownData → Type 0 = λ ps. AreChainRows ps (a.0 ++ more) in
    let there : AreChainRows (shown_parts (take i xs) ++ x ∷ []) (a.0 ++ more) =
    chain_snoc (shown_parts (take i xs)) x a.0 more a.1 (b.0, b.1, refl) in
    let one : shown_parts (o ∷ []) ≡ x ∷ [] = ap (λ y. shown_parts (y ∷ [])) is in
    let end : new ≡ record old { answer = old.answer ++ (a.0 ++ more) } =
    b.2 ∙ ap (with_rows x b.0) a.2 ∙ ap (λ r. record old { answer = r })
    (append_assoc old.answer a.0 more) in (
      a.0 ++ more,
      subst P (sym (parts_taken xs i o h e
          ∙ ap (λ ps. shown_parts (take i xs) ++ ps) one)) there,
      end,
    )

-- the records of all links are added
pub all_added : (xs : List (Option ShownData)) (i : ℕ) (old new : OutlineData) → length xs ≤ i
    → (ArePositiveParts (shown_parts xs) → AddsChainRows (shown_parts (take i xs)) old new)
    → ArePositiveParts (shown_parts xs) → AddsChainRows (shown_parts xs) old new
all_added xs i old new h before all =
    let P : List (Option ShownData) → Type 0 = λ l. AddsChainRows (shown_parts l) old new in
    subst P (take_all i xs h) (before all)
