-- A number at the front, or octets there, and their faults exclude each other, and they have one
-- fault at most.
-- Serves `read_entry`, `read_head`, `read_known_entry`, and what `Bodies`, `Entries`, `Frames`,
-- `Names` serve.
use Rattle.std.proofs.Common.{◌≡◌, ℕ, ◌<◌, List, ◌++◌, length, sym, ap, ◌∙◌, subst, arith, length-append}
use Rattle.fleet_name.proofs.Lemmas.{split_same}
use Rattle.fleet_gossip.specs.Faults.{FieldFails, cut, refused, behind, OctetsFail, cut_octets, refused_octets}
use Rattle.fleet_gossip.specs.steps.Reading.{NoField}
use Rattle.fleet_gossip.specs.declared.fault.FrameFault.{FrameFault}

module _ (spelled : ℕ → List ℕ) (size : ℕ) (Lawful : ℕ → Type 0) (refusal : FrameFault)
    (Behind : ℕ → List ℕ → FrameFault → Type 0)
    (long : (n : ℕ) → length (spelled n) ≡ size) (exact : (a b : ℕ) (r s : List ℕ)
    → spelled a ++ r ≡ spelled b ++ s → (a ≡ b) × (r ≡ s)) where
  short_not : (n : ℕ) (rest octets : List ℕ) → octets ≡ spelled n ++ rest → length octets < size → ⊥
  short_not n rest octets is short = omega (
    arith,
    short,
    ap length is,
    length-append (spelled n) rest,
    long n,
  )

  behind_same : (n m : ℕ) (r s : List ℕ) (f : FrameFault) → n ≡ m → r ≡ s → Behind n r f
      → Behind m s f
  behind_same n m r s f e e' h = subst (λ (x : List ℕ). Behind m x f) e'
      (subst (λ (x : ℕ). Behind x r f) e h)

  pub field_or_fault : (n : ℕ) (rest octets : List ℕ) (f : FrameFault) → octets ≡ spelled n ++ rest
      → Lawful n → (Behind n rest f → ⊥) → FieldFails spelled size Lawful refusal Behind octets f
      → ⊥
  field_or_fault n rest octets f is lawful never (cut short e) = short_not n rest octets is short
  field_or_fault n rest octets f is lawful never (refused m r e unlike e') =
      unlike (subst (λ (x : ℕ). Lawful x) (exact n m rest r (sym is ∙ e)).0 lawful)
  field_or_fault n rest octets f is lawful never (behind m r e l h) =
      let same = exact m n r rest (sym e ∙ is) in never (behind_same m n r rest f same.0 same.1 h)

  module _ (one : (n : ℕ) (rest : List ℕ) (f g : FrameFault) → Lawful n → Behind n rest f
      → Behind n rest g → f ≡ g) where
    pub one_field : (octets : List ℕ) (f g : FrameFault)
        → FieldFails spelled size Lawful refusal Behind octets f
        → FieldFails spelled size Lawful refusal Behind octets g → f ≡ g
    one_field octets f g (cut short e) (cut short' e') = e ∙ sym e'
    one_field octets f g (cut short e) (refused m r is unlike e') =
        absurd (short_not m r octets is short)
    one_field octets f g (cut short e) (behind m r is l h) = absurd (short_not m r octets is short)
    one_field octets f g (refused m r is unlike e) (cut short e') =
        absurd (short_not m r octets is short)
    one_field octets f g (refused m r is unlike e) (refused m' r' is' unlike' e') = e ∙ sym e'
    one_field octets f g (refused m r is unlike e) (behind m' r' is' l h) =
        absurd (unlike (subst (λ (x : ℕ). Lawful x) (exact m' m r' r (sym is' ∙ is)).0 l))
    one_field octets f g (behind m r is l h) (cut short e') = absurd (short_not m r octets is short)
    one_field octets f g (behind m r is l h) (refused m' r' is' unlike e') =
        absurd (unlike (subst (λ (x : ℕ). Lawful x) (exact m m' r r' (sym is ∙ is')).0 l))
    one_field octets f g (behind m r is l h) (behind m' r' is' l' h') =
        let same = exact m' m r' r (sym is' ∙ is)
        in one m r f g l h (behind_same m' m r' r g same.0 same.1 h')

-- the fault of a number alone is that of it and what follows it
pub field_fault : (spelled : ℕ → List ℕ) (size : ℕ) (Lawful : ℕ → Type 0) (refusal : FrameFault)
    (Behind : ℕ → List ℕ → FrameFault → Type 0) (octets : List ℕ) (f : FrameFault)
    → NoField spelled size Lawful refusal octets f
    → FieldFails spelled size Lawful refusal Behind octets f
field_fault spelled size Lawful refusal Behind octets f (cut short e) = cut short e
field_fault spelled size Lawful refusal Behind octets f (refused n r is unlike e) =
    refused n r is unlike e
field_fault spelled size Lawful refusal Behind octets f (behind n r is l h) = absurd h

module _ (Lawful : List ℕ → Type 0) (refusal : FrameFault) where
  pub octets_or_fault : (taken rest : List ℕ) (f : FrameFault) → Lawful taken
      → OctetsFail Lawful refusal (length taken) (taken ++ rest) f → ⊥
  octets_or_fault taken rest f l (cut_octets short e) =
      omega (arith, short, length-append taken rest)
  octets_or_fault taken rest f l (refused_octets x r e n unlike e') =
      unlike (subst (λ (z : List ℕ). Lawful z) (split_same taken x rest r (sym n) e).0 l)

  pub one_octets_fault : (size : ℕ) (octets : List ℕ) (f g : FrameFault)
      → OctetsFail Lawful refusal size octets f → OctetsFail Lawful refusal size octets g → f ≡ g
  one_octets_fault size octets f g (cut_octets short e) (cut_octets short' e') = e ∙ sym e'
  one_octets_fault size octets f g (cut_octets short e) (refused_octets x r is n unlike e') =
      absurd (omega (arith, short, ap length is, length-append x r, n))
  one_octets_fault size octets f g (refused_octets x r is n unlike e') (cut_octets short e) =
      absurd (omega (arith, short, ap length is, length-append x r, n))
  one_octets_fault size octets f g (refused_octets x r is n unlike e)
      (refused_octets x' r' is' n' unlike' e') = e ∙ sym e'
