-- Parts at the front of octets.
-- Serves `read_body`, `read_known_body`, `read_name`.
use Rattle.std.proofs.Common.{ℕ, List, length, sym, ap, ◌∙◌, subst, arith, length-append}
use Rattle.fleet_gossip.specs.steps.Reading.{AreMissing, IsSplitAfter, IsPart, IsSizeOf}
use Rattle.fleet_gossip.specs.declared.fault.FrameFault.{FrameFault}
use Rattle.fleet_name.proofs.Lemmas.{split_same}

module _ (Lawful : List ℕ → Type 0) (octets : List ℕ) (size : ℕ)
    (found : IsSizeOf Lawful octets size) where
  -- the octets that were taken are the part
  pub part_taken : (taken rest : List ℕ) → IsSplitAfter octets size taken rest
      → IsPart Lawful octets taken rest
  part_taken taken rest are =
      let same = split_same taken found.part rest found.rest (are.counted ∙ found.counted)
      (sym are.whole ∙ found.is.whole) in
      record {
        whole = are.whole;
        lawful = subst (λ (x : List ℕ). Lawful x) (sym same.0)
            found.is.lawful;
      }

  -- and none of them is missing
  pub part_uncut : (f : FrameFault) → AreMissing size octets f → ⊥
  part_uncut f cut = omega (
    arith,
    cut.0,
    found.counted,
    ap length found.is.whole,
    length-append found.part found.rest,
  )
