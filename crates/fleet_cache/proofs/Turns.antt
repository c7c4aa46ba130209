-- Where a cursor comes to a key, and what is ahead of it.
-- Serves `Cursor::pass`, `Round::go_on`, `Round::step`, `take_in`, the laws `memory_falls`,
-- `memory_follows`.
use Rattle.std.proofs.Common.{◌≡◌, ℕ, ◌<◌, ◌≤◌, true, false, List, [], ◌∷◌, inl, inr, length, nat_lt, nat_eq, refl, sym, ap, ◌∙◌, arith}
use mathlib.Core.Bool.{false≢true}
use Rattle.std.specs.Cmp.{IsTotalOrder}
use Rattle.std.specs.Ordering.{is_lt}
use Rattle.std.specs.declared.cmp.Ordering.{Ordering}
use Rattle.std.specs.declared.cmp.Ordering.TheVariants.{Less, Equal, Greater}
use Rattle.std.proofs.lemmas.Bool.{cases_eq}
use Rattle.std.proofs.lemmas.Bool.Decides.{nat_tests}
use Rattle.std.proofs.lemmas.Cmp.{tied_itself, nat_list_cmp_total}
use Rattle.std.proofs.lemmas.Map.Lookups.{exact_bytes}
use Rattle.fleet_name.specs.Name.{wire}
use Rattle.fleet_observe.specs.Observation.{ObservationData}
use Rattle.fleet_observe.specs.Preference.{octets_cmp}
use Rattle.fleet_cache.specs.steps.Packed.{words_of}
use Rattle.fleet_cache.specs.steps.Reclaimed.{turn, ComesBefore}
use Rattle.fleet_cache.specs.steps.Rounds.{is_ahead}
use Rattle.fleet_cache.proofs.ListedFronts.{words_least}

-- where a cursor comes to a key
pub turn_start : (w : List ℕ) → length w < 4 → turn w ≡ []
turn_start w few = let yea : nat_lt (length w) 4 ≡ true = grind (arith, nat_tests, few) in rw yea refl

pub turn_short : (w : List ℕ) → length w ≡ 4 → turn w ≡ 0 ∷ w
turn_short w four =
    let no : nat_lt (length w) 4 ≡ false = grind (arith, nat_tests, four) in
    let yea : nat_eq (length w) 4 ≡ true = grind (arith, nat_tests, four) in
    rw (no, yea) refl

pub turn_long : (w : List ℕ) → 4 < length w → turn w ≡ 1 ∷ w
turn_long w more =
    let no : nat_lt (length w) 4 ≡ false = grind (arith, nat_tests, more) in
    let nor : nat_eq (length w) 4 ≡ false = grind (arith, nat_tests, more) in
    rw (no, nor) refl

pub order : IsTotalOrder octets_cmp
order = nat_list_cmp_total

-- what comes after a name that comes after another
pub come_after : (u v w : List ℕ) → ComesBefore u v → ComesBefore v w → ComesBefore u w
come_after u v w = order.trans (turn u) (turn v) (turn w)

pub not_after_itself : (w : List ℕ) (o : ObservationData) → words_of o ≡ w → is_ahead w o ≡ false
not_after_itself w o same =
    ap (λ v. is_lt (octets_cmp (turn w) (turn v))) same ∙ ap is_lt (tied_itself order (turn w))

-- what is ahead comes after
pub ahead_to : (at : List ℕ) (o : ObservationData) → ComesBefore at (words_of o) → is_ahead at o ≡ true
ahead_to at o before = ap is_lt before

less_of : (c : Ordering) → is_lt c ≡ true → c ≡ Less
less_of Less e = refl
less_of Equal e = absurd (false≢true e)
less_of Greater e = absurd (false≢true e)

pub ahead_from : (at : List ℕ) (o : ObservationData) → is_ahead at o ≡ true → ComesBefore at (words_of o)
ahead_from at o yea = less_of (octets_cmp (turn at) (turn (words_of o))) yea

-- from the start, all is ahead
start_before : (w : List ℕ) → 4 ≤ length w → ComesBefore [] w
start_before w least = elim (cases_eq (length w) 4) [
  | inl four ↦ rw (turn_short w four) refl
  | inr other ↦ rw (turn_long w (omega (arith, least, other))) refl
]

pub start_ahead : (o : ObservationData) → is_ahead [] o ≡ false → ⊥
start_ahead o come = false≢true (sym come ∙ ahead_to [] o (start_before (words_of o)
    (words_least (wire o.name))))

-- keys of names that are at one place are the same
pub turn_exact : (v w : List ℕ) → 4 ≤ length v → 4 ≤ length w → octets_cmp (turn v) (turn w) ≡ Equal
    → v ≡ w
turn_exact v w least enough e =
    let same : turn v ≡ turn w = exact_bytes (turn v) (turn w) e in
    elim (cases_eq (length v) 4) [
      | inl four ↦ elim (cases_eq (length w) 4) [
        | inl also ↦ let is : 0 ∷ v ≡ 0 ∷ w = sym (turn_short v four) ∙ (same ∙ turn_short w also) in cc
        | inr other ↦ let is : 0 ∷ v ≡ 1 ∷ w = sym (turn_short v four)
            ∙ (same ∙ turn_long w (omega (arith, enough, other))) in absurd (cc)
      ]
      | inr more ↦ elim (cases_eq (length w) 4) [
        | inl four ↦ let is : 1 ∷ v ≡ 0 ∷ w = sym (turn_long v (omega (arith, least, more)))
            ∙ (same ∙ turn_short w four) in absurd (cc)
        | inr other ↦ let is : 1 ∷ v ≡ 1 ∷ w = sym (turn_long v (omega (arith, least, more)))
            ∙ (same ∙ turn_long w (omega (arith, enough, other))) in cc
      ]
    ]
