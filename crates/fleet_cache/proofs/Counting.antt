-- How many members of a list pass a test.
-- Serves `Cursor::pass`, `Round::go_on`, `Round::step`, `take_in`, the laws `keys_hold_few`,
-- `memory_falls`, `memory_follows`.
use Rattle.std.proofs.Common.{◌≡◌, ◌+◌, ◌≤◌, Bool, true, false, List, [], ◌∷◌, inl, inr, length, refl, sym, ap, ◌∙◌, arith}
use Rattle.std.specs.declared.cmp.Ordering.{Ordering}
use Rattle.std.specs.declared.cmp.Ordering.TheVariants.{Greater}
use Rattle.std.proofs.lemmas.Bool.{cases_Bool}
use Rattle.fleet_observe.specs.Members.{Has}
use Rattle.fleet_observe.specs.Observation.{ObservationData}
use Rattle.fleet_cache.specs.Front.{IsDescending}
use Rattle.fleet_cache.specs.steps.Rounds.{count}

-- what passes one test passes another
pub count_sub : (p q : ObservationData → Bool) (s : List ObservationData)
    → ((o : ObservationData) → Has s o → p o ≡ true → q o ≡ true) → count p s ≤ count q s
count_sub p q [] sub = omega arith
count_sub p q (x ∷ s) sub =
    let rest = count_sub p q s (λ o h. sub o (inr h)) in
    elim (cases_Bool (p x)) [
      | inl passes ↦ let also : q x ≡ true = sub x (inl refl) passes in
          rw (passes, also) (omega (arith, rest))
      | inr fails ↦ elim (cases_Bool (q x)) [
        | inl yea ↦ rw (fails, yea) (omega (arith, rest))
        | inr nay ↦ rw (fails, nay) rest
      ]
    ]

-- and one of them passes that other alone
pub count_less : (p q : ObservationData → Bool) (s : List ObservationData)
    → ((o : ObservationData) → Has s o → p o ≡ true → q o ≡ true)
    → (w : ObservationData) → Has s w → p w ≡ false → q w ≡ true → count p s + 1 ≤ count q s
count_less p q [] sub w h fails passes = absurd h
count_less p q (x ∷ s) sub w h fails passes =
    let least = count_sub p q s (λ o k. sub o (inr k)) in
    elim h [
      | inl here ↦
          let not : p x ≡ false = ap p here ∙ fails in
          let is : q x ≡ true = ap q here ∙ passes in
          rw (not, is) (omega (arith, least))
      | inr far ↦
          let rest = count_less p q s (λ o k. sub o (inr k)) w far fails passes in
          elim (cases_Bool (p x)) [
            | inl yea ↦ let is : q x ≡ true = sub x (inl refl) yea in rw (yea, is) (omega (arith, rest))
            | inr not ↦ elim (cases_Bool (q x)) [
              | inl is ↦ rw (not, is) (omega (arith, rest))
              | inr nay ↦ rw (not, nay) rest
            ]
          ]
    ]

-- all of them pass
pub count_all : (p : ObservationData → Bool) (s : List ObservationData)
    → ((o : ObservationData) → Has s o → p o ≡ true) → count p s ≡ length s
count_all p [] all = refl
count_all p (x ∷ s) all =
    let yea : p x ≡ true = all x (inl refl) in
    let rest = count_all p s (λ o h. all o (inr h)) in
    rw yea (omega (arith, rest))

-- none of them passes
pub count_none : (p : ObservationData → Bool) (s : List ObservationData)
    → ((o : ObservationData) → Has s o → p o ≡ true → ⊥) → count p s ≡ 0
count_none p [] none = refl
count_none p (x ∷ s) none = elim (cases_Bool (p x)) [
  | inl yea ↦ absurd (none x (inl refl) yea)
  | inr nay ↦ rw nay (count_none p s (λ o h. none o (inr h)))
]

-- no more than all pass
pub count_most : (p : ObservationData → Bool) (s : List ObservationData) → count p s ≤ length s
count_most p [] = omega arith
count_most p (x ∷ s) = let rest = count_most p s in elim (cases_Bool (p x)) [
  | inl yea ↦ rw yea (omega (arith, rest))
  | inr nay ↦ rw nay (omega (arith, rest))
]

-- a list without what is at one of its places
abbrev without : {X : Type 0} (s : List X) (x : X) → Has s x → List X
without [] x h = []
without (y ∷ s) x (inl here) = s
without (y ∷ s) x (inr far) = y ∷ without s x far

count_one : (p : ObservationData → Bool) (s : List ObservationData) (x : ObservationData)
    (h : Has s x) → count p s ≡ count p (x ∷ without s x h)
count_one p [] x h = absurd h
count_one p (y ∷ s) x (inl here) = ap (λ v. count p (v ∷ s)) here
count_one p (y ∷ s) x (inr far) =
    let rest = count_one p s x far in
    elim (cases_Bool (p x)) [
      | inl yea ↦ elim (cases_Bool (p y)) [
        | inl also ↦ rw (yea, also) (omega (arith, rw yea at rest))
        | inr not ↦ rw (yea, not) (omega (arith, rw yea at rest))
      ]
      | inr nay ↦ elim (cases_Bool (p y)) [
        | inl also ↦ rw (nay, also) (omega (arith, rw nay at rest))
        | inr not ↦ rw (nay, not) (omega (arith, rw nay at rest))
      ]
    ]

still : {X : Type 0} (s : List X) (x z : X) (h : Has s x) → (x ≡ z → ⊥) → Has s z → Has (without s x h) z
still [] x z h other k = absurd k
still (y ∷ s) x z (inl here) other (inl also) = absurd (other (sym here ∙ also))
still (y ∷ s) x z (inl here) other (inr k) = k
still (y ∷ s) x z (inr far) other (inl also) = inl also
still (y ∷ s) x z (inr far) other (inr k) = inr (still s x z far other k)

-- a list in order, each of whose members another list has
pub count_within : (by : ObservationData → ObservationData → Ordering)
    → ((x : ObservationData) → by x x ≡ Greater → ⊥)
    → (p : ObservationData → Bool) (xs s : List ObservationData)
    → IsDescending by xs → ((x : ObservationData) → Has xs x → Has s x) → count p xs ≤ count p s
count_within by apart p [] s down in_s = omega arith
count_within by apart p (x ∷ xs) s down in_s =
    let place = in_s x (inl refl) in
    let rest = count_within by apart p xs (without s x place) down.1 (λ z h. still s x z place
    (λ same. apart x (ap (by x) same ∙ down.0 z h)) (in_s z (inr h))) in
    let one = count_one p s x place in
    elim (cases_Bool (p x)) [
      | inl yea ↦ rw yea (omega (arith, rest, rw yea at one))
      | inr nay ↦ rw nay (omega (arith, rest, rw nay at one))
    ]
