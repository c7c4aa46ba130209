-- The moment before which no entry's time is over.
-- Serves `Pending::advance`, `Pending::ask`, `Pending::due`, `Pending::open`, `Pending::settle`,
-- `soonest_of`.
use Rattle.std.proofs.Common.{◌≡◌, ℕ, ◌+◌, ◌<◌, ◌≤◌, ◌⊎◌, inl, inr, List, length, min, slice_set, Result, subst, ap, arith, ◌≢◌}
use Rattle.std.proofs.lemmas.List.{nil_from_length}
use Rattle.std.proofs.lemmas.Option.{slice_get_within}
use Rattle.std.proofs.lemmas.Bool.{cases_eq, cases_lt}
use Rattle.fleet_name.specs.Places.{At}
use Rattle.std.specs.List.{remove}
use Rattle.fleet_name.proofs.Lemmas.{at_same, at_set}
use Rattle.fleet_pending.specs.Waiter.{WaiterData}
use Rattle.fleet_pending.specs.PendingData.{EntryData}
use Rattle.fleet_pending.specs.Due.{NoneDue, NoneSooner, IsDeadline, IsSoonest}
use Rattle.fleet_pending.specs.Asking.{Joins, waits_already, waits_too, no_place, no_memory_for_place, Opens, is_sent, no_room, no_memory_for_room, new_entry}
use Rattle.fleet_pending.specs.declared.bounds.TheConstants.{TRY_SECONDS}
use Rattle.fleet_pending.specs.declared.answer.Asked.{Asked}
use Rattle.fleet_pending.specs.declared.answer.PendingFault.{PendingFault}
use Rattle.fleet_pending.proofs.Placed.{at_push, at_remove}

-- so it is of the first n
abbrev pub SoonestTo : List EntryData → ℕ → ℕ → Type 0
SoonestTo es n s = (i : ℕ) (e : EntryData) → i < n → At es i e → s ≤ e.deadline

pub soonest_more : (es : List EntryData) (n s t : ℕ) (x : EntryData) → At es n x
    → SoonestTo es n s → t ≤ s → t ≤ x.deadline → SoonestTo es (n + 1) t
soonest_more es n s t x there h l m i e k a = go (cases_eq i n)
  where
    go : (i ≡ n) ⊎ (i ≢ n) → t ≤ e.deadline
    go (inl q) =
        let z : e ≡ x = at_same es n e x (subst (λ v. At es v e) q a) there in
        let d = ap (λ v. v.deadline) z in omega (arith, d, m)
    go (inr q) = let p = h i e (omega arith) a in omega (arith, p, l)

pub soonest_all : (es : List EntryData) (n s : ℕ) → length es ≤ n → SoonestTo es n s
    → NoneSooner s es
soonest_all es n s l h i e a =
    h i e (let m : i < length es = slice_get_within es i e a in omega arith) a

-- the least of the first n, or `none` where there is none yet
pub record IsLeastTo (none : ℕ) (es : List EntryData) (n s : ℕ) : Type 0 where
  pub least : SoonestTo es n s
  pub of_one : ((n ≡ 0) × (s ≡ none)) ⊎ IsDeadline es s

pub least_more : (none : ℕ) (es : List EntryData) (n s t : ℕ) (x : EntryData) → At es n x
    → x.deadline ≤ none → IsLeastTo none es n s → t ≡ min s x.deadline
    → IsLeastTo none es (n + 1) t
least_more none es n s t x there fits h is = record {
  least = soonest_more es n s t x there h.least (omega (arith, is)) (omega (arith, is));
  of_one = inr (go h.of_one (cases_lt s x.deadline));
}
  where
    go : ((n ≡ 0) × (s ≡ none)) ⊎ IsDeadline es s → (s < x.deadline) ⊎ (x.deadline ≤ s)
        → IsDeadline es t
    go f (inr l) = (n, x, there, omega (arith, is, l))
    go (inl p) (inl l) = let none_is = p.1 in absurd (omega (arith, l, fits, none_is))
    go (inr o) (inl l) = let d = o.3 in (o.0, o.1, o.2, omega (arith, is, l, d))

pub least_all : (none : ℕ) (es : List EntryData) (n s : ℕ) → length es ≤ n
    → IsLeastTo none es n s → IsSoonest none es s
least_all none es n s l h = record {
  least = soonest_all es n s l h.least;
  of_one = elim h.of_one [
    | inl p ↦ let first = p.0 in inl (nil_from_length es (omega (arith, l, first)), p.1)
    | inr o ↦ inr o
  ];
}

-- before it none is due
pub none_due : (es : List EntryData) (s now : ℕ) → NoneSooner s es → now < s
    → NoneDue es now
none_due es s now h l i e a d = let p = h i e a in omega (arith, p, l, d)

same_deadline : (e f : EntryData) (w : WaiterData) (r : Result Asked PendingFault) → Joins e w r f
    → f.deadline ≡ e.deadline
same_deadline e f w r (waits_already waits result_is same) = ap (λ v. v.deadline) same
same_deadline e f w r (waits_too new few result_is more) = ap (λ v. v.deadline) more
same_deadline e f w r (no_place new many result_is same) = ap (λ v. v.deadline) same
same_deadline e f w r (no_memory_for_place new few result_is same) = ap (λ v. v.deadline) same

-- who joins changes no deadline
pub soonest_joined : (s i : ℕ) (es : List EntryData) (e f : EntryData) (w : WaiterData)
    (r : Result Asked PendingFault) → NoneSooner s es → At es i e → Joins e w r f
    → NoneSooner s (slice_set es i f)
soonest_joined s i es e f w r h t j k x a = go (at_set es i k f x a)
  where
    go : ((k ≡ i) × (x ≡ f)) ⊎ ((k ≢ i) × At es k x) → s ≤ x.deadline
    go (inl p) =
        let d = ap (λ v. v.deadline) p.1 in
        let same = same_deadline e f w r j in
        let b = h i e t in omega (arith, d, same, b)
    go (inr p) = h k x p.1

-- a new entry has its time
pub soonest_opened : (s t now word : ℕ) (es fs : List EntryData) (w : WaiterData)
    (r : Result Asked PendingFault) → NoneSooner s es → t ≤ s → t ≤ now + TRY_SECONDS
    → Opens es w now word r fs → NoneSooner t fs
soonest_opened s t now word es fs w r h l m (is_sent id few free result_is more) k x a =
    go (at_push es k (new_entry w now id) x (subst (λ v. At v k x) more a))
  where
    go : At es k x ⊎ ((k ≡ length es) × (x ≡ new_entry w now id)) → t ≤ x.deadline
    go (inl p) = let b = h k x p in omega (arith, b, l)
    go (inr p) = let d = ap (λ v. v.deadline) p.1 in omega (arith, d, m)
soonest_opened s t now word es fs w r h l m (no_room many result_is same) k x a =
    let b = h k x (subst (λ v. At v k x) same a) in omega (arith, b, l)
soonest_opened s t now word es fs w r h l m (no_memory_for_room few result_is same) k x a =
    let b = h k x (subst (λ v. At v k x) same a) in omega (arith, b, l)

-- what is left ends no sooner
pub soonest_removed : (s i : ℕ) (es ns : List EntryData) → NoneSooner s es → ns ≡ remove es i
    → NoneSooner s ns
soonest_removed s i es ns h n j x a =
    let r = at_remove es i j x (subst (λ v. At v j x) n a) in h r.0 x r.1

-- who moves on has its time
pub soonest_moved : (s t i now : ℕ) (es : List EntryData) (f : EntryData) → NoneSooner s es
    → t ≤ s → t ≤ now + TRY_SECONDS → f.deadline ≡ now + TRY_SECONDS
    → NoneSooner t (slice_set es i f)
soonest_moved s t i now es f h l m is k x a = go (at_set es i k f x a)
  where
    go : ((k ≡ i) × (x ≡ f)) ⊎ ((k ≢ i) × At es k x) → t ≤ x.deadline
    go (inl p) = let d = ap (λ v. v.deadline) p.1 in omega (arith, d, m, is)
    go (inr p) = let b = h k x p.1 in omega (arith, b, l)
