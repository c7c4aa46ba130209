-- How many are due, as they are served.
-- Serves `Pending::due`, law `serving_leaves_fewer_due`.
use Rattle.std.proofs.Common.{◌≡◌, ℕ, suc, ◌+◌, ◌<◌, ◌≤◌, ◌↔◌, Bool, true, false, cond, leb, List, [], ◌∷◌, Option, Some, None, length, slice_set, get_or, refl, sym, ◌∙◌, subst, ap, arith, count_by, ◌⊎◌, inl, inr}
use Rattle.std.specs.List.{remove}
use Rattle.std.proofs.lemmas.Bool.{cases_lt, le-leb, lt-leb}
use Rattle.std.proofs.lemmas.List.Sums.{sum_by-set, sum_by-remove, get_or-le-sum_by, sum_by-cons, count_by-le-length}
use Rattle.std.proofs.lemmas.Option.{slice_get_within, get_or_from_slice_get}
use Rattle.fleet_pending.specs.declared.bounds.TheConstants.{MOST_ENTRIES}
use Rattle.fleet_pending.specs.Asking.{Settles, Advances, with_next_upstream}
use Rattle.fleet_pending.specs.Due.{IsFirstDue, NoneDue, due_at}
use Rattle.fleet_pending.specs.DueCount.{CountsDue}
use Rattle.fleet_pending.specs.PendingData.{EntryData, PendingData, IsPendingData, UsesId}
use Rattle.fleet_name.specs.Places.{At}
use Rattle.fleet_name.proofs.Lemmas.{at_same}

-- 1 for an entry that is due, 0 for another
abbrev counts : ℕ → EntryData → ℕ
counts now e = cond (leb e.deadline now) 1 0

abbrev due_in : ℕ → List EntryData → ℕ
due_in now es = count_by (λ e. leb e.deadline now) es

counts_due : (now : ℕ) (e : EntryData) → e.deadline ≤ now → counts now e ≡ 1
counts_due now e d = ap (λ b. cond b 1 0) (le-leb e.deadline now d)

counts_later : (now : ℕ) (e : EntryData) → now < e.deadline → counts now e ≡ 0
counts_later now e d = ap (λ b. cond b 1 0) (lt-leb e.deadline now d)

-- what is at an index counts
counted_at : (now : ℕ) (es : List EntryData) (i : ℕ) (e : EntryData) → At es i e
    → e.deadline ≤ now → 0 < due_in now es
counted_at now es i e t d =
    let l : i < length es = slice_get_within es i e t in
    let g : get_or es i e ≡ e = get_or_from_slice_get es i e e t in
    let m : counts now (get_or es i e) ≤ due_in now es =
    get_or-le-sum_by (counts now) es i e l in
    let o : counts now (get_or es i e) ≡ 1 = ap (counts now) g ∙ counts_due now e d in
    omega (arith, m, o)

none_counted : (now : ℕ) (es : List EntryData) → NoneDue es now → due_in now es ≡ 0
none_counted now [] h = refl
none_counted now (e ∷ es) h =
    let r = none_counted now es (λ i x t d. h (suc i) x t d) in
    let c = sum_by-cons (counts now) e es in
    go r c (cases_lt now e.deadline)
  where
    go : due_in now es ≡ 0 → due_in now (e ∷ es) ≡ counts now e + due_in now es
        → (now < e.deadline) ⊎ (e.deadline ≤ now) → due_in now (e ∷ es) ≡ 0
    go r c (inr d) = absurd (h 0 e refl d)
    go r c (inl l) = let z = counts_later now e l in omega (arith, r, c, z)

none_due : (es : List EntryData) (now : ℕ) → NoneDue es now ↔ (due_in now es ≡ 0)
none_due es now = (
  none_counted now es,
  λ z i e t d. let p = counted_at now es i e t d in
      omega (arith, p, z),
)

-- a due one that is written to be due no more
due_after_write : (now : ℕ) (es : List EntryData) (i : ℕ) (e f : EntryData) → At es i e
    → e.deadline ≤ now → now < f.deadline
    → due_in now (slice_set es i f) + 1 ≡ due_in now es
due_after_write now es i e f t d l =
    let w : i < length es = slice_get_within es i e t in
    let g : get_or es i e ≡ e = get_or_from_slice_get es i e e t in
    let s = sum_by-set (counts now) es i f e w in
    let o : counts now (get_or es i e) ≡ 1 = ap (counts now) g ∙ counts_due now e d in
    let z = counts_later now f l in
    omega (arith, s, o, z)

due_after_removal : (now : ℕ) (es : List EntryData) (i : ℕ) (e : EntryData) → At es i e
    → e.deadline ≤ now → due_in now (remove es i) + 1 ≡ due_in now es
due_after_removal now es i e t d =
    let w : i < length es = slice_get_within es i e t in
    let g : get_or es i e ≡ e = get_or_from_slice_get es i e e t in
    let s = sum_by-remove (counts now) es i e w in
    let o : counts now (get_or es i e) ≡ 1 = ap (counts now) g ∙ counts_due now e d in
    omega (arith, s, o)

-- the entry with the id of the first due one is that one
the_first : (o : PendingData) (now id i : ℕ) (e x : EntryData) → IsPendingData o
    → IsFirstDue o.entries now e → UsesId id e → At o.entries i x → UsesId id x → x ≡ e
the_first o now id i e x h d u t v =
    let z : i ≡ d.place = h.ids i d.place x e t d.there (v ∙ sym u) in
    at_same o.entries d.place x e (subst (λ k. At o.entries k x) z t) d.there

the_first_due : (o : PendingData) (now id i : ℕ) (e x : EntryData) → IsPendingData o
    → IsFirstDue o.entries now e → UsesId id e → At o.entries i x → UsesId id x
    → x.deadline ≤ now
the_first_due o now id i e x h d u t v =
    subst (λ y. y.deadline ≤ now) (sym (the_first o now id i e x h d u t v)) d.due

advance_serves_one : (o n : PendingData) (now id : ℕ) (e : EntryData) (moves : Bool)
    → IsPendingData o → IsFirstDue o.entries now e → UsesId id e → e.upstream + 1 < o.upstreams
    → Advances o id now moves n → (moves ≡ true) × (due_at n now + 1 ≡ due_at o now)
advance_serves_one o n now id e false h d u l a = absurd (a.0 d.place e d.there (u, l))
advance_serves_one o n now id e true h d u l a =
    let due = the_first_due o now id a.0 e a.1.0 h d u a.1.1 a.1.2 in
    let w =
    due_after_write now o.entries a.0 a.1.0 (with_next_upstream a.1.0 now) a.1.1 due
    (omega arith) in
    let q : due_at n now ≡ due_in now
    (slice_set o.entries a.0 (with_next_upstream a.1.0 now)) =
    ap (λ v. due_at v now) a.1.4 in
    (refl, omega (arith, w, q))

settle_serves_one : (o n : PendingData) (now id : ℕ) (e : EntryData) (r : Option EntryData)
    → IsPendingData o → IsFirstDue o.entries now e → UsesId id e → Settles o id r n
    → due_at n now + 1 ≡ due_at o now
settle_serves_one o n now id e None h d u s = absurd (s.0 d.place e d.there u)
settle_serves_one o n now id e (Some x) h d u s =
    let due = the_first_due o now id s.0 e x h d u s.1 s.2 in
    let w = due_after_removal now o.entries s.0 x s.1 due in
    let q : due_at n now ≡ due_in now (remove o.entries s.0) =
    ap (λ v. due_at v now) s.3 in
    omega (arith, w, q)

pub counts_all : CountsDue
counts_all = record {
  none = λ o now. none_due o.entries now;
  few =
      λ o now h.
      (let l : length o.entries ≤ MOST_ENTRIES = h.few in
      let c = count_by-le-length (λ e. leb e.deadline now) o.entries in omega (arith, l, c));
  advancing = advance_serves_one;
  settling = settle_serves_one;
}

pub none_at : (o : PendingData) (now : ℕ) → NoneDue o.entries now → due_at o now ≡ 0
none_at o now h = none_counted now o.entries h

pub first_counted : (o : PendingData) (now : ℕ) (e : EntryData) → IsFirstDue o.entries now e
    → 0 < due_at o now
first_counted o now e d = counted_at now o.entries d.place e d.there d.due
