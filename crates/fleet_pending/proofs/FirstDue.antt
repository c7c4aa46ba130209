-- The entry that is to be served first, of the first `n`.
-- Serves `Pending::due`, `first_due_entry`.
use Rattle.std.proofs.Common.{◌≡◌, ℕ, ◌+◌, ◌<◌, ◌≤◌, ◌⊎◌, inl, inr, List, Option, Some, None, length, refl, sym, ◌∙◌, subst, ap, arith, ◌≢◌, MatchOption, Bor}
use Rattle.std.proofs.lemmas.Option.{slice_get_within}
use Rattle.std.proofs.lemmas.Bool.{cases_eq, cases_lt}
use Rattle.fleet_name.specs.Places.{At}
use Rattle.fleet_pending.specs.Due.{IsBefore, NotAfter, NoneDue, IsFirstDue}
use Rattle.fleet_pending.specs.PendingData.{EntryData, PendingData, IsPendingData, IsEntryData}
use Rattle.fleet_name.proofs.Lemmas.{at_same}
use Rattle.fleet_pending.proofs.Placed.{NoneBefore}
use Rattle.fleet_pending.proofs.Table.{table}

-- the first due one of the first n entries
pub record IsFirstDueTo (es : List EntryData) (now n : ℕ) (e : EntryData) : Type 0 where
  pub place : ℕ
  pub there : At es place e
  pub due : e.deadline ≤ now
  pub first : (j : ℕ) (f : EntryData) → j < n → At es j f → f.deadline ≤ now → NotAfter e f

abbrev pub FirstTo : List EntryData → ℕ → ℕ → Option (Bor EntryData) → Type 0
FirstTo es now n None = NoneBefore (λ e. e.deadline ≤ now) es n
FirstTo es now n (Some r) = IsFirstDueTo es now n r.now

-- the first of two
not_after : (a b : EntryData) → IsBefore a b → NotAfter a b
not_after a b (inl l) = inl l
not_after a b (inr p) = inr (p.0, let l = p.1 in omega (arith, l))

not_before : (a b : EntryData) → (IsBefore a b → ⊥) → NotAfter b a
not_before a b n =
    earlier (cases_lt a.deadline b.deadline) (cases_lt b.deadline a.deadline) (cases_lt a.id b.id)
  where
    earlier : (a.deadline < b.deadline) ⊎ (b.deadline ≤ a.deadline)
        → (b.deadline < a.deadline) ⊎ (a.deadline ≤ b.deadline)
        → (a.id < b.id) ⊎ (b.id ≤ a.id) → NotAfter b a
    earlier (inl l) f g = absurd (n (inl l))
    earlier (inr l) (inl m) g = inl m
    earlier (inr l) (inr m) (inl i) = absurd (n (inr (omega (arith, l, m), i)))
    earlier (inr l) (inr m) (inr i) = inr (omega (arith, l, m), i)

-- an entry that does not replace the first one so far is due later, or not before it
pub kept_first : (now : ℕ) (r : Option (Bor EntryData)) (x : EntryData)
    → ((x.deadline ≤ now) × MatchOption r (Unit {0}) (λ o. IsBefore x o.now) → ⊥)
    → (now < x.deadline) ⊎ MatchOption r ⊥ (λ o. NotAfter o.now x)
kept_first now None x n =
    elim (cases_lt now x.deadline) [ inl l ↦ inl l | inr d ↦ absurd (n (d, tt)) ]
kept_first now (Some o) x n =
    elim (cases_lt now x.deadline) [
      | inl l ↦ inl l
      | inr d ↦ inr (not_before x o.now (λ b. n (d, b)))
    ]

not_after_trans : (a b d : EntryData) → NotAfter a b → NotAfter b d → NotAfter a d
not_after_trans a b d (inl x) (inl y) = inl (omega arith)
not_after_trans a b d (inl x) (inr y) = inl (let p = y.0 in omega (arith, p))
not_after_trans a b d (inr x) (inl y) = inl (let p = x.0 in omega (arith, p))
not_after_trans a b d (inr x) (inr y) =
    inr (x.0 ∙ y.0, let p = x.1 in let q = y.1 in omega (arith, p, q))

pub first_all : (es : List EntryData) (now n : ℕ) (r : Option (Bor EntryData)) → length es ≤ n
    → FirstTo es now n r → MatchOption r (NoneDue es now) (λ e. IsFirstDue es now e.now)
first_all es now n None l h =
    λ i x a p. h i x (let m : i < length es = slice_get_within es i x a in omega arith) a p
first_all es now n (Some e) l h = record {
  place = h.place;
  there = h.there;
  due = h.due;
  first =
      λ j f a p. h.first j f (let m : j < length es = slice_get_within es j f a in omega arith) a p;
}

pub first_kept : (es : List EntryData) (now n : ℕ) (r : Option (Bor EntryData)) (x : EntryData)
    → At es n x → FirstTo es now n r
    → (now < x.deadline) ⊎ MatchOption r ⊥ (λ o. NotAfter o.now x) → FirstTo es now (n + 1) r
first_kept es now n None x t h (inl m) = λ i y k a p. go i y k a p (cases_eq i n)
  where
    go : (i : ℕ) (y : EntryData) → i < n + 1 → At es i y → y.deadline ≤ now → (i ≡ n) ⊎ (i ≢ n)
        → ⊥
    go i y k a p (inl q) =
        let z : y ≡ x = at_same es n y x (subst (λ v. At es v y) q a) t in
        let d = ap (λ v. v.deadline) z in omega (arith, d)
    go i y k a p (inr q) = h i y (omega arith) a p
first_kept es now n None x t h (inr m) = absurd m
first_kept es now n (Some o) x t h m = record {
  place = h.place;
  there = h.there;
  due = h.due;
  first = λ j f k a p. go j f k a p m (cases_eq j n);
}
  where
    go : (j : ℕ) (f : EntryData) → j < n + 1 → At es j f → f.deadline ≤ now
        → (now < x.deadline) ⊎ NotAfter o.now x → (j ≡ n) ⊎ (j ≢ n) → NotAfter o.now f
    go j f k a p m (inr q) = h.first j f (omega arith) a p
    go j f k a p (inl m) (inl q) =
        let z : f ≡ x = at_same es n f x (subst (λ v. At es v f) q a) t in
        let d = ap (λ v. v.deadline) z in absurd (omega (arith, d))
    go j f k a p (inr m) (inl q) =
        let z : f ≡ x = at_same es n f x (subst (λ v. At es v f) q a) t in
        subst (λ v. NotAfter o.now v) (sym z) m

first_new : (es : List EntryData) (now n : ℕ) (r : Option (Bor EntryData)) (x : EntryData)
    → At es n x → FirstTo es now n r → x.deadline ≤ now
    → MatchOption r (Unit {0}) (λ o. IsBefore x o.now) → IsFirstDueTo es now (n + 1) x
first_new es now n r x t h d m = record {
  place = n;
  there = t;
  due = d;
  first = λ j f k a p. go j f k a p r h m (cases_eq j n);
}
  where
    go : (j : ℕ) (f : EntryData) → j < n + 1 → At es j f → f.deadline ≤ now
        → (r : Option (Bor EntryData)) → FirstTo es now n r
        → MatchOption r (Unit {0}) (λ o. IsBefore x o.now) → (j ≡ n) ⊎ (j ≢ n) → NotAfter x f
    go j f k a p r h m (inl q) =
        let z : x ≡ f = at_same es n x f t (subst (λ v. At es v f) q a) in
        inr (ap (λ v. v.deadline) z, let i = ap (λ v. v.id) z in omega (arith, i))
    go j f k a p None h m (inr q) = absurd (h j f (omega arith) a p)
    go j f k a p (Some o) h m (inr q) =
        not_after_trans x o.now f (not_after x o.now m) (h.first j f (omega arith) a p)

pub first_new_is : (es : List EntryData) (now n : ℕ) (r r' : Option (Bor EntryData))
    (b : Bor EntryData) → r' ≡ Some b → At es n b.now → FirstTo es now n r
    → b.now.deadline ≤ now → MatchOption r (Unit {0}) (λ o. IsBefore b.now o.now)
    → FirstTo es now (n + 1) r'
first_new_is es now n r r' b q t h d m =
    subst (FirstTo es now (n + 1)) (sym q) (first_new es now n r b.now t h d m)

-- the first due one of a table
pub due_first : (o : PendingData) (u t now : ℕ) (es rs : List EntryData) (e : EntryData)
    → table u es ≡ o → rs ≡ es → t ≡ now → IsFirstDue rs t e → IsFirstDue o.entries now e
due_first o u t now es rs e v q p d =
    let a : IsFirstDue es t e = subst (λ xs. IsFirstDue xs t e) q d in
    let b : IsFirstDue es now e = subst (λ k. IsFirstDue es k e) p a in
    subst (λ x. IsFirstDue x.entries now e) v b

pub due_none : (o : PendingData) (u t now : ℕ) (es rs : List EntryData) → table u es ≡ o
    → rs ≡ es → t ≡ now → NoneDue rs t → NoneDue o.entries now
due_none o u t now es rs v q p d =
    let a : NoneDue es t = subst (λ xs. NoneDue xs t) q d in
    let b : NoneDue es now = subst (λ k. NoneDue es k) p a in
    subst (λ x. NoneDue x.entries now) v b

pub first_open : (u t : ℕ) (es rs : List EntryData) (e : EntryData) → IsPendingData (table u es)
    → rs ≡ es → IsFirstDue rs t e → IsEntryData e
first_open u t es rs e h q d =
    let f = due_first (table u es) u t t es rs e refl q refl d in h.open_ones f.place e f.there

pub first_asks : (u t : ℕ) (es rs : List EntryData) (e : EntryData) → IsPendingData (table u es)
    → rs ≡ es → IsFirstDue rs t e → e.upstream < u
first_asks u t es rs e h q d =
    let f = due_first (table u es) u t t es rs e refl q refl d in h.asking f.place e f.there
