-- What is read and written at a place of the table.
-- Serves `Pending::advance`, `Pending::ask`, `Pending::due`, `Pending::entry`, `Pending::find`,
-- `Pending::open`, `Pending::settle`, `first_due_entry`.
use Rattle.std.proofs.Common.{◌≡◌, ℕ, ◌+◌, ◌<◌, ◌≤◌, List, Some, None, true, length, slice_set, get_or, refl, sym, ◌∙◌, subst, ap, arith, Result}
use Rattle.std.specs.List.{remove}
use Rattle.std.proofs.lemmas.Option.{slice_get_within}
use Rattle.fleet_wire.specs.Question.{QuestionData as Question}
use Rattle.fleet_name.specs.Places.{At, NoneIs, IsPlace, Finds}
use Rattle.fleet_wire.specs.declared.class.TheConstants.{IN}
use Rattle.fleet_pending.specs.Waiter.{WaiterData}
use Rattle.fleet_pending.specs.PendingData.{EntryData, PendingData, IsPendingData, UsesId, AsksFor, Matches}
use Rattle.fleet_pending.specs.Asking.{Joins, Opens, Asks, Settles, Advances, joins, opens, with_next_upstream}
use Rattle.fleet_pending.specs.declared.answer.Asked.{Asked}
use Rattle.fleet_pending.specs.declared.answer.PendingFault.{PendingFault}
use Rattle.fleet_name.proofs.Lemmas.{at_same}
use Rattle.fleet_name.proofs.Lemmas.{at_read}
use Rattle.fleet_pending.proofs.Keeping.{set_keeps, remove_keeps, joins_keeps, opens_keeps, next_is_open}

-- a table for this many upstreams
abbrev pub table : ℕ → List EntryData → PendingData
table upstreams es = record { upstreams = upstreams; entries = es }

-- an entry at an index, which is like this
pub record IsAt (P : EntryData → Type 0) (es : List EntryData) (i : ℕ) (e : EntryData) : Type 0
  where
    pub there : At es i e
    pub is : P e

pub place_within : (P : EntryData → Type 0) (es rs : List EntryData) (i : ℕ)
    → rs ≡ es → IsPlace P rs (Some i) → i < length es
place_within P es rs i q p =
    slice_get_within es i p.0 (subst (λ xs. At xs i p.0) q p.1)

-- the entry that is read at a place is the one that was found there
pub read_at : (P : EntryData → Type 0) {es rs : List EntryData} {i : ℕ} {e : EntryData}
    → rs ≡ es → IsPlace P rs (Some i) → e ≡ get_or es i e → IsAt P es i e
read_at P {es} {rs} {i} {e} q p g =
    let t : At es i p.0 = subst (λ xs. At xs i p.0) q p.1 in
    let b : At es i e = at_read es i e (place_within P es rs i q p) g in
    record { there = b; is = subst P (at_same es i p.0 e t b) p.2 }

-- the entry that is found is given back
pub settles_at : (u id i : ℕ) (o : PendingData) (es ns : List EntryData) (r : EntryData)
    → table u es ≡ o → IsAt (UsesId id) es i r → ns ≡ remove es i
    → Settles o id (Some r) (table u ns)
settles_at u id i o es ns r v k n =
    let s : Settles (table u es) id (Some r) (table u ns) = (i, k.there, k.is, ap (table u) n) in
    subst (λ x. Settles x id (Some r) (table u ns)) v s

pub removal_keeps : (u id i : ℕ) (es ns : List EntryData) (r : EntryData)
    → IsPendingData (table u es) → IsAt (UsesId id) es i r → ns ≡ remove es i
    → IsPendingData (table u ns)
removal_keeps u id i es ns r h k n =
    subst (λ xs. IsPendingData (table u xs)) (sym n) (remove_keeps (table u es) i r h k.there)

-- an entry has the question, and the waiter meets it
pub asks_there : (u i now word : ℕ) (o : PendingData) (es : List EntryData) (e f : EntryData)
    (v w : WaiterData) (r : Result Asked PendingFault)
    → table u es ≡ o → v ≡ w → IsAt (AsksFor v.question) es i e → Joins e w r f
    → Asks o w now word r (table u (slice_set es i f))
asks_there u i now word o es e f v w r q s k j =
    subst (λ x. Asks x w now word r (table u (slice_set es i f))) q
    (joins i e f k.there (subst (λ x. AsksFor x.question e) s k.is) j refl)

-- no entry has the question
pub asks_anew : (u now word : ℕ) (o : PendingData) (es rs fs : List EntryData)
    (v w : WaiterData) (r : Result Asked PendingFault)
    → table u es ≡ o → v ≡ w → rs ≡ es → IsPlace (AsksFor v.question) rs None
    → Opens es w now word r fs → Asks o w now word r (table u fs)
asks_anew u now word o es rs fs v w r q s p n j =
    subst (λ x. Asks x w now word r (table u fs)) q
    (opens fs (subst (λ x. NoneIs (AsksFor x.question) es) s
    (subst (λ xs. NoneIs (AsksFor v.question) xs) p n)) j refl)

-- no entry has the question, as was seen before
pub opens_new : (u now word : ℕ) (o : PendingData) (es fs : List EntryData) (w : WaiterData)
    (r : Result Asked PendingFault) → table u es ≡ o → NoneIs (AsksFor w.question) o.entries
    → Opens es w now word r fs → Asks o w now word r (table u fs)
opens_new u now word o es fs w r q n j =
    subst (λ x. Asks x w now word r (table u fs)) q
    (opens fs (subst (λ x. NoneIs (AsksFor w.question) x.entries) (sym q) n) j refl)

pub asks_keeps : (o n : PendingData) (w : WaiterData) (now word : ℕ)
    (r : Result Asked PendingFault) → IsPendingData o → Asks o w now word r n → IsPendingData n
asks_keeps o n w now word r h (joins i e f t a j q) =
    subst IsPendingData (sym q) (joins_keeps o i e f w r h t a j)
asks_keeps o n w now word r h (opens fs a j q) =
    subst IsPendingData (sym q) (opens_keeps o w now word r fs h a j)

-- the entry with the id is not the reply's: none is
none_matches : (o : PendingData) (u id i : ℕ) (q : Question) (e : EntryData)
    → IsPendingData o → At o.entries i e → UsesId id e
    → ((e.upstream ≡ u) × AsksFor q e × (q.class ≡ IN) → ⊥) → NoneIs (Matches u id q) o.entries
none_matches o u id i q e h t p n j x a m =
    let z : j ≡ i = h.ids j i x e a t (m.0 ∙ sym p) in
    let y : x ≡ e = at_same o.entries i x e (subst (λ k. At o.entries k x) z a) t in
    n (subst (λ v. (v.upstream ≡ u) × AsksFor q v × (q.class ≡ IN)) y (m.1, m.2, m.3))

pub finds_none : (k u id i : ℕ) (o : PendingData) (es : List EntryData) (q : Question)
    (e : EntryData)
    → table k es ≡ o → IsPendingData (table k es) → IsAt (UsesId id) es i e
    → ((e.upstream ≡ u) × AsksFor q e × (q.class ≡ IN) → ⊥) → NoneIs (Matches u id q) o.entries
finds_none k u id i o es q e v h t n =
    subst (λ x. NoneIs (Matches u id q) x.entries) v
    (none_matches (table k es) u id i q e h t.there t.is n)

pub finds_some : (k u id i : ℕ) (o : PendingData) (es : List EntryData) (q : Question)
    (e : EntryData)
    → table k es ≡ o → IsAt (UsesId id) es i e
    → (e.upstream ≡ u) × AsksFor q e × (q.class ≡ IN) → Finds (Matches u id q) o.entries (Some e)
finds_some k u id i o es q e v t m =
    subst (λ x. Finds (Matches u id q) x.entries (Some e)) v
    (i, t.there, (t.is, m.0, m.1, m.2))

-- e was looked at, as v, and d has a next upstream
pub next_below : (u id i : ℕ) (es : List EntryData) (v e d : EntryData)
    → v ≡ e → IsAt (UsesId id) es i e → IsAt (UsesId id) es i d → v.upstream + 1 < u
    → d.upstream + 1 < u
next_below u id i es v e d s k m l =
    let n : v.upstream ≡ d.upstream =
    ap (λ x. x.upstream) (s ∙ at_same es i e d k.there m.there) in
    omega (arith, n)

-- e was looked at, as v, and d changed to f
pub advances : (u id i now : ℕ) (o : PendingData) (es : List EntryData) (v e d f : EntryData)
    → table u es ≡ o → v ≡ e → IsAt (UsesId id) es i e → IsAt (UsesId id) es i d
    → v.upstream + 1 < u → f ≡ with_next_upstream d now
    → Advances o id now true (table u (slice_set es i f))
advances u id i now o es v e d f q s k m l n =
    let b = next_below u id i es v e d s k m l in
    let a : Advances (table u es) id now true (table u (slice_set es i f)) =
    (i, (d, m.there, m.is, b, ap (λ x. table u (slice_set es i x)) n)) in
    subst (λ x. Advances x id now true (table u (slice_set es i f))) q a

pub advance_keeps : (o n : PendingData) (id now : ℕ) → IsPendingData o
    → Advances o id now true n → IsPendingData n
advance_keeps o n id now h (i, (e, t, p, b, q)) =
    let w = next_is_open e now (h.open_ones i e t) in
    subst IsPendingData (sym q)
    (set_keeps o i e (with_next_upstream e now) h t refl refl refl w b)

-- the entry with the id has no further upstream
pub stays : (u id i : ℕ) (o : PendingData) (es : List EntryData) (v e : EntryData)
    → table u es ≡ o → v ≡ e → IsPendingData (table u es) → IsAt (UsesId id) es i e
    → u ≤ v.upstream + 1 → NoneIs (λ x. UsesId id x × (x.upstream + 1 < o.upstreams)) o.entries
stays u id i o es v e q s h k l =
    subst (λ y. NoneIs (λ x. UsesId id x × (x.upstream + 1 < y.upstreams)) y.entries) q
    (λ j x a m. go j x a m.0 m.1)
  where
    go : (j : ℕ) (x : EntryData) → At es j x → UsesId id x → x.upstream + 1 < u → ⊥
    go j x a p b =
        let z : j ≡ i = h.ids j i x e a k.there (p ∙ sym k.is) in
        let y : x ≡ e = at_same es i x e (subst (λ n. At es n x) z a) k.there in
        let n : x.upstream ≡ v.upstream = ap (λ d. d.upstream) (y ∙ sym s) in
        omega (arith, n, b)
