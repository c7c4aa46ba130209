-- What the lookups find is what the definition takes.
-- Serves `finish`, `follow`, `Cache::answer_at`, the laws `answers_are_paths`, `dominance`,
-- `one_answer`.
use Rattle.std.proofs.Common.{ℕ, zero, suc, ◌≡◌, ◌≤◌, Bool, true, false, ◌&&◌, ◌||◌, nat_eq, List, [], ◌∷◌, ◌++◌, inl, inr, Option, Some, None, sym, ap, refl, ◌∙◌, arith}
use Rattle.std.proofs.lemmas.Bool.{and_parts, and_from, or_cases, or_left, or_right, eqb-true, eq-eqb}
use Rattle.fleet_wire.specs.declared.rtype.TheConstants.{CNAME}
use Rattle.fleet_observe.specs.declared.observation.kind.Kind.{Kind}
use Rattle.fleet_observe.specs.declared.observation.kind.Kind.TheVariants.{NameError, NoData as KindNoData, Positive, Flush}
use Rattle.fleet_observe.specs.Members.{Has}
use Rattle.fleet_observe.specs.Observation.{ObservationData, IsObservation, AreObservations, key_of}
use Rattle.fleet_cache.specs.Void.{is_void}
use Rattle.fleet_cache.specs.Live.{has_ended, is_live}
use Rattle.fleet_cache.specs.Relevant.{is_name, is_relevant, speaks_of}
use Rattle.fleet_cache.specs.Cached.{IsCached}
use Rattle.fleet_cache.specs.steps.Best.{IsBest, Speaks}
use Rattle.fleet_cache.specs.Answer.{ShownData, AnswerData, Missed, Found, NoData, NxDomain, add_link, by_kind, is_link, target, decider, answer_by, answer_within, add_links, part_at}
use Rattle.fleet_cache.proofs.Best.{best_same, best_unique, best_filtered, best_kept}
use Rattle.fleet_cache.proofs.Beats.{live_parts, live_to}
use mathlib.Core.Bool.{false≢true}
use Rattle.fleet_cache.proofs.Lawful.{name_error_type}
use Rattle.fleet_cache.proofs.Under.{name_from, name_to, under_from, under_to}
use Rattle.fleet_observe.proofs.Lemmas.{key_exact}

abbrev pub Matters : (ObservationData → Bool) → List (List ℕ) → ℕ → ObservationData → Type 0
Matters lives n q o = (lives o ≡ true) × (is_relevant n q o ≡ true)

pub matters_from : (lives : ObservationData → Bool) (n : List (List ℕ)) (q : ℕ) (o : ObservationData) → Speaks lives n q o
    → Matters lives n q o
matters_from lives n q o (inl (inl on)) = (
  on.live,
  rw on.of_kind (and_from _ _ (name_to n o.name on.named) (or_left _ _ (eq-eqb _ _ on.of_type))),
)
matters_from lives n q o (inl (inr on)) = (
  on.live,
  rw on.of_kind (and_from _ _ (name_to n o.name on.named) (or_right _ _ (eq-eqb _ _ on.of_type))),
)
matters_from lives n q o (inr (inl on)) = (
  on.live,
  rw on.of_kind (and_from _ _ (name_to n o.name on.named) (eq-eqb _ _ on.of_type)),
)
matters_from lives n q o (inr (inr d)) = (d.live, rw d.of_kind (under_to n o.name d.under.0 d.under.1))

pub speaks_from : (lives : ObservationData → Bool) (n : List (List ℕ)) (q : ℕ) (o : ObservationData)
    → IsObservation o → Matters lives n q o → Speaks lives n q o
speaks_from lives n q o lawful m = by_cases o.kind refl
  where
    by_cases : (k : Kind) → o.kind ≡ k → Speaks lives n q o
    by_cases Positive k =
        let both : speaks_of n q Positive o.name o.rtype ≡ true = rw k at m.1 in
        let b = and_parts (is_name n o.name) (nat_eq o.rtype q || nat_eq o.rtype CNAME) both in
        inl (elim (or_cases (nat_eq o.rtype q) (nat_eq o.rtype CNAME) b.1) [
          | inl same ↦ inl (record {
            live = m.0;
            named = name_from n o.name b.0;
            of_kind = k;
            of_type = eqb-true _ _ same;
          })
          | inr alias ↦ inr (record {
            live = m.0;
            named = name_from n o.name b.0;
            of_kind = k;
            of_type = eqb-true _ _ alias;
          })
        ])
    by_cases KindNoData k =
        let both : speaks_of n q KindNoData o.name o.rtype ≡ true = rw k at m.1 in
        let b = and_parts (is_name n o.name) (nat_eq o.rtype q) both in
        inr (inl (record {
          live = m.0;
          named = name_from n o.name b.0;
          of_kind = k;
          of_type = eqb-true _ _ b.1;
        }))
    by_cases NameError k =
        let under : speaks_of n q NameError o.name o.rtype ≡ true = rw k at m.1 in
        inr (inr (record {
          live = m.0;
          under = under_from n o.name under;
          of_kind = k;
          of_type = name_error_type o lawful k;
        }))
    by_cases Flush k = let none : speaks_of n q Flush o.name o.rtype ≡ true = rw k at m.1
        in absurd (false≢true none)

-- what is relevant follows from the key
pub relevant_by_key : (n : List (List ℕ)) (q : ℕ) (x y : ObservationData) → key_of x ≡ key_of y
    → is_relevant n q x ≡ true → is_relevant n q y ≡ true
relevant_by_key n q x y k e =
    let p = key_exact x.name y.name x.kind y.kind x.rtype y.rtype k in
    let name : x.name ≡ y.name = p.0 in
    let kind : x.kind ≡ y.kind = p.1 in
    let rtype : x.rtype ≡ y.rtype = p.2 in
    let same : is_relevant n q x ≡ is_relevant n q y = cc in
    sym same ∙ e

-- what is found of what is live decides
pub decider_of_held : (items : List ObservationData) (t : ℕ) (n : List (List ℕ)) (q : ℕ)
    (a : Option ObservationData) → AreObservations items
    → IsBest (Speaks (is_live items t) n q) items a → a ≡ decider items t n q
decider_of_held items t n q a lawful best =
    let test = λ (o : ObservationData). is_live items t o && is_relevant n q o in
    best_unique (λ o. test o ≡ true) items a _
    (best_same (Speaks (is_live items t) n q) (λ o. test o ≡ true) items a
    (λ o h k. let m = matters_from (is_live items t) n q o k in and_from _ _ m.0 m.1)
    (λ o h k. speaks_from (is_live items t) n q o (lawful o h)
    (and_parts (is_live items t o) (is_relevant n q o) k)) best)
    (best_filtered test items)

-- what decides of a cache's items decides of its set
pub decider_of_cache : (s items : List ObservationData) (f t : ℕ) (n : List (List ℕ)) (q : ℕ)
    → f ≤ t → IsCached s f items → ((o : ObservationData) → Has items o → is_void items o ≡ false)
    → decider items t n q ≡ decider s t n q
decider_of_cache s items f t n q le cached spared =
    let a = decider items t n q in
    let one : IsBest (λ o. (has_ended t o ≡ false) × (is_relevant n q o ≡ true)) items a =
    best_same (λ o. (is_live items t o && is_relevant n q o) ≡ true)
    (λ o. (has_ended t o ≡ false) × (is_relevant n q o ≡ true)) items a
    (λ o h k. let p = and_parts (is_live items t o) (is_relevant n q o) k
    in ((live_parts items t o p.0).0, p.1))
    (λ o h k. and_from _ _ (live_to items t o k.0 (spared o h)) k.1)
    (best_filtered (λ o. is_live items t o && is_relevant n q o) items) in
    let two = best_kept (λ o. is_relevant n q o ≡ true) (relevant_by_key n q) s items f t le cached
    a one in
    let three = best_same
    (λ o. ((has_ended t o ≡ false) × (is_relevant n q o ≡ true)) × (is_void s o ≡ false))
    (λ o. (is_live s t o && is_relevant n q o) ≡ true) s a
    (λ o h k. and_from _ _ (live_to s t o k.0.0 k.1) k.0.1)
    (λ o h k. let p = and_parts (is_live s t o) (is_relevant n q o) k in
    let l = live_parts s t o p.0 in ((l.0, p.1), l.1)) two in
    best_unique (λ o. (is_live s t o && is_relevant n q o) ≡ true) s a _ three
    (best_filtered (λ o. is_live s t o && is_relevant n q o) s)

-- the steps of an answer, by what decides
module _ (s : List ObservationData) (t q : ℕ) (n : List (List ℕ)) where
  pub within_none : (k : ℕ) → None ≡ decider s t n q → answer_within k s t q n ≡ Missed
  within_none zero e = ap (answer_by (λ m. Missed) t q) (sym e)
  within_none (suc k) e = ap (answer_by (answer_within k s t q) t q) (sym e)

  decided_last : (next : List (List ℕ) → AnswerData) (o : ObservationData) → is_link q o ≡ false
      → answer_by next t q (Some o) ≡ by_kind (part_at t o)
  decided_last next o e = rw e refl

  decided_link : (next : List (List ℕ) → AnswerData) (o : ObservationData) → is_link q o ≡ true
      → answer_by next t q (Some o) ≡ add_link (part_at t o) (next (target o))
  decided_link next o e = rw e refl

  pub within_last : (k : ℕ) (o : ObservationData) → Some o ≡ decider s t n q → is_link q o ≡ false
      → answer_within k s t q n ≡ by_kind (part_at t o)
  within_last zero o e l = ap (answer_by (λ m. Missed) t q) (sym e) ∙ decided_last (λ m. Missed) o l
  within_last (suc k) o e l = ap (answer_by (answer_within k s t q) t q) (sym e)
      ∙ decided_last (answer_within k s t q) o l

  pub within_full : (k : ℕ) (o : ObservationData) → k ≡ 0 → Some o ≡ decider s t n q
      → is_link q o ≡ true → answer_within k s t q n ≡ Missed
  within_full zero o z e l = ap (answer_by (λ m. Missed) t q) (sym e)
      ∙ decided_link (λ m. Missed) o l
  within_full (suc k) o z e l = absurd (omega (arith, z))

  pub within_link : (k j : ℕ) (o : ObservationData) → k ≡ suc j → Some o ≡ decider s t n q
      → is_link q o ≡ true → answer_within k s t q n
      ≡ add_link (part_at t o) (answer_within j s t q (target o))
  within_link k j o z e l = rw z (ap (answer_by (answer_within j s t q) t q) (sym e)
      ∙ decided_link (answer_within j s t q) o l)

pub onto_missed : (ps : List ShownData) → add_links ps Missed ≡ Missed
onto_missed [] = refl
onto_missed (p ∷ ps) = ap (add_link p) (onto_missed ps)

pub onto_found : (ps : List ShownData) (x : ShownData) → add_links ps (Found [] x) ≡ Found ps x
onto_found [] x = refl
onto_found (p ∷ ps) x = ap (add_link p) (onto_found ps x)

pub onto_no_data : (ps : List ShownData) (x : ShownData) → add_links ps (NoData [] x) ≡ NoData ps x
onto_no_data [] x = refl
onto_no_data (p ∷ ps) x = ap (add_link p) (onto_no_data ps x)

pub onto_denied : (ps : List ShownData) (x : ShownData) → add_links ps (NxDomain [] x)
    ≡ NxDomain ps x
onto_denied [] x = refl
onto_denied (p ∷ ps) x = ap (add_link p) (onto_denied ps x)

pub onto_more : (ps : List ShownData) (x : ShownData) (a : AnswerData) → add_links (ps ++ x ∷ []) a
    ≡ add_links ps (add_link x a)
onto_more [] x a = refl
onto_more (p ∷ ps) x a = ap (add_link p) (onto_more ps x a)
