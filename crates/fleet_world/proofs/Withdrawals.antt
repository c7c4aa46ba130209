-- What a flush withdraws is no part of an answer.
-- Serves the laws `fresh`, `withdrawn`.
use Rattle.std.proofs.Common.{◌≡◌, ℕ, zero, suc, ◌<◌, ◌≤◌, Bool, true, false, ◌&&◌, if◌then◌else◌, inl, inr, List, [], ◌∷◌, ◌++◌, filter, refl, sym, ap, subst, ◌∙◌, Option, Some, None, Ok, arith}
use mathlib.Core.Bool.{false≢true}
use Rattle.fleet_name.specs.Places.{Has}
use Rattle.fleet_observe.specs.declared.bounds.TheConstants.{MOST_LINKS}
use Rattle.fleet_observe.specs.declared.observation.kind.Kind.TheVariants.{Flush}
use Rattle.fleet_observe.specs.Observation.{ObservationData, AreObservations, expires}
use Rattle.fleet_cache.specs.Answer.{AnswerData, Missed, add_link, by_kind, most_preferred, is_link, target, decider, answer_by, answer_within, answer_of, part_at}
use Rattle.fleet_cache.specs.Laws.{TestsLive, CachesExist, OneAnswer}
use Rattle.fleet_cache.specs.Live.{is_live}
use Rattle.fleet_cache.specs.Relevant.{is_relevant}
use Rattle.fleet_cache.specs.Void.{Voids, IsVoid}
use Rattle.fleet_world.specs.Fresh.{parts_of}
use Rattle.fleet_world.specs.FleetModel.{FleetModel, opening}
use Rattle.fleet_world.specs.Reaching.{RunsTo, HasReached, itself, stays, by_sweep, by_merge}
use Rattle.fleet_world.specs.Withdrawn.{TakenWithdraw, HeardWithdraw, ReachedWithdraw, WithdrawnEndFirst, EndedMakeNoDifference}
use Rattle.fleet_world.specs.declared.event.Event.TheVariants.{Sweep, Merge}
use Rattle.fleet_world.proofs.Agreed.{run_both}
use Rattle.fleet_world.proofs.Reached.{hears}
use Rattle.fleet_world.proofs.Packs.{OneList}
use Rattle.fleet_world.proofs.Kept.{answers_all}
use Rattle.fleet_world.proofs.Parts.{parts}

not_above : (x y : ℕ) → (y ≤ x → ⊥) → x < y
not_above x y f = grind arith

pub taken_withdraw : TestsLive → TakenWithdraw
taken_withdraw live s flush m is t name rtype part h under =
    let p = parts s t rtype name part h in
    not_above flush.stamp part.observation.stamp (λ late.
    ((live s t part.observation).0 p.live).1
    (flush, m, record { flush = is; other = p.other; under = under; later = late }))

pub heard_withdraw : {A : Type 0} → OneList → CachesExist → OneAnswer → TestsLive → HeardWithdraw A
heard_withdraw one exist answer live configs events results end run i a there flush m is t le name
    rtype part h under =
    taken_withdraw live a.heard flush m is t name rtype part
    (subst (λ x. Has (parts_of x) part)
    (answers_all one exist answer configs events results end run i a there t le name rtype) h) under

-- a site was reached in a run
reached_runs : (A : Type 0) (m : FleetModel) (i : ℕ) (n : FleetModel) (j : ℕ)
    → HasReached A m i n j → RunsTo A m n
reached_runs A m i n j (itself e f) = record { events = []; results = []; run = e }
reached_runs A m i n j (stays before e r h step k) =
    let x = reached_runs A m i before j h in record {
      events = x.events ++ e ∷ [];
      results = x.results ++ r ∷ [];
      run = run_both m before n x.events x.results (e ∷ []) (r ∷ []) x.run (n, step, refl);
    }
reached_runs A m i n j (by_sweep before after sender s h step l w) =
    let x = reached_runs A m i before sender h in record {
      events = x.events ++ Sweep sender ∷ l.events;
      results = x.results ++ Ok s ∷ l.results;
      run = run_both m before n x.events x.results (Sweep sender ∷ l.events) (Ok s ∷ l.results)
          x.run (after, step, l.run);
    }
reached_runs A m i n j (by_merge before from s h step) =
    let x = reached_runs A m i before from h in record {
      events = x.events ++ Merge j from ∷ [];
      results = x.results ++ Ok s ∷ [];
      run = run_both m before n x.events x.results (Merge j from ∷ []) (Ok s ∷ []) x.run
          (n, step, refl);
    }

pub reached_withdraw : (A : Type 0) → OneList → CachesExist → OneAnswer → TestsLive
    → ReachedWithdraw A
reached_withdraw A one exist answer live configs m n i j a b l h at bt flush p is t le =
    let x = reached_runs A m i n j h in
    heard_withdraw one exist answer live configs (l.events ++ x.events) (l.results ++ x.results) n
    (run_both (opening configs) m n l.events l.results x.events x.results l.run x.run) j b bt flush
    ((hears one A configs m n i j a b l h at bt).heard flush p) is t le

pub withdrawn_end_first : WithdrawnEndFirst
withdrawn_end_first flush o f k v =
    let long = (f.flush v.flush).life in
    omega (arith, v.later, long, k.life.1)

-- tests that are true in the same cases are the same
same_tests : (a b : Bool) → (a ≡ true → b ≡ true) → (b ≡ true → a ≡ true) → a ≡ b
same_tests true b f g = sym (f refl)
same_tests false true f g = g refl
same_tests false false f g = refl

-- tests that are the same of each member keep the same
same_filters : (p q : ObservationData → Bool) (xs : List ObservationData)
    → ((x : ObservationData) → Has xs x → p x ≡ q x) → filter p xs ≡ filter q xs
same_filters p q [] e = refl
same_filters p q (x ∷ xs) e =
    go (p x) (q x) (e x (inl refl)) (same_filters p q xs (λ y m. e y (inr m)))
  where
    go : (a b : Bool) → a ≡ b → filter p xs ≡ filter q xs
        → (if a then x ∷ filter p xs else filter p xs)
        ≡ (if b then x ∷ filter q xs else filter q xs)
    go true true k h = ap (λ ys. x ∷ ys) h
    go true false k h = absurd (false≢true (sym k))
    go false true k h = absurd (false≢true k)
    go false false k h = h

module _ (live : TestsLive) (s : List ObservationData) (flush : ObservationData) (t rtype : ℕ)
    (lawful : AreObservations (flush ∷ s)) (is : flush.kind ≡ Flush) (past : expires flush ≤ t) where
  same_live : (x : ObservationData) → Has s x → is_live (flush ∷ s) t x ≡ is_live s t x
  same_live x m = same_tests (is_live (flush ∷ s) t x) (is_live s t x)
      (λ e. let l = (live (flush ∷ s) t x).0 e in
      (live s t x).1 (l.0, λ v. l.1 (v.0, inr v.1, v.2)))
      (λ e. let l = (live s t x).0 e in (live (flush ∷ s) t x).1 (l.0, λ v. void l.0 l.1 v))
    where
      by_flush : t < expires x → Voids flush x → ⊥
      by_flush lasts v =
          let k = withdrawn_end_first flush x (lawful flush (inl refl)) (lawful x (inr m)) v in
          omega arith

      void : t < expires x → (IsVoid s x → ⊥) → IsVoid (flush ∷ s) x → ⊥
      void lasts none (g, inl e, v) =
          by_flush lasts (subst (λ (y : ObservationData). Voids y x) (sym e) v)
      void lasts none (g, inr h, v) = none (g, h, v)

  flush_decides_nothing : (n : List (List ℕ)) (b : Bool) → (b && is_relevant n rtype flush) ≡ false
  flush_decides_nothing n true = rw is refl
  flush_decides_nothing n false = refl

  same_decider : (n : List (List ℕ)) → decider (flush ∷ s) t n rtype ≡ decider s t n rtype
  same_decider n =
      let rest : filter (λ o. is_live (flush ∷ s) t o && is_relevant n rtype o) s
      ≡ filter (λ o. is_live s t o && is_relevant n rtype o) s =
      same_filters (λ o. is_live (flush ∷ s) t o && is_relevant n rtype o)
      (λ o. is_live s t o && is_relevant n rtype o) s
      (λ x m. ap (λ b. b && is_relevant n rtype x) (same_live x m)) in
      ap most_preferred (without (is_live (flush ∷ s) t flush && is_relevant n rtype flush)
      (flush_decides_nothing n (is_live (flush ∷ s) t flush)) ∙ rest)
    where
      without : (b : Bool) → b ≡ false
          → (if b then flush ∷ filter (λ o. is_live (flush ∷ s) t o && is_relevant n rtype o) s
          else filter (λ o. is_live (flush ∷ s) t o && is_relevant n rtype o) s)
          ≡ filter (λ o. is_live (flush ∷ s) t o && is_relevant n rtype o) s
      without true e = absurd (false≢true (sym e))
      without false e = refl

  same_by : (f g : List (List ℕ) → AnswerData) (d : Option ObservationData)
      → ((n : List (List ℕ)) → f n ≡ g n) → answer_by f t rtype d ≡ answer_by g t rtype d
  same_by f g None e = refl
  same_by f g (Some o) e = go (is_link rtype o)
    where
      go : (b : Bool) → (if b then add_link (part_at t o) (f (target o)) else by_kind (part_at t o))
          ≡ (if b then add_link (part_at t o) (g (target o)) else by_kind (part_at t o))
      go true = ap (add_link (part_at t o)) (e (target o))
      go false = refl

  same_within : (k : ℕ) (n : List (List ℕ))
      → answer_within k (flush ∷ s) t rtype n ≡ answer_within k s t rtype n
  same_within zero n = ap (answer_by (λ m. Missed) t rtype) (same_decider n)
  same_within (suc k) n =
      ap (answer_by (answer_within k (flush ∷ s) t rtype) t rtype) (same_decider n)
      ∙ same_by (answer_within k (flush ∷ s) t rtype) (answer_within k s t rtype)
      (decider s t n rtype) (same_within k)

  pub same_answer : (n : List (List ℕ)) → answer_of (flush ∷ s) t n rtype ≡ answer_of s t n rtype
  unfolding answer_of
  same_answer n = same_within MOST_LINKS n

pub ended_make_no_difference : TestsLive → EndedMakeNoDifference
ended_make_no_difference live s flush lawful is t past name rtype =
    same_answer live s flush t rtype lawful is past name
