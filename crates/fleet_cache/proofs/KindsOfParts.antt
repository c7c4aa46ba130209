-- The parts of an answer are of the kinds that their places say.
-- Serves `Cache::answer_at`, and fleet_world.
use Rattle.std.proofs.Common.{◌≡◌, ℕ, zero, suc, List, Option, Some, None, Bool, true, false, if◌then◌else◌, refl, sym, subst}
use mathlib.Core.Bool.{false≢true}
use Rattle.fleet_observe.specs.declared.bounds.TheConstants.{MOST_LINKS}
use Rattle.fleet_observe.specs.declared.observation.kind.Kind.{Kind}
use Rattle.fleet_observe.specs.declared.observation.kind.Kind.TheVariants.{NameError, NoData as KindNoData, Positive, Flush}
use Rattle.fleet_observe.specs.Observation.{ObservationData}
use Rattle.fleet_cache.specs.declared.answer.Answer.{Answer}
use Rattle.fleet_cache.specs.Answer.{ShownData, answer_of_kind, AnswerData, Missed, Found, NoData, NxDomain, add_link, by_kind, is_link, target, answer_by, decider, answer_within, answer_of, part_at}
use Rattle.fleet_cache.specs.AnswerData.{answer_data}
use Rattle.fleet_cache.specs.Kinds.{IsPositivePart, HasKinds}

has_kinds-add_link : (p : ShownData) (a : AnswerData) → IsPositivePart p → HasKinds a
    → HasKinds (add_link p a)
has_kinds-add_link p Missed k h = tt
has_kinds-add_link p (Found chain set) k h = ((k, h.0), h.1)
has_kinds-add_link p (NoData chain soa) k h = ((k, h.0), h.1)
has_kinds-add_link p (NxDomain chain soa) k h = ((k, h.0), h.1)

has_kinds-by_kind : (p : ShownData) → HasKinds (by_kind p)
has_kinds-by_kind p = by_cases p.observation.kind refl
  where
    by_cases : (k : Kind) → p.observation.kind ≡ k → HasKinds (answer_of_kind k p)
    by_cases Positive e = (tt, e)
    by_cases KindNoData e = (tt, e)
    by_cases NameError e = (tt, e)
    by_cases Flush e = tt

by_link : (p : ShownData) (a : AnswerData) (link : Bool) → (link ≡ true → IsPositivePart p)
    → HasKinds a → HasKinds (if link then add_link p a else by_kind p)
by_link p a true k h = has_kinds-add_link p a (k refl) h
by_link p a false k h = has_kinds-by_kind p

link_positive : (rtype : ℕ) (o : ObservationData) → is_link rtype o ≡ true → o.kind ≡ Positive
link_positive rtype o e = by_cases o.kind refl
  where
    by_cases : (k : Kind) → o.kind ≡ k → o.kind ≡ Positive
    by_cases Positive is = is
    by_cases KindNoData is = absurd (false≢true (rw is at e))
    by_cases NameError is = absurd (false≢true (rw is at e))
    by_cases Flush is = absurd (false≢true (rw is at e))

has_kinds-answer_by : (next : List (List ℕ) → AnswerData) (t rtype : ℕ) (d : Option ObservationData)
    → ((n : List (List ℕ)) → HasKinds (next n)) → HasKinds (answer_by next t rtype d)
has_kinds-answer_by next t rtype None h = tt
has_kinds-answer_by next t rtype (Some o) h =
    by_link (part_at t o) (next (target o)) (is_link rtype o) (link_positive rtype o) (h (target o))

module _ (s : List ObservationData) (t rtype : ℕ) where
  has_kinds-within : (k : ℕ) (n : List (List ℕ)) → HasKinds (answer_within k s t rtype n)
  has_kinds-within zero n = has_kinds-answer_by (λ m. Missed) t rtype (decider s t n rtype)
      (λ m. tt)
  has_kinds-within (suc k) n = has_kinds-answer_by (answer_within k s t rtype) t rtype
      (decider s t n rtype) (has_kinds-within k)

  pub has_kinds-answer_of : (n : List (List ℕ)) → HasKinds (answer_of s t n rtype)
  unfolding answer_of
  has_kinds-answer_of n = has_kinds-within MOST_LINKS n

-- an answer has the kinds
pub kinds_of_answer : {A : Type 0} (a : Answer A) (s : List ObservationData) (t rtype : ℕ)
    (n : List (List ℕ)) → answer_data a ≡ answer_of s t n rtype → HasKinds (answer_data a)
kinds_of_answer a s t rtype n e = let P : AnswerData → Type 0 = HasKinds
    in subst P (sym e) (has_kinds-answer_of s t rtype n)
