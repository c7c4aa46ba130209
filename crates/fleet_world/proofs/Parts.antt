-- What the parts of an answer are.
-- Serves the laws `fresh`, `withdrawn`.
use Rattle.std.proofs.Common.{◌≡◌, ℕ, zero, suc, Bool, true, false, ◌&&◌, if◌then◌else◌, ◌⊎◌, inl, inr, List, refl, subst, Option, Some, None}
use mathlib.Core.Bool.{false≢true}
use Rattle.std.proofs.lemmas.Bool.{and_parts}
use Rattle.fleet_name.specs.Places.{Has}
use Rattle.fleet_observe.specs.declared.bounds.TheConstants.{MOST_LINKS}
use Rattle.fleet_observe.specs.declared.observation.kind.Kind.{Kind}
use Rattle.fleet_observe.specs.declared.observation.kind.Kind.TheVariants.{NameError, NoData as KindNoData, Positive, Flush}
use Rattle.fleet_observe.specs.Observation.{ObservationData}
use Rattle.fleet_cache.specs.Answer.{ShownData, AnswerData, Missed, Found, NoData, NxDomain, add_link, answer_of_kind, by_kind, is_link, target, decider, answer_by, answer_within, answer_of, part_at}
use Rattle.fleet_cache.specs.Live.{is_live, shown_ttl}
use Rattle.fleet_cache.specs.Relevant.{is_relevant}
use Rattle.fleet_cache.proofs.Lemmas.{IsBest, best_filtered}
use Rattle.fleet_world.specs.Fresh.{parts_of}

-- a part: a member that is live, and no flush, as it is shown
pub record IsPart (s : List ObservationData) (t : ℕ) (p : ShownData) : Type 0 where
  pub member : Has s p.observation
  pub live : is_live s t p.observation ≡ true
  pub other : ¬ (p.observation.kind ≡ Flush)
  pub ttl : p.ttl ≡ shown_ttl t p.observation

-- a flush is relevant to nothing
relevant_other : (n : List (List ℕ)) (rtype : ℕ) (o : ObservationData) → is_relevant n rtype o ≡ true
    → ¬ (o.kind ≡ Flush)
relevant_other n rtype o e k = false≢true (rw k at e)

module _ (s : List ObservationData) (t rtype : ℕ) where
  -- what decides is a part
  decided : (n : List (List ℕ)) (o : ObservationData) → decider s t n rtype ≡ Some o
      → IsPart s t (part_at t o)
  decided n o e =
      let m = subst (IsBest (λ x. (is_live s t x && is_relevant n rtype x) ≡ true) s) e
      (best_filtered (λ x. is_live s t x && is_relevant n rtype x) s) in
      let both = and_parts (is_live s t o) (is_relevant n rtype o) m.1 in record {
        member = m.0;
        live = both.0;
        other = relevant_other n rtype o both.1;
        ttl = refl;
      }

  linked : (p : ShownData) (a : AnswerData) (x : ShownData) → Has (parts_of (add_link p a)) x
      → (p ≡ x) ⊎ Has (parts_of a) x
  linked p Missed x h = absurd h
  linked p (Found chain set) x h = h
  linked p (NoData chain soa) x h = h
  linked p (NxDomain chain soa) x h = h

  alone : (k : Kind) (p x : ShownData) → Has (parts_of (answer_of_kind k p)) x → p ≡ x
  alone Positive p x (inl e) = e
  alone Positive p x (inr h) = absurd h
  alone KindNoData p x (inl e) = e
  alone KindNoData p x (inr h) = absurd h
  alone NameError p x (inl e) = e
  alone NameError p x (inr h) = absurd h
  alone Flush p x h = absurd h

  parts_by : (next : List (List ℕ) → AnswerData) (n : List (List ℕ)) (d : Option ObservationData)
      → decider s t n rtype ≡ d
      → ((m : List (List ℕ)) (x : ShownData) → Has (parts_of (next m)) x → IsPart s t x)
      → (x : ShownData) → Has (parts_of (answer_by next t rtype d)) x → IsPart s t x
  parts_by next n None e f x h = absurd h
  parts_by next n (Some o) e f x h = go (is_link rtype o) h
    where
      itself : part_at t o ≡ x → IsPart s t x
      itself k = subst (IsPart s t) k (decided n o e)

      go : (link : Bool)
          → Has (parts_of (if link then add_link (part_at t o) (next (target o))
          else by_kind (part_at t o))) x → IsPart s t x
      go true k = elim (linked (part_at t o) (next (target o)) x k) [
        | inl q ↦ itself q
        | inr q ↦ f (target o) x q
      ]
      go false k = itself (alone o.kind (part_at t o) x k)

  parts_within : (k : ℕ) (n : List (List ℕ)) (x : ShownData)
      → Has (parts_of (answer_within k s t rtype n)) x → IsPart s t x
  parts_within zero n x h =
      parts_by (λ m. Missed) n (decider s t n rtype) refl (λ m y g. absurd g) x h
  parts_within (suc k) n x h =
      parts_by (answer_within k s t rtype) n (decider s t n rtype) refl (parts_within k) x h

  pub parts : (n : List (List ℕ)) (x : ShownData) → Has (parts_of (answer_of s t n rtype)) x
      → IsPart s t x
  unfolding answer_of
  parts n x h = parts_within MOST_LINKS n x h
