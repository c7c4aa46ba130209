-- Sets with one cache answer alike.
-- Serves `Cache::answer_at`, law `one_answer`.
use Rattle.std.proofs.Common.{ℕ, zero, suc, ◌≡◌, ◌≤◌, if◌then◌else◌, List, Option, Some, None, sym, ap, refl, ◌∙◌}
use Rattle.fleet_observe.specs.declared.bounds.TheConstants.{MOST_LINKS}
use Rattle.fleet_observe.specs.Observation.{ObservationData}
use Rattle.fleet_cache.specs.Cached.{IsCached}
use Rattle.fleet_cache.specs.Answer.{AnswerData, Missed, add_link, by_kind, is_link, target, decider, answer_by, answer_within, answer_of, part_at}
use Rattle.fleet_cache.proofs.Answers.{decider_of_cache}
use Rattle.fleet_cache.proofs.Caches.{item_unvoided}

decided_same : (t q : ℕ) (f g : List (List ℕ) → AnswerData) → ((m : List (List ℕ)) → f m ≡ g m)
    → (d : Option ObservationData) → answer_by f t q d ≡ answer_by g t q d
decided_same t q f g h None = refl
decided_same t q f g h (Some o) = ap (λ x. if is_link q o then add_link (part_at t o) x else by_kind
    (part_at t o)) (h (target o))

module _ (s u items : List ObservationData) (f t q : ℕ) (le : f ≤ t) (cs : IsCached s f items)
    (cu : IsCached u f items) where
  same_deciding : (n : List (List ℕ)) → decider s t n q ≡ decider u t n q
  same_deciding n = sym (decider_of_cache s items f t n q le cs (item_unvoided s items f cs))
      ∙ decider_of_cache u items f t n q le cu (item_unvoided s items f cs)

  same_within : (k : ℕ) (n : List (List ℕ)) → answer_within k s t q n ≡ answer_within k u t q n
  same_within zero n = ap (answer_by (λ m. Missed) t q) (same_deciding n)
  same_within (suc k) n = ap (answer_by (answer_within k s t q) t q) (same_deciding n)
      ∙ decided_same t q (answer_within k s t q) (answer_within k u t q) (same_within k)
      (decider u t n q)

pub sets_answer_alike : (s u items : List ObservationData) (f t : ℕ) (n : List (List ℕ)) (q : ℕ)
    → f ≤ t → IsCached s f items → IsCached u f items → answer_of s t n q ≡ answer_of u t n q
unfolding answer_of
sets_answer_alike s u items f t n q le cs cu = same_within s u items f t q le cs cu MOST_LINKS n
