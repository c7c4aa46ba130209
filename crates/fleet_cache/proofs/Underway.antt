-- How far a chain of aliases was followed.
-- Serves `finish`, `follow`.
use Rattle.std.specs.Prelude.{◌≡◌, ℕ, ◌-◌, ◌≤◌, List, length, Option}
use Rattle.fleet_name.specs.Name.{wire, IsWire}
use Rattle.fleet_observe.specs.declared.bounds.TheConstants.{MOST_LINKS}
use Rattle.fleet_observe.specs.Observation.{ObservationData}
use Rattle.fleet_cache.specs.Answer.{ShownData, answer_of, answer_within, add_links}
use Rattle.fleet_cache.specs.Shown.{shown_parts, AllSome}

-- the answer at the name is the links so far before the answer at the place
pub record IsUnderway (items : List ObservationData) (name : List ℕ) (rtype now : ℕ)
    (at : List ℕ) (chain : List (Option ShownData)) : Type 0 where
  pub wired : IsWire at
  pub filled : AllSome chain
  pub room : length chain ≤ MOST_LINKS
  pub goes_on : (n : List (List ℕ)) → name ≡ wire n → (m : List (List ℕ)) → at ≡ wire m
      → answer_of items now n rtype
      ≡ add_links (shown_parts chain)
      (answer_within (MOST_LINKS - length chain) items now rtype m)
