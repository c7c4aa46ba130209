-- The links of an answer, which lie in place with room for more.
-- Serves `Cache::answer`, `Cache::answer_lent`.
use Rattle.std.specs.Prelude.{List, [], ◌∷◌, Option, Some, None}
use Rattle.fleet_cache.specs.Answer.{ShownData}

-- the parts that are there, in their order
abbrev pub shown_parts : List (Option ShownData) → List ShownData
shown_parts [] = []
shown_parts (None ∷ ps) = shown_parts ps
shown_parts (Some p ∷ ps) = p ∷ shown_parts ps

-- each entry is there, and so each link of an answer
abbrev pub AllSome : List (Option ShownData) → Type 0
AllSome [] = Unit {0}
AllSome (None ∷ ps) = ⊥
AllSome (Some p ∷ ps) = AllSome ps
