use Rattle.std.proofs.Common.{◌≡◌, ◌≤◌, ℕ, [], vec_capacity}
use Rattle.fleet_cache.specs.declared.words.TheConstants.{MOST_WORDS}
use Rattle.fleet_cache.specs.steps.Reclaimed.{IsReclaimed}
use Rattle.fleet_cache.specs.steps.Rounds.{HasSoonest, IsRound}
use Rattle.fleet_cache.proofs.round.Round.go_on.Given as goal

abbrev pub invariant-loop-left : goal.invariant-loop-left
invariant-loop-left g l =
    IsReclaimed l.floor l.initial.held l.held
    × HasSoonest l.self.soonest l.self.soonest_passed l.self.cursor.key.items l.held
    × ((most begun : ℕ)
    → IsRound most begun l.floor l.initial.held l.fn.self.cursor.key.items l.fn.self.owed
    → IsRound most begun l.floor l.held l.self.cursor.key.items l.left)
    × (MOST_WORDS ≤ vec_capacity l.self.cursor.key)
    × (l.self.owed ≡ 0)
    × (l.self.cursor.key.items ≡ [] → l.fn.self.cursor.key.items ≡ [])

abbrev pub decreases-loop-left : goal.decreases-loop-left
decreases-loop-left g l = l.left
