use Rattle.std.proofs.Common.{◌≡◌, vec_capacity}
use Rattle.fleet_cache.specs.steps.Packed.{short_words}
use Rattle.fleet_cache.specs.steps.Reclaimed.{StaysIn}
use Rattle.fleet_cache.proofs.CursorPass.{ArePassing, HasLooked, IsShort, IsAny, IsNearShort}
use Rattle.fleet_cache.proofs.reclaim.Cursor.pass.Given as goal

abbrev pub invariant-loop-key : goal.invariant-loop-key
invariant-loop-key g l =
    ArePassing short_words 0 l.held l.fn.self.key.items IsShort
    (StaysIn l.held l.now l.flushes l.passed.soonest) l.key-iterator
    × HasLooked short_words 0 l.held l.fn.self.key.items IsShort IsNearShort l.left l.passed.left
    l.key-iterator
    × (vec_capacity l.self.key ≡ vec_capacity l.fn.self.key)

abbrev pub invariant-loop-key-2 : goal.invariant-loop-key-2
invariant-loop-key-2 g l =
    ArePassing (λ k. k.items) 1 l.held l.fn.self.key.items IsAny
    (StaysIn l.held l.now l.flushes l.passed.soonest) l.key-iterator
    × HasLooked (λ k. k.items) 1 l.held l.fn.self.key.items IsAny IsAny l.left l.passed.left
    l.key-iterator
    × (vec_capacity l.self.key ≡ vec_capacity l.fn.self.key)
