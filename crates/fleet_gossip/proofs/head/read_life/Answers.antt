use Rattle.fleet_gossip.specs.Faults.{refused}
use mathlib.Core.Bool.{false≢true}
use Rattle.std.proofs.Common.{refl}
use Rattle.fleet_gossip.proofs.head.read_life.Goals as goal

pub returns-then-not-is_life_of : goal.returns-then-not-is_life_of
returns-then-not-is_life_of c = refused _ _ c.in_ok-life.ensures
    (λ l. false≢true (rw c.if-not-is_life_of.true at (c.is_life_of.ensures.1 l))) refl
