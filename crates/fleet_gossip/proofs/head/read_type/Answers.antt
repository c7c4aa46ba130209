use Rattle.fleet_gossip.specs.Faults.{refused}
use mathlib.Core.Bool.{false≢true}
use Rattle.std.proofs.Common.{refl}
use Rattle.fleet_gossip.proofs.head.read_type.Goals as goal

pub returns-then-not-is_type_of : goal.returns-then-not-is_type_of
returns-then-not-is_type_of c = refused _ _ c.in_ok-rtype.ensures
    (λ l. false≢true (rw c.if-not-is_type_of.true at (c.is_type_of.ensures.1 l))) refl
