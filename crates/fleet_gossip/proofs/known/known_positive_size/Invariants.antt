use Rattle.std.proofs.Common.{◌≡◌, ℕ, ◌+◌, List, length}
use Rattle.fleet_wire.specs.Types.{RType}
use Rattle.fleet_observe.specs.Body.{IsPositiveBody}
use Rattle.fleet_gossip.specs.steps.Reading.{IsSizeOf}
use Rattle.fleet_gossip.proofs.Passing.{AreLeft}
use Rattle.fleet_gossip.proofs.known.known_positive_size.Given as goal

-- of a body that is there: its RDATAs that are left
abbrev pub invariant-loop : goal.invariant-loop
invariant-loop l = (rtype : RType) (size : ℕ) → (found : IsSizeOf (IsPositiveBody rtype) l.octets size)
    → (left : List (List ℕ)) × AreLeft left found.rest l.reader
    × (l.counter + length left ≡ l.count)
