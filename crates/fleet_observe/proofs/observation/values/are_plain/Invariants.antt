use Rattle.std.proofs.Common.{ℕ, List, drop}
use Rattle.fleet_wire.specs.Shape.{IsPlain}
use Rattle.fleet_observe.specs.Members.{Has}
use Rattle.fleet_observe.proofs.observation.values.are_plain.Given as goal

-- where those from the index on are plain, all are
abbrev pub invariant-loop-rdata : goal.invariant-loop-rdata
invariant-loop-rdata g l = ((d : List ℕ) → Has (drop l.rdata-index l.rdatas) d → IsPlain l.rtype d)
    → (d : List ℕ) → Has l.rdatas d → IsPlain l.rtype d
