use Rattle.std.proofs.Common.{◌-◌, drop}
use Rattle.fleet_observe.specs.Members.{IsAscending}
use Rattle.fleet_observe.proofs.observation.values.are_ascending.Given as goal

-- where those from the one before the index on are ascending, all are
abbrev pub invariant-loop-i : goal.invariant-loop-i
invariant-loop-i g l = IsAscending (drop (l.i - 1) l.rdatas) → IsAscending l.rdatas
