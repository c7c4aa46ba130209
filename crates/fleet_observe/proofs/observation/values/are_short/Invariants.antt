use Rattle.std.proofs.Common.{◌≡◌, ◌+◌, ◌-◌, length, drop}
use Rattle.std.specs.List.{flat_map}
use Rattle.fleet_observe.specs.Body.{octets_with_length}
use Rattle.fleet_observe.specs.declared.bounds.TheConstants.{LONGEST_BODY}
use Rattle.fleet_observe.proofs.observation.values.are_short.Given as goal

-- what lies from the index on fits the room exactly where all of it fits it
abbrev pub invariant-loop-rdata : goal.invariant-loop-rdata
invariant-loop-rdata g l = length (flat_map octets_with_length l.rdatas) + l.room
    ≡ (LONGEST_BODY - 2) + length (flat_map octets_with_length (drop l.rdata-index l.rdatas))
