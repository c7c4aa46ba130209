use Rattle.std.proofs.Common.{◌≡◌, ◌+◌, length, drop}
use Rattle.std.specs.List.{flat_map}
use Rattle.fleet_observe.specs.Body.{positive_body, octets_with_length}
use Rattle.fleet_observe.proofs.observation.body.rdatas_len.Given as goal

-- what is counted and what lies from the index on make the body
abbrev pub invariant-loop-rdata : goal.invariant-loop-rdata
invariant-loop-rdata g l = l.len + length
    (flat_map octets_with_length (drop l.rdata-index l.rdatas)) ≡ length (positive_body l.rdatas)
