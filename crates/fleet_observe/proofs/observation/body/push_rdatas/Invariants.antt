use Rattle.std.proofs.Common.{◌≡◌, ◌≤◌, ◌++◌, length, drop}
use Rattle.std.specs.List.{flat_map}
use Rattle.fleet_observe.specs.Body.{positive_body, octets_with_length}
use Rattle.fleet_observe.specs.declared.bounds.TheConstants.{LONGEST_BODY}
use Rattle.fleet_observe.proofs.observation.body.push_rdatas.Given as goal

-- what is written and what lies from the index on make the body
abbrev pub invariant-loop-rdata : goal.invariant-loop-rdata
invariant-loop-rdata g l = record {
  written : l.octets.items ++ flat_map octets_with_length (drop l.rdata-index l.rdatas)
      ≡ l.fn.octets.items ++ positive_body l.rdatas;
  short : length (flat_map octets_with_length (drop l.rdata-index l.rdatas)) ≤ LONGEST_BODY;
}
