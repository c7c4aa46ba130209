use Rattle.std.proofs.Common.{◌≡◌, ◌≤◌, ◌↔◌, length, drop}
use Rattle.std.specs.List.{flat_map}
use Rattle.fleet_observe.specs.Body.{positive_body, octets_with_length}
use Rattle.fleet_observe.specs.declared.bounds.TheConstants.{LONGEST_BODY}
use Rattle.fleet_observe.proofs.observation.lent.is_positive_body.Given as goal

-- what is left to compare decides
abbrev pub invariant-loop-rdata : goal.invariant-loop-rdata
invariant-loop-rdata g l = record {
  same : (l.octets ≡ positive_body l.rdatas)
      ↔ (l.rest ≡ flat_map octets_with_length (drop l.rdata-index l.rdatas));
  short : length (flat_map octets_with_length (drop l.rdata-index l.rdatas)) ≤ LONGEST_BODY;
}
