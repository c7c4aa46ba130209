use Rattle.std.proofs.Common.{◌≡◌, length, drop}
use Rattle.std.specs.List.{flat_map}
use Rattle.fleet_observe.specs.Body.{positive_body, octets_with_length}
use Rattle.fleet_observe.specs.Preference.{octets_cmp}
use Rattle.fleet_observe.proofs.observation.order.rdatas_order.Given as goal

-- the bodies compare as what lies from the index on does
abbrev pub invariant-loop-i : goal.invariant-loop-i
invariant-loop-i g l = record {
  many : length l.rdatas ≡ length l.others;
  same : octets_cmp (positive_body l.rdatas) (positive_body l.others) ≡ octets_cmp
      (flat_map octets_with_length (drop l.i l.rdatas))
      (flat_map octets_with_length (drop l.i l.others));
}
