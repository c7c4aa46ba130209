use Rattle.std.proofs.Common.{◌≡◌, ℕ, ◌+◌, ◌++◌, List, length}
use Rattle.std.specs.List.{flat_map}
use Rattle.fleet_observe.specs.Body.{octets_with_length, positive_body}
use Rattle.fleet_gossip.proofs.entry.copy_rdatas.Given as goal

abbrev pub invariant-loop : goal.invariant-loop
invariant-loop g l = record {
  left : List (List ℕ);
  whole : l.reader ≡ flat_map octets_with_length left;
  body : l.fn.body ≡ positive_body (l.rdatas.items ++ left);
  counted : length l.rdatas.items ≡ l.counter;
  all : l.counter + length left ≡ l.count;
}
