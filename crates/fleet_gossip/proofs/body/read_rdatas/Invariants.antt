use Rattle.std.proofs.Common.{◌≡◌, ◌++◌, [], ℕ, List, length}
use Rattle.std.specs.Prelude.{MatchOption}
use Rattle.std.specs.List.{flat_map}
use Rattle.fleet_observe.specs.Body.{octets_with_length, positive_body}
use Rattle.fleet_gossip.specs.Entry.{AreFirstRdatas}
use Rattle.fleet_gossip.specs.steps.Reading.{HasLast}
use Rattle.fleet_gossip.proofs.body.read_rdatas.Given as goal

abbrev pub invariant-loop : goal.invariant-loop
invariant-loop l = record {
  before : List (List ℕ);
  first : AreFirstRdatas l.rtype before;
  ends : MatchOption l.last (before ≡ []) (λ r. HasLast before r.now);
  whole : l.fn.reader ≡ flat_map octets_with_length before ++ l.reader;
  counted : length before ≡ l.counter;
  size : l.size ≡ length (positive_body before);
}
