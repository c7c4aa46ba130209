use Rattle.std.proofs.Common.{List}
use Rattle.fleet_observe.specs.Observation.{ObservationData}
use Rattle.fleet_gossip.specs.steps.Reading.{BeginsWithEntries}
use Rattle.fleet_gossip.proofs.frame.check_entries.Given as goal

abbrev pub invariant-loop : goal.invariant-loop
invariant-loop l = record {
  list : List ObservationData;
  are : BeginsWithEntries l.entries.octets.now l.entries.version l.counter list l.reader;
}
