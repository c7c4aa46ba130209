use Rattle.std.proofs.Common.{◌≡◌, List, length}
use Rattle.fleet_wire.specs.Record.{RecordData, RecordsAt}
use Rattle.fleet_wire.proofs.record.records_end.Given as goal

abbrev pub invariant-loop : goal.invariant-loop
invariant-loop l = record {
  before : List RecordData;
  found : RecordsAt l.message l.offset before l.at;
  counted : length before ≡ l.counter;
}
