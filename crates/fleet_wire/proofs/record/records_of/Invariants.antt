use Rattle.std.proofs.Common.{◌≡◌, ◌-◌, length}
use Rattle.fleet_wire.specs.Record.{RecordsAt, HasRecords}
use Rattle.fleet_wire.proofs.record.records_of.Given as goal

-- the records so far, and those that are left
abbrev pub invariant-loop : goal.invariant-loop
invariant-loop g l = record {
  found : RecordsAt l.message l.offset l.records.items l.at;
  counted : length l.records.items ≡ l.counter;
  rest : HasRecords l.message l.at (l.count - l.counter);
}
