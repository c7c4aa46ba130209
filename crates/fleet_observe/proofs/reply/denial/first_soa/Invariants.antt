use Rattle.std.proofs.Common.{take}
use Rattle.fleet_wire.specs.Record.{RecordData}
use Rattle.fleet_observe.specs.Members.{Has}
use Rattle.fleet_observe.specs.DigestOf.{IsSoaRecord}
use Rattle.fleet_observe.proofs.reply.denial.first_soa.Given as goal

abbrev pub invariant-loop-record : goal.invariant-loop-record
invariant-loop-record g l = (r : RecordData) → Has (take l.record-index l.authority) r
    → ¬ IsSoaRecord r
