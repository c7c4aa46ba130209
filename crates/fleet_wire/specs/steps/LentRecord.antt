-- A lent record, a line of an outline, without where it lies in memory.
-- Serves the sections of `Outline`, and their writers in `write_reply` and `write_reply_into`.
use Rattle.std.specs.Prelude.{List, map}
use Rattle.fleet_name.specs.Name.{labels_of}
use Rattle.fleet_wire.specs.Record.{RecordData}
use Rattle.fleet_wire.specs.Outline.{line}
use Rattle.fleet_wire.specs.declared.lent_record.LentRecord.{LentRecord}

-- the record that is lent
abbrev pub record_of_lent : LentRecord → RecordData
record_of_lent l = line (labels_of l.owner.now) l.rtype l.ttl l.rdata.now

-- the records that are lent, in their order
abbrev pub records_of_lent : List LentRecord → List RecordData
records_of_lent ls = map record_of_lent ls
