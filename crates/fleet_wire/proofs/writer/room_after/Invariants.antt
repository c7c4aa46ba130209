use Rattle.std.proofs.Common.{◌≡◌, ◌+◌, length, drop}
use Rattle.fleet_wire.specs.steps.LentRecord.{records_of_lent}
use Rattle.fleet_wire.specs.Outline.{section_octets}
use Rattle.fleet_wire.proofs.writer.room_after.Given as goal

abbrev pub invariant-loop-line : goal.invariant-loop-line
invariant-loop-line l =
    l.left + length (section_octets (records_of_lent l.lines))
    ≡ l.room + length (section_octets (records_of_lent (drop l.line-index l.lines)))
