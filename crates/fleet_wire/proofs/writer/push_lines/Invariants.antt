use Rattle.std.proofs.Common.{◌≡◌, ◌≤◌, ◌++◌, length, drop}
use Rattle.fleet_wire.specs.steps.LentRecord.{records_of_lent}
use Rattle.fleet_wire.specs.Outline.{section_octets}
use Rattle.fleet_wire.specs.declared.bounds.TheConstants.{LONGEST_MESSAGE}
use Rattle.fleet_wire.proofs.writer.push_lines.Given as goal

abbrev pub invariant-loop-line : goal.invariant-loop-line
invariant-loop-line g l = record {
  written : l.out.items ++ section_octets (records_of_lent (drop l.line-index l.lines))
      ≡ l.fn.out.items ++ section_octets (records_of_lent l.lines);
  short : length (section_octets (records_of_lent (drop l.line-index l.lines))) ≤ LONGEST_MESSAGE;
}
