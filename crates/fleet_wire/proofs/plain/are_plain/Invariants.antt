use Rattle.std.proofs.Common.{drop}
use Rattle.fleet_wire.specs.Shape.{ArePlain}
use Rattle.fleet_wire.proofs.plain.are_plain.Given as goal

abbrev pub invariant-loop-part : goal.invariant-loop-part
invariant-loop-part l = record {
  yes : ArePlain (drop l.part-index l.parts) l.rest → ArePlain l.parts l.octets;
  no : ArePlain l.parts l.octets → ArePlain (drop l.part-index l.parts) l.rest;
}
