use Rattle.std.proofs.Common.{◌≡◌, ◌++◌, take, drop}
use Rattle.std.specs.String.{string_bytes}
use Rattle.std.specs.List.{flat_map}
use Rattle.fleet_name.specs.Name.{wire, labels_of}
use Rattle.fleet_name.specs.Text.{label_text}
use Rattle.fleet_name.proofs.name.push_labels.Given as goal

abbrev pub invariant-loop : goal.invariant-loop
invariant-loop g l = record {
  rest : l.rest ≡ wire (drop l.counter (labels_of l.octets));
  text : string_bytes l.text
      ≡ string_bytes l.fn.text ++ flat_map label_text (take l.counter (labels_of l.octets));
}
