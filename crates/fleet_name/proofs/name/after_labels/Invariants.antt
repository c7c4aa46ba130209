use Rattle.std.proofs.Common.{◌≡◌, drop}
use Rattle.fleet_name.specs.Name.{wire, labels_of}
use Rattle.fleet_name.proofs.name.after_labels.Given as goal

abbrev pub invariant-loop : goal.invariant-loop
invariant-loop l = l.rest ≡ wire (drop l.counter (labels_of l.octets))
