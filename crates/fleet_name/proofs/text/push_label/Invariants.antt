use Rattle.std.proofs.Common.{◌≡◌, ◌++◌, take}
use Rattle.std.specs.String.{string_bytes}
use Rattle.std.specs.List.{flat_map}
use Rattle.fleet_name.specs.Text.{octet_text}
use Rattle.fleet_name.proofs.text.push_label.Given as goal

abbrev pub invariant-loop-octet : goal.invariant-loop-octet
invariant-loop-octet g l =
    string_bytes l.text ≡ string_bytes l.fn.text ++ flat_map octet_text (take l.octet-index l.label)
