use Rattle.std.proofs.Common.{◌↔◌, drop}
use Rattle.toml.specs.View.{items_view}
use Rattle.fleet_program.specs.Configuration.{AreTexts}
use Rattle.fleet_program.proofs.settings.are_texts.Given as goal

abbrev pub invariant-loop-item : goal.invariant-loop-item
invariant-loop-item l =
    AreTexts (items_view (drop l.item-index l.items)) ↔ AreTexts (items_view l.items)
