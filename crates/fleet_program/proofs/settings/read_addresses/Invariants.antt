use Rattle.std.proofs.Common.{drop}
use Rattle.toml.specs.View.{items_view}
use Rattle.fleet_program.proofs.Configurations.{Remains}
use Rattle.fleet_program.proofs.settings.read_addresses.Given as goal

abbrev pub invariant-loop-item : goal.invariant-loop-item
invariant-loop-item l = Remains (items_view l.fn.items) (items_view (drop l.item-index l.items))
    l.addrs.items
