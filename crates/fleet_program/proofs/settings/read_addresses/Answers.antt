use Rattle.std.proofs.Common.{◌+◌, drop, sym, subst}
use Rattle.toml.specs.View.{items_view}
use Rattle.fleet_program.proofs.Configurations.{Remains, read_on, read_no_further, all_read}
use Rattle.fleet_program.proofs.settings.read_addresses.Goals as goal

pub returns-in-Err : goal.returns-in-Err
returns-in-Err c = read_no_further (items_view c.args.items.now) c.args.items.now
    c.loop-item.item-index c.item-item.result c.loop-item.addrs.items c.in-Err.fault
    c.loop-item-test.true c.item-item.is c.loop-item.invariant c.in-Err.ensures

pub loop-item-preserved : goal.loop-item-preserved
loop-item-preserved c =
    subst (λ addrs. Remains (items_view c.args.items.now)
    (items_view (drop (c.loop-item.item-index + 1) c.args.items.now)) addrs)
    (sym c.in_default.ensures.items)
    (read_on (items_view c.args.items.now) c.args.items.now c.loop-item.item-index
    c.item-item.result c.loop-item.addrs.items c.in-Ok.addr c.loop-item-test.true
    c.item-item.is c.loop-item.invariant c.in-Ok.ensures)

pub returns : goal.returns
returns c = all_read (items_view c.args.items.now) c.args.items.now c.loop-item.item-index
    c.loop-item.addrs.items c.loop-item-test.false c.loop-item.invariant
