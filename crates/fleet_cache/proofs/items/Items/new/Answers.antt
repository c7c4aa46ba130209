use Rattle.std.proofs.Common.{ap, ◌∙◌}
use Rattle.std.specs.List.{filter}
use Rattle.fleet_cache.specs.Live.{is_live}
use Rattle.fleet_cache.proofs.items.Items.new.Goals as goal

pub returns-clause-items : goal.returns-clause-items
returns-clause-items g c =
    ap (filter (is_live c.args.held.now c.args.floor)) (c.new.ensures ∙ c.both.ensures.items)
