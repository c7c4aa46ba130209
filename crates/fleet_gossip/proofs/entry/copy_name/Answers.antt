use Rattle.fleet_name.proofs.Lemmas.{wire_exact}
use Rattle.std.proofs.Common.{◌∙◌}
use Rattle.fleet_gossip.proofs.entry.copy_name.Goals as goal

pub returns : goal.returns
returns g c n named is = wire_exact _ n (c.in_ok-name.ensures ∙ is)
