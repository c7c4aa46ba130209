use Rattle.fleet_observe.proofs.Walks.{ends_not_on}
use Rattle.fleet_observe.proofs.reply.walk.found_at.Goals as goal

pub returns-in-Alias : goal.returns-in-Alias
returns-in-Alias g c = absurd (ends_not_on _ _ _ _ c.requires.ends c.in-Alias.ensures.goes)

pub returns-in-Fork : goal.returns-in-Fork
returns-in-Fork g c = absurd (c.in-Fork.ensures.endless c.requires.ends)
