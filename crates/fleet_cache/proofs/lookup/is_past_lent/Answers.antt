use Rattle.std.proofs.Common.{refl, ◌∙◌}
use Rattle.fleet_cache.proofs.lookup.is_past_lent.Goals as goal

pub returns-clause-past : goal.returns-clause-past
returns-clause-past g c = λ o is lawful.
    c.hides_lent.ensures o is ∙ c.cut_at.ensures.cut o.name is.named o lawful refl
