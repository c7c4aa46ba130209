use Rattle.std.proofs.Common.{refl, ap, ◌∙◌}
use Rattle.fleet_name.specs.Name.{wire}
use Rattle.fleet_cache.proofs.lookup.is_past.Goals as goal

pub returns-clause-past : goal.returns-clause-past
returns-clause-past g c =
    let o = c.args.observation.now in
    c.hides.ensures ∙ c.cut_at.ensures.cut o.name (c.octets.ensures.octets
    ∙ ap wire c.name.ensures.value) o c.name.ensures.lawful refl
