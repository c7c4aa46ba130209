use Rattle.std.proofs.Common.{◌∷◌, Some, None, sym, ap, ◌∙◌}
use Rattle.fleet_cache.proofs.Looked.{first_is_best}
use Rattle.fleet_cache.proofs.lookup.preferred_of.Goals as goal

pub returns-in_default : goal.returns-in_default
returns-in_default g c items n lives of shows =
    first_is_best c.args.kind c.args.rtype items c.args.here.now n lives c.args.cut.now of shows
    None c.in_default.ensures

pub returns : goal.returns
returns g c items n lives of shows =
    first_is_best c.args.kind c.args.rtype items c.args.here.now n lives c.args.cut.now of shows
    (Some c.observation.result) (
      c.in-Some.ensures.0,
      c.in-Some.ensures.1 ∙ ap (λ v. v ∷ c.in-Some.ensures.0) (sym c.observation.ensures),
    )
