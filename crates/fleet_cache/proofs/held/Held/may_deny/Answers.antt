use Rattle.std.proofs.Common.{length, sym, ◌∙◌, subst}
use Rattle.fleet_observe.specs.declared.observation.kind.Kind.TheVariants.{NameError}
use Rattle.fleet_cache.specs.steps.Noted.{HasNone}
use Rattle.fleet_cache.proofs.Holdings.{noted_none}
use Rattle.fleet_cache.proofs.held.Held.may_deny.Goals as goal

pub returns : goal.returns
returns g c none = subst (HasNone NameError (length c.args.name.now)) c.self.view_is
    (noted_none NameError _ c.self.inside.fronts (length c.args.name.now)
    c.self.invariant.1 (sym c.has_length_of.ensures ∙ none))
