use Rattle.std.proofs.Common.{length, sym, ◌∙◌, subst}
use Rattle.fleet_observe.specs.declared.observation.kind.Kind.TheVariants.{NameError}
use Rattle.fleet_cache.specs.steps.Held.{IsHeld}
use Rattle.fleet_cache.specs.steps.Noted.{HasNoneShorter}
use Rattle.fleet_cache.proofs.Holdings.{noted_longer}
use Rattle.fleet_cache.proofs.held.Held.may_deny_above.Goals as goal

pub returns-clause-none : goal.returns-clause-none
returns-clause-none g c none = subst (HasNoneShorter NameError (length c.args.name.now)) c.self.view_is
    (noted_longer NameError _ c.self.inside.fronts (length c.args.name.now)
    c.self.invariant.1 (sym c.has_shorter_than.ensures ∙ none))

pub returns-clause-own : goal.returns-clause-own
returns-clause-own g c = subst IsHeld c.self.view_is c.self.invariant.0
