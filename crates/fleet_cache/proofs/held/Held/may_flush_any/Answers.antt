use Rattle.std.proofs.Common.{sym, ◌∙◌, subst}
use Rattle.fleet_observe.specs.declared.observation.kind.Kind.TheVariants.{Flush}
use Rattle.fleet_cache.specs.declared.noted.TheConstants.{LENGTHS}
use Rattle.fleet_cache.specs.steps.Held.{IsHeld}
use Rattle.fleet_cache.specs.steps.Noted.{HasNoneShorter}
use Rattle.fleet_cache.proofs.Holdings.{noted_longer}
use Rattle.fleet_cache.proofs.held.Held.may_flush_any.Goals as goal

pub returns-clause-none : goal.returns-clause-none
returns-clause-none g c none = subst (HasNoneShorter Flush LENGTHS) c.self.view_is
    (noted_longer Flush _ c.self.inside.fronts LENGTHS c.self.invariant.2
    (sym c.has_any.ensures ∙ none))

pub returns-clause-own : goal.returns-clause-own
returns-clause-own g c = subst IsHeld c.self.view_is c.self.invariant.0
