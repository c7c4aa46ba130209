use Rattle.std.proofs.Common.{ap, ◌∙◌}
use Rattle.fleet_cache.specs.steps.Merged.{merged}
use Rattle.fleet_cache.specs.steps.Slots.{items_of, concat}
use Rattle.fleet_cache.proofs.Slots.{joined_values}
use Rattle.fleet_cache.proofs.fronts.Fronts.both.Goals as goal

pub returns : goal.returns
returns g c =
    let short = ap concat c.values.ensures.rest ∙ joined_values c.self.inside.short.entries in
    let long = ap concat c.values-2.ensures.rest ∙ joined_values c.self.inside.long.entries in
    ap (λ v. merged v (concat c.values-2.result)) short
    ∙ (ap (merged (items_of c.self.inside.short.entries)) long ∙ c.self.view_is)
