use Rattle.std.proofs.Common.{sym, refl, subst}
use Rattle.fleet_cache.specs.steps.Held.{IsHeld}
use Rattle.fleet_cache.specs.steps.Merged.{merged}
use Rattle.fleet_cache.specs.steps.Packed.{short_words}
use Rattle.fleet_cache.specs.steps.Reclaimed.{IsTrimmed, IsCleared}
use Rattle.fleet_cache.specs.steps.Slots.{items_of}
use Rattle.fleet_cache.proofs.Both.{trimmed_short, held_short, cleared_short, trimmed_still, trimmed_long, held_long, cleared_long}
use Rattle.fleet_cache.proofs.fronts.Fronts.trim.Goals as goal

pub returns-in-Some-clause-trimmed : goal.returns-in-Some-clause-trimmed
returns-in-Some-clause-trimmed g c =
    let i = c.self.invariant in
    let ss = c.self.inside.short.entries in
    let ls = c.self.inside.long.entries in
    let new = c.drop_hidden.new.fronts.entries in
    let cut = c.args.cut.now in
    subst (λ w. IsTrimmed w cut c.args.self.now (merged (items_of new) (items_of ls)))
    c.in-Some.ensures
    (subst (λ v. IsTrimmed (short_words c.in-Some.key) cut v (merged (items_of new) (items_of ls)))
    c.self.view_is (trimmed_short (λ k. k.items) ss ls i.0 i.1 i.2 new c.drop_hidden.ensures.laid
    (short_words c.in-Some.key) cut c.drop_hidden.ensures.trimmed))

pub returns-in-Some-clause-held : goal.returns-in-Some-clause-held
returns-in-Some-clause-held g c =
    let i = c.self.invariant in
    held_short (λ k. k.items) c.self.inside.short.entries c.self.inside.long.entries i.0 i.1 i.2
    c.drop_hidden.new.fronts.entries c.drop_hidden.ensures.laid (short_words c.in-Some.key)
    c.args.cut.now c.drop_hidden.ensures.trimmed (subst IsHeld (sym c.self.view_is) c.requires)

pub returns-in-Some-clause-cleared : goal.returns-in-Some-clause-cleared
returns-in-Some-clause-cleared g c =
    let i = c.self.invariant in
    let ls = c.self.inside.long.entries in
    let new = c.drop_hidden.new.fronts.entries in
    subst (λ w. IsCleared w c.args.cut.now (merged (items_of new) (items_of ls)))
    c.in-Some.ensures
    (cleared_short (λ k. k.items) c.self.inside.short.entries ls i.0 i.1 i.2 new
    c.drop_hidden.ensures.laid (short_words c.in-Some.key) c.args.cut.now
    c.drop_hidden.ensures.trimmed refl c.drop_hidden.ensures.cleared)

pub invariant_of-self-2 : goal.invariant_of-self-2
invariant_of-self-2 g c =
    let i = c.self.invariant in (
      i.0,
      c.drop_hidden-2.ensures.laid,
      trimmed_still (λ k. k.items) c.self.inside.short.entries c.self.inside.long.entries i.0 i.1
          i.2 c.drop_hidden-2.new.fronts.entries c.drop_hidden-2.ensures.laid c.args.words.now
          c.args.cut.now c.drop_hidden-2.ensures.trimmed,
    )

pub returns-clause-held : goal.returns-clause-held
returns-clause-held g c =
    let i = c.self.invariant in
    held_long (λ k. k.items) c.self.inside.short.entries c.self.inside.long.entries i.0 i.1 i.2
    c.drop_hidden-2.new.fronts.entries c.drop_hidden-2.ensures.laid c.args.words.now
    c.args.cut.now c.drop_hidden-2.ensures.trimmed (subst IsHeld (sym c.self.view_is) c.requires)

pub returns-clause-trimmed : goal.returns-clause-trimmed
returns-clause-trimmed g c =
    let i = c.self.invariant in
    let ss = c.self.inside.short.entries in
    let new = c.drop_hidden-2.new.fronts.entries in
    subst (λ v. IsTrimmed c.args.words.now c.args.cut.now v (merged (items_of ss) (items_of new)))
    c.self.view_is
    (trimmed_long (λ k. k.items) ss c.self.inside.long.entries i.0 i.1 i.2 new
    c.drop_hidden-2.ensures.laid c.args.words.now c.args.cut.now c.drop_hidden-2.ensures.trimmed)

pub returns-clause-cleared : goal.returns-clause-cleared
returns-clause-cleared g c =
    let i = c.self.invariant in
    cleared_long (λ k. k.items) c.self.inside.short.entries c.self.inside.long.entries i.0 i.1 i.2
    c.drop_hidden-2.new.fronts.entries c.drop_hidden-2.ensures.laid c.args.words.now
    c.args.cut.now c.drop_hidden-2.ensures.trimmed c.in_default.ensures
    c.drop_hidden-2.ensures.cleared
