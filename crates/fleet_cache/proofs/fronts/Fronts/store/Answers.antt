use Rattle.std.proofs.Common.{◌≡◌, IfOk, length, sym, ap, ◌∙◌, subst}
use Rattle.std.proofs.lemmas.Result.{on_err_weaker}
use Rattle.fleet_name.specs.Name.{wire}
use Rattle.fleet_cache.specs.Cached.{IsCovered}
use Rattle.fleet_cache.specs.steps.Held.{IsHeld, IsTaken}
use Rattle.fleet_cache.specs.steps.Merged.{merged}
use Rattle.fleet_cache.specs.steps.Packed.{octet_words, words_of, short_words}
use Rattle.fleet_cache.specs.steps.Slots.{items_of}
use Rattle.fleet_cache.proofs.Both.{kept_long, all_taken_short, all_taken_long, free_short, free_long}
use Rattle.fleet_cache.proofs.Packing.{long_more}
use Rattle.fleet_cache.proofs.fronts.Fronts.store.Goals as goal

pub returns-in-Some-clause-taken : goal.returns-in-Some-clause-taken
returns-in-Some-clause-taken g c =
    let i = c.self.invariant in
    let o = c.args.observation in
    let ls = c.self.inside.long.entries in
    let new = c.store.new.fronts.entries in
    let same : short_words c.in-Some.key ≡ words_of o = c.in-Some.ensures.words
    ∙ ap octet_words (c.octets.ensures.octets ∙ ap wire c.name.ensures.value) in
    subst (λ v. IfOk c.store.result (IsTaken v (merged (items_of new) (items_of ls)) o))
    c.self.view_is
    (all_taken_short (λ k. k.items) c.self.inside.short.entries ls i.0 i.1 i.2
    (subst IsHeld (sym c.self.view_is) c.requires) o new (ap length (sym same)) c.store.result
    c.store.ensures.put)

pub returns-in-Some-clause-memory : goal.returns-in-Some-clause-memory
returns-in-Some-clause-memory g c =
    let i = c.self.invariant in
    let o = c.args.observation in
    let same : short_words c.in-Some.key ≡ words_of o = c.in-Some.ensures.words
    ∙ ap octet_words (c.octets.ensures.octets ∙ ap wire c.name.ensures.value) in
    on_err_weaker c.store.result (λ free. subst (λ v. ¬ IsCovered v o) c.self.view_is
    (free_short (λ k. k.items) c.self.inside.short.entries c.self.inside.long.entries i.0 i.1 i.2 o
    (ap length (sym same)) free)) c.store.ensures.memory

pub invariant_of-self-2 : goal.invariant_of-self-2
invariant_of-self-2 g c =
    let i = c.self.invariant in
    let o = c.args.observation in
    let same = ap octet_words (c.octets.ensures.octets ∙ ap wire c.name.ensures.value) in
    let more : length (words_of o) ≡ 4 → ⊥ =
    λ four. long_more c.octets.result.now c.in_default.ensures.words (ap length same ∙ four) in
    kept_long (λ k. k.items) c.self.inside.short.entries c.self.inside.long.entries i.0 i.1 i.2
    (subst IsHeld (sym c.self.view_is) c.requires) o c.store-2.new.fronts.entries more
    c.store-2.result c.store-2.ensures.put c.store-2.ensures.err

pub returns-clause-taken : goal.returns-clause-taken
returns-clause-taken g c =
    let i = c.self.invariant in
    let o = c.args.observation in
    let ss = c.self.inside.short.entries in
    let new = c.store-2.new.fronts.entries in
    let same = ap octet_words (c.octets.ensures.octets ∙ ap wire c.name.ensures.value) in
    let more : length (words_of o) ≡ 4 → ⊥ =
    λ four. long_more c.octets.result.now c.in_default.ensures.words (ap length same ∙ four) in
    subst (λ v. IfOk c.store-2.result (IsTaken v (merged (items_of ss) (items_of new)) o))
    c.self.view_is
    (all_taken_long (λ k. k.items) ss c.self.inside.long.entries i.0 i.1 i.2
    (subst IsHeld (sym c.self.view_is) c.requires) o new more c.store-2.result
    c.store-2.ensures.put)

pub returns-clause-memory : goal.returns-clause-memory
returns-clause-memory g c =
    let i = c.self.invariant in
    let o = c.args.observation in
    let same = ap octet_words (c.octets.ensures.octets ∙ ap wire c.name.ensures.value) in
    let more : length (words_of o) ≡ 4 → ⊥ =
    λ four. long_more c.octets.result.now c.in_default.ensures.words (ap length same ∙ four) in
    on_err_weaker c.store-2.result (λ free. subst (λ v. ¬ IsCovered v o) c.self.view_is
    (free_long (λ k. k.items) c.self.inside.short.entries c.self.inside.long.entries i.0 i.1 i.2 o
    more free)) c.store-2.ensures.memory
