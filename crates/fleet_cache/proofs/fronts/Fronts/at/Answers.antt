use Rattle.std.proofs.Common.{◌≡◌, MatchOption, ap, ◌∙◌, subst}
use Rattle.std.specs.Map.{lookup}
use Rattle.std.specs.Ordering.{is_eq}
use Rattle.fleet_observe.specs.Preference.{octets_cmp}
use Rattle.fleet_cache.specs.steps.Keyed.{HasNoKey, IsOfKey}
use Rattle.fleet_cache.specs.steps.Packed.{octet_words}
use Rattle.fleet_cache.proofs.Both.{look_short, look_long}
use Rattle.fleet_cache.proofs.Packing.{long_more}
use Rattle.fleet_cache.proofs.fronts.Fronts.at.Goals as goal

pub returns-in-Some-clause-found : goal.returns-in-Some-clause-found
returns-in-Some-clause-found g c =
    let q = octet_words c.args.name.now in
    let i = c.self.invariant in
    subst (λ v. MatchOption c.get.result (HasNoKey v q) (λ f. IsOfKey v q f.now)) c.self.view_is
    (look_short (λ k. k.items) c.self.inside.short.entries c.self.inside.long.entries i.0 i.1 i.2
    c.in-Some.key q c.in-Some.ensures.words c.get.result c.get.ensures.value)

pub returns-clause-found : goal.returns-clause-found
returns-clause-found g c =
    let q = octet_words c.args.name.now in
    let i = c.self.invariant in
    let same : c.as_slice.result.now ≡ q = c.as_slice.ensures.value ∙ c.pack-words.ensures.words in
    subst (λ v. MatchOption c.get-2.result (HasNoKey v q) (λ f. IsOfKey v q f.now)) c.self.view_is
    (look_long (λ k. k.items) c.self.inside.short.entries c.self.inside.long.entries i.0 i.1 i.2 q
    (long_more c.args.name.now c.in_default.ensures.words) c.get-2.result
    (c.get-2.ensures.value ∙ ap (λ w. lookup (λ k. is_eq (octets_cmp w k.items))
    c.self.inside.long.entries) same))
