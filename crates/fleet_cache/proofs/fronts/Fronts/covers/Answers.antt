use Rattle.std.proofs.Common.{◌≡◌, sym, ap, ◌∙◌}
use mathlib.Core.Bool.{false≢true}
use Rattle.fleet_name.specs.Name.{wire}
use Rattle.fleet_cache.specs.Cached.{is_covered}
use Rattle.fleet_cache.specs.steps.Packed.{octet_words, words_of}
use Rattle.fleet_cache.proofs.Both.{key_free, key_covered}
use Rattle.fleet_cache.proofs.Looked.{covered_from, covered_to}
use Rattle.fleet_cache.proofs.fronts.Fronts.covers.Goals as goal

pub returns-in_default : goal.returns-in_default
returns-in_default g c =
    let q = octet_words c.octets.result.now in
    let same : q ≡ words_of c.args.observation.now =
    ap octet_words (c.octets.ensures.octets ∙ ap wire c.name.ensures.value) in (
      (λ h. absurd (false≢true h)),
      λ k. absurd (key_free c.args.self.now q c.args.observation.now c.in_default.ensures.found same
          k),
    )

pub returns : goal.returns
returns g c =
    let o = c.args.observation.now in
    let f = c.in-Some.front.now in
    let q = octet_words c.octets.result.now in
    let same : q ≡ words_of o =
    ap octet_words (c.octets.ensures.octets ∙ ap wire c.name.ensures.value) in
    let known : c.covers_in.result ≡ is_covered f o = c.covers_in.ensures
    ∙ ap (λ v. is_covered v o) c.items.ensures.items in
    let there = key_covered c.args.self.now q f o c.in-Some.ensures.found same in (
      (λ h. there.0 (covered_from f o (sym known ∙ h))),
      λ k. known ∙ covered_to f o (there.1 k),
    )
