use Rattle.std.proofs.Common.{◌≡◌, ◌∙◌, ℕ, List, Option, Some, None, Bor, length, slice_get, refl, sym, ap}
use Rattle.std.specs.Option.{option_copied}
use Rattle.std.specs.Slice.{IsItemAt}
use Rattle.std.proofs.lemmas.Option.{slice_get_past, slice_get_read}
use Rattle.fleet_world.specs.WorldData.{WorldData}
use Rattle.fleet_world.proofs.world.World.site.Goals as goal

-- what is lent of a place is what is there
looked : {X : Type 0} (r : Option (Bor X)) (xs : List X) (i : ℕ) → IsItemAt xs i r
    → option_copied r ≡ slice_get xs i
looked None xs i h = sym (slice_get_past xs i h.3)
looked (Some x) xs i h = sym (slice_get_read xs (length xs) i x.now refl h.3.0 h.1)

pub returns : goal.returns
returns g c = record {
  found = looked c.get.result c.deref.result.now c.args.site c.get.ensures.lookup
      ∙ (ap (λ xs. slice_get xs c.args.site) c.deref.ensures.value
      ∙ ap (λ (w : WorldData). slice_get w.sites c.args.site) c.self.view_is);
}
