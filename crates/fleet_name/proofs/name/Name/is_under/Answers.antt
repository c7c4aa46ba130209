use Rattle.std.proofs.Common.{◌≡◌, ◌-◌, ◌∙◌, length, drop, sym, refl}
use Rattle.std.proofs.lemmas.Slice.Eq.{slice_eq-Decides}
use Rattle.std.proofs.lemmas.Bool.Decides.{Decides-eqb}
use Rattle.fleet_name.specs.Name.{wire}
use Rattle.fleet_name.proofs.Spelling.{under_from_octets, octets_from_under}
use Rattle.fleet_name.proofs.name.Name.is_under.Goals as goal

pub returns : goal.returns
returns g c =
    let d = slice_eq-Decides Decides-eqb _ _ _ c.eq.ensures in let a = c.octets.ensures in
    let k : c.self.inside.labels - c.ancestor.inside.labels
    ≡ length c.args.self.now - length c.args.ancestor.now =
    rw (c.self.invariant.counted, c.ancestor.invariant.counted, c.self.view_is, c.ancestor.view_is)
    refl in
    let is : c.after_labels.result.now
    ≡ wire (drop (length c.args.self.now - length c.args.ancestor.now) c.args.self.now) =
    rw (c.after_labels.ensures, k, c.deref.ensures.value, c.self.view_is) refl in (
      λ t. under_from_octets _ _ _ (sym is ∙ (d.0 t ∙ a.octets)),
      λ u. d.1 (is ∙ (octets_from_under _ _ u ∙ sym a.octets)),
    )
