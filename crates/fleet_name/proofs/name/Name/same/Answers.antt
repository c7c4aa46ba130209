use Rattle.std.proofs.Common.{◌∙◌, sym, ap}
use Rattle.std.proofs.lemmas.Slice.Eq.{slice_eq-Decides}
use Rattle.std.proofs.lemmas.Bool.Decides.{Decides-eqb}
use Rattle.fleet_name.specs.Name.{wire}
use Rattle.fleet_name.proofs.Lemmas.{wire_exact}
use Rattle.fleet_name.proofs.name.Name.same.Goals as goal

pub returns : goal.returns
returns g c =
    let d = slice_eq-Decides Decides-eqb _ _ _ c.eq.ensures in
    let a = c.octets.ensures in
    let b = c.octets-2.ensures in (
      λ t. wire_exact _ _ (sym a.octets ∙ (d.0 t ∙ b.octets)),
      λ e. d.1 (a.octets ∙ (ap wire e ∙ sym b.octets)),
    )
