use Rattle.std.proofs.Common.{◌∙◌, sym, refl, ap}
use Rattle.std.proofs.lemmas.Slice.Eq.{slice_eq-Decides}
use Rattle.std.proofs.lemmas.Bool.Decides.{Decides-eqb}
use Rattle.fleet_name.specs.Name.{wire}
use Rattle.fleet_name.proofs.Lemmas.{labels_of-spelled}
use Rattle.fleet_observe.proofs.reply.rrset.is_of_rrset.Goals as goal

pub returns : goal.returns
returns g c =
    let name = c.args.name.now in let owner = c.candidate.inside.name in
    let ok = c.octets.ensures in
    let d = slice_eq-Decides Decides-eqb c.octets.result.now name _ refl in
    rw (← c.candidate.view_is) (
      λ same.
          let e = sym (d.0 (sym c.eq.ensures ∙ same)) ∙ ok.octets in record {
            class = c.if-candidate-ne-IN.false;
            rtype = c.if-candidate-rtype.false;
            typed = c.is_data_type.ensures.0 c.if-not-is_data_type.false;
            owner = sym (labels_of-spelled name owner ok.named.labels e);
          },
      λ b. c.eq.ensures ∙ d.1 (ok.octets ∙ (ap wire b.owner ∙ sym c.requires.whole)),
    )
