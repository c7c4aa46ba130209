use Rattle.std.proofs.Common.{refl, sym, ap, ◌∙◌}
use Rattle.fleet_name.specs.Name.{wire}
use Rattle.fleet_name.proofs.Lemmas.{labels_of-spelled}
use Rattle.fleet_wire.proofs.question.Question.lend.Goals as goal

pub invariant_of-result : goal.invariant_of-result
invariant_of-result g c =
    let name = c.octets-name.ensures in
    let is = labels_of-spelled c.octets-name.result.now c.self.inside.name name.named.labels name.octets in
    record {
      spells = rw c.as_slice-spelled.ensures (c.self.invariant ∙ sym name.octets);
      whole = name.octets ∙ ap wire (sym is);
      named = rw is name.named;
    }

pub returns : goal.returns
returns g c =
    let name = c.octets-name.ensures in
    let q = c.self.inside in
    let is = labels_of-spelled c.octets-name.result.now q.name name.named.labels name.octets in
    rw (← c.self.view_is, is, c.as_slice-spelled.ensures) refl
