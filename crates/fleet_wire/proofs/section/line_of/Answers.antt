use Rattle.std.proofs.Common.{ℕ, List, ◌∙◌, ap, sym}
use Rattle.fleet_name.specs.Name.{wire}
use Rattle.fleet_wire.specs.Outline.{line}
use Rattle.fleet_name.proofs.Lemmas.{labels_of-spelled}
use Rattle.fleet_wire.proofs.section.line_of.Goals as goal

pub invariant_of-result : goal.invariant_of-result
invariant_of-result g c =
    let named = c.octets.ensures in
    record {
      spells =
          named.octets
          ∙ ap wire (sym
          (labels_of-spelled c.octets.result.now c.args.name.now named.named.labels named.octets));
    }

pub returns-clause-line : goal.returns-clause-line
returns-clause-line g c =
    let named = c.octets.ensures in
    ap (λ (n : List (List ℕ)). line n c.args.rtype c.args.ttl c.args.rdata.now)
    (labels_of-spelled c.octets.result.now c.args.name.now named.named.labels named.octets)
