use Rattle.std.proofs.Common.{◌++◌, ◌∙◌, List, ℕ, ap, arith}
use Rattle.std.proofs.lemmas.Result.{on_ok_weaker}
use Rattle.fleet_wire.specs.Outline.{whole_octets, cut_octets}
use Rattle.fleet_wire.proofs.Outlines.{written_whole, written_cut}
use Rattle.fleet_wire.proofs.writer.write_reply_into.Goals as goal

pub returns-in-Some : goal.returns-in-Some
returns-in-Some g c =
    let o = c.args.outline.now in
    let fits = c.in-Some.ensures in
    record {
      octets =
          on_ok_weaker c.push_whole.result
          (λ e. e ∙ (ap (λ (x : List ℕ). x ++ whole_octets o) c.truncate.ensures.items
          ∙ written_whole o (omega (arith, fits.size, fits.short))))
          c.push_whole.ensures;
    }

pub returns-in-None : goal.returns-in-None
returns-in-None g c =
    let o = c.args.outline.now in
    record {
      octets =
          on_ok_weaker c.push_cut.result
          (λ e. e ∙ (ap (λ (x : List ℕ). x ++ cut_octets o) c.truncate.ensures.items
          ∙ written_cut o c.in-None.ensures.size))
          c.push_cut.ensures;
    }
