use Rattle.std.proofs.Common.{◌∙◌, sym}
use Rattle.fleet_wire.proofs.Records.{one_question}
use Rattle.fleet_wire.proofs.laws.one_query.Goals as goal

pub returns : goal.returns
returns c m h k a b x y one two =
    let same = one_question m 12 a b x y one.question two.question in
    (one.header ∙ sym two.header, same.0, same.1)
