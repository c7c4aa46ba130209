use Rattle.std.proofs.Common.{refl, arith}
use Rattle.fleet_program.proofs.Numbers.{number_parsed}
use Rattle.fleet_program.proofs.words.number.Goals as goal

pub returns : goal.returns
returns c =
    let digits = rw c.as_bytes.ensures.value at (c.if-not-are_digits.ensures.0 refl) in
    rw c.ok.ensures.value (number_parsed c.args.word.now c.parse.result c.parse.ensures.value.0
    (omega arith) digits)
