use Rattle.std.proofs.Common.{lit<, ◌==◌}
use Rattle.std.specs.List.{slice_split}
use Rattle.std.proofs.lemmas.Iterator.Splits.{YieldsList-from_str_split}
use Rattle.fleet_program.proofs.FirstWords.{all_from_extend, short_take}
use Rattle.std.proofs.lemmas.Iterator.{YieldsList-from_take}
use Rattle.std.proofs.lemmas.Iterator.Consumers.{YieldsList-at}
use Rattle.fleet_program.proofs.command.first_words.Goals as goal

pub returns : goal.returns
returns c =
    let words = slice_split (λ octet. octet == 32) c.args.line.now
    in let ran = c.extend.ensures.ran
    in all_from_extend {s = c.take.result} 7 c.extend.result ran.0 ran.1 _ _
    (YieldsList-from_take 7 (YieldsList-at c.take.ensures.source
    (YieldsList-from_str_split 32 c.args.line.now (lit< tt) c.split.ensures.text c.split.ensures.has_more c.split.ensures.pattern))
    c.take.ensures.count)
    ran.2 ran.4 c.new-words.ensures ran.3 (short_take 7 words) c.extend.ensures.full
