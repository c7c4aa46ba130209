use Rattle.std.proofs.Common.{◌≤◌, drop, length, ap, ◌∙◌, arith}
use Rattle.fleet_cache.specs.declared.words.TheConstants.{WEIGHTS}
use Rattle.fleet_cache.specs.steps.Packed.{weigh}
use Rattle.fleet_cache.proofs.Packing.{bytes_read, short_packed}
use Rattle.fleet_cache.proofs.words.short_key.Goals as goal

pub returns-clause-words : goal.returns-clause-words
returns-clause-words c =
    let few : length c.args.octets.now ≤ 32 = omega (arith, c.if-octets.false) in
    let second = c.next_word-first.ensures.rest in
    let third = c.next_word-second.ensures.rest ∙ ap (drop 8) second in
    let fourth = c.next_word-third.ensures.rest ∙ ap (drop 8) third in
    rw (
      c.next_word-first.ensures.word,
      c.next_word-second.ensures.word ∙ ap (weigh WEIGHTS) second,
      c.next_word-third.ensures.word ∙ ap (weigh WEIGHTS) third,
      c.next_word-fourth.ensures.word ∙ ap (weigh WEIGHTS) fourth,
    ) (short_packed c.args.octets.now few)

pub returns-clause-bytes : goal.returns-clause-bytes
returns-clause-bytes c = bytes_read c.args.octets.now c.type_inv.octets
