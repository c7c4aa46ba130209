use Rattle.std.proofs.Common.{◌≡◌, ◌<◌, ◌≤◌, ◌-◌, ◌*◌, ◌++◌, length, refl, sym, ap, ◌∙◌, subst, arith}
use Rattle.std.proofs.lemmas.Bool.Decides.{nat_tests}
use Rattle.std.proofs.lemmas.List.{length-take}
use Rattle.fleet_cache.specs.declared.words.TheConstants.{MOST_WORDS, WORD_OCTETS}
use Rattle.fleet_cache.specs.steps.Packed.{octet_words_within}
use Rattle.fleet_cache.proofs.Packing.{bytes_read, first_weighed, words_so_far, all_packed, last_packed, long_packed}
use Rattle.fleet_cache.proofs.words.pack.Goals as goal

pub loop-first-init : goal.loop-first-init
loop-first-init c = rw c.new-words.ensures (refl, omega (arith, c.requires.fits))

pub loop-first-preserved : goal.loop-first-preserved
loop-first-preserved c =
    let rest = c.loop-first.rest.now in
    let new = c.push.new.self.items in
    let cases = c.in-Some.ensures.cases in
    let many : 8 ≤ length rest = omega (arith, cases.2) in
    let eight = ap length cases.0 ∙ length-take 8 rest in
    let word = first_weighed rest c.from_be_bytes.result c.in-Some.first.now
    c.from_be_bytes.ensures cases.0 (grind (arith, nat_tests, eight, many)) in
    subst (λ v. (octet_words_within MOST_WORDS c.args.octets.now
    ≡ new ++ octet_words_within (MOST_WORDS - length new) v)
    × (length v ≤ WORD_OCTETS * (MOST_WORDS - length new))) (sym cases.1)
    (words_so_far c.args.octets.now c.loop-first.words.items new rest c.from_be_bytes.result
    c.loop-first.invariant.0 c.loop-first.invariant.1 (omega (arith, many)) word
    c.push.ensures.items)

pub returns-then-is_empty-clause-words : goal.returns-then-is_empty-clause-words
returns-then-is_empty-clause-words c =
    let none : length c.loop-first.rest.now ≡ 0 =
    grind (arith, nat_tests, c.is_empty.ensures, c.if-is_empty.true) in
    all_packed c.args.octets.now c.loop-first.words.items c.loop-first.rest.now
    c.loop-first.invariant.0 none ∙ long_packed c.args.octets.now c.requires.long

pub returns-then-is_empty-clause-bytes : goal.returns-then-is_empty-clause-bytes
returns-then-is_empty-clause-bytes c = bytes_read c.args.octets.now c.type_inv.octets

pub returns-clause-words : goal.returns-clause-words
returns-clause-words c =
    let rest = c.loop-first.rest.now in
    let some : 0 < length rest =
    grind (arith, nat_tests, c.is_empty.ensures, c.if-is_empty.false) in
    let few : length rest < 8 = c.in_default.ensures.cases in
    last_packed c.args.octets.now c.loop-first.words.items c.push-2.new.self.items rest
    c.word_of.result c.loop-first.invariant.0 c.loop-first.invariant.1 some
    (omega (arith, few)) c.word_of.ensures c.push-2.ensures.items
    ∙ long_packed c.args.octets.now c.requires.long

pub returns-clause-bytes : goal.returns-clause-bytes
returns-clause-bytes c = bytes_read c.args.octets.now c.type_inv.octets
