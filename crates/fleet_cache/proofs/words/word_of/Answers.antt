use Rattle.std.proofs.Common.{◌*◌, ◌<◌, drop, slice_index_or, ap, ◌∙◌, arith, add-one}
use Rattle.std.proofs.lemmas.List.{drop_all}
use Rattle.fleet_cache.specs.declared.words.TheConstants.{WEIGHTS}
use Rattle.fleet_cache.specs.steps.Packed.{weigh}
use Rattle.fleet_cache.proofs.Packed.{weigh_below, are_weights}
use Rattle.fleet_cache.proofs.Packing.{bytes_read, weigh_none, weighed_more}
use Rattle.fleet_cache.proofs.words.word_of.Goals as goal

pub loop-i-init : goal.loop-i-init
loop-i-init c = omega arith

pub overflow_add-word : goal.overflow_add-word
overflow_add-word c =
    let more = weighed_more WEIGHTS c.args.octets.now c.loop-i.i
    (omega (arith, c.requires, c.loop-i-test.true)) c.loop-i-test.true in
    let digit = ap (λ v. v * slice_index_or WEIGHTS c.loop-i.i 0) c.from.ensures in
    let most : weigh WEIGHTS c.args.octets.now < 18446744073709551616 =
    weigh_below 72057594037927936 (drop 1 WEIGHTS) are_weights.0 c.args.octets.now
    (bytes_read c.args.octets.now c.type_inv.octets) in
    grind (arith, more, c.from.ensures, digit, most, c.loop-i.invariant, c.loop-i-test.true, c.requires)

pub loop-i-preserved : goal.loop-i-preserved
loop-i-preserved c =
    let more = weighed_more WEIGHTS c.args.octets.now c.loop-i.i
    (omega (arith, c.requires, c.loop-i-test.true)) c.loop-i-test.true in
    let digit = ap (λ v. v * slice_index_or WEIGHTS c.loop-i.i 0) c.from.ensures in
    let next = ap (λ j. weigh (drop j WEIGHTS) (drop j c.args.octets.now)) (add-one c.loop-i.i) in
    grind (arith, more, c.from.ensures, digit, next, c.loop-i.invariant, c.loop-i-test.true, c.requires)

pub returns : goal.returns
returns c =
    let none = ap (weigh (drop c.loop-i.i WEIGHTS))
    (drop_all c.loop-i.i c.args.octets.now c.loop-i-test.false)
    ∙ weigh_none (drop c.loop-i.i WEIGHTS) in
    omega (arith, none, c.loop-i.invariant)
