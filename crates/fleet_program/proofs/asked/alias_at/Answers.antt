use Rattle.std.proofs.Common.{◌<◌, length, arith}
use Rattle.fleet_program.proofs.AliasAt.{has_item}
use Rattle.fleet_program.proofs.asked.alias_at.Goals as goal

pub returns-then-is_alias : goal.returns-then-is_alias
returns-then-is_alias c =
    let xs = c.args.answer.now in let i = c.loop-link.link-index in
    let within : i < length xs = omega arith in
    (has_item xs i _ within c.link-item.is, c.is_alias.ensures c.if-is_alias.true)
