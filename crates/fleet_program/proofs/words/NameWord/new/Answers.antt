use Rattle.fleet_program.proofs.NameWords.{spelled_name}
use Rattle.fleet_program.proofs.words.NameWord.new.Goals as goal

pub returns : goal.returns
returns c = spelled_name c.args.octets (c.spells_name.ensures.0 c.if-not-spells_name.false)
