use Rattle.std.proofs.lemmas.Result.{MatchResult-weaker}
use Rattle.fleet_gossip.specs.Entry.{AreBodyOctets}
use Rattle.fleet_gossip.proofs.Parts.{part_taken, part_uncut}
use Rattle.fleet_gossip.proofs.body.read_body.Goals as goal

pub returns : goal.returns
returns c n named is =
    let found = rw c.rest.ensures at (c.in_ok-size.ensures n named is) in let Lawful =
    AreBodyOctets c.args.kind n c.args.rtype in
    MatchResult-weaker c.take.result c.take.ensures (λ r h. part_taken Lawful _ _ found _ _ h)
    (λ f h. absurd (part_uncut Lawful _ _ found f h))
