use Rattle.std.proofs.Common.{arith}
use Rattle.fleet_name.proofs.Spelling.{lower_more}
use Rattle.fleet_name.proofs.name.lower_octets.Goals as goal

pub loop-octet-preserved : goal.loop-octet-preserved
loop-octet-preserved c =
    rw c.to_ascii_lowercase.ensures.value
    (lower_more c.args.octets.now c.loop-octet.octet-index c.loop-octet.octets (omega arith)
    c.loop-octet.invariant)
