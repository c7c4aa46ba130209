use Rattle.std.proofs.Common.{◌<◌, length, arith}
use Rattle.fleet_name.specs.Name.{labels_of}
use Rattle.fleet_name.proofs.Spelling.{first_octet, octets_of_first, wire-drop}
use Rattle.fleet_name.proofs.name.after_labels.Goals as goal

pub split_at-requires : goal.split_at-requires
split_at-requires c =
    let name = labels_of c.args.octets.now in let k = c.loop.counter in
    let within : k < length name = omega (arith, c.requires.within) in
    rw (c.loop.invariant, first_octet name k within) (octets_of_first name k within)

pub loop-preserved : goal.loop-preserved
loop-preserved c =
    let name = labels_of c.args.octets.now in let k = c.loop.counter in
    let within : k < length name = omega (arith, c.requires.within) in
    rw (c.split_at.ensures.back, c.loop.invariant, first_octet name k within)
    (wire-drop name k within)
