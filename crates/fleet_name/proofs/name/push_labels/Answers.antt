use Rattle.std.proofs.Common.{◌≡◌, ◌<◌, [], length, get_or, refl, arith, append_assoc}
use Rattle.fleet_name.specs.Name.{labels_of}
use Rattle.fleet_name.proofs.Spelling.{first_octet, octets_of_first, wire-drop}
use Rattle.fleet_name.proofs.Whole.{label_octets, text_more}
use Rattle.fleet_name.proofs.name.push_labels.Goals as goal

pub split_at-requires : goal.split_at-requires
split_at-requires g c =
    let name = labels_of c.args.octets.now in let k = c.loop.counter in
    let within : k < length name = omega (arith, c.requires.counted) in
    rw (c.loop.invariant.rest, first_octet name k within) (octets_of_first name k within)

pub loop-preserved : goal.loop-preserved
loop-preserved g c =
    let name = labels_of c.args.octets.now in let k = c.loop.counter in
    let within : k < length name = omega (arith, c.requires.counted) in
    let label : c.split_at-in-loop.result.1.now ≡ get_or name k [] =
    rw (
      c.split_at-in-loop.ensures.back,
      c.split_at.ensures.front,
      c.loop.invariant.rest,
      first_octet name k within,
    ) (label_octets name k within) in
    record {
      rest =
          rw (c.split_at.ensures.back, c.loop.invariant.rest, first_octet name k within)
          (wire-drop name k within);
      text =
          rw (
            c.in_ok-push_label.ensures,
            c.loop.invariant.text,
            text_more name k _ within label,
            append_assoc,
          ) refl;
    }
