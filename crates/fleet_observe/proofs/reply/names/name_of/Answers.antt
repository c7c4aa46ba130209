use Rattle.std.proofs.Common.{sym}
use Rattle.fleet_name.specs.Name.{labels_of}
use Rattle.fleet_name.proofs.Lemmas.{labels_of-spelled}
use Rattle.fleet_observe.proofs.reply.names.name_of.Goals as goal

pub copy_of-requires : goal.copy_of-requires
copy_of-requires g c = record {
  name = labels_of c.args.octets.now;
  named = c.requires.named;
  whole = c.requires.whole;
}

pub returns : goal.returns
returns g c = sym (labels_of-spelled c.args.octets.now c.in_ok-name.name
    c.octets.ensures.named.labels (sym c.in_ok-name.ensures))
