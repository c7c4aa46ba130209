use Rattle.std.proofs.Common.{◌≡◌, take}
use Rattle.fleet_name.specs.Name.{labels_of}
use Rattle.fleet_observe.specs.RrSet.{SpellsName}
use Rattle.fleet_observe.specs.Digest.{denied_by}
use Rattle.fleet_observe.proofs.reply.observations.denied_at.Given as goal

abbrev pub invariant-loop-link : goal.invariant-loop-link
invariant-loop-link g l = record {
  name : labels_of l.at ≡ denied_by l.name (take l.link-index l.chain);
  spelled : SpellsName l.at;
}
