use Rattle.fleet_name.specs.Name.{labels_of}
use Rattle.fleet_observe.specs.RrSet.{SpellsName}
use Rattle.fleet_observe.proofs.Walks.{IsReached}
use Rattle.fleet_observe.proofs.reply.walk.has_walk.Given as goal

abbrev pub invariant-loop : goal.invariant-loop
invariant-loop g l = record {
  reached : IsReached l.answer l.rtype (labels_of l.name) l.counter (labels_of l.at);
  spelled : SpellsName l.at;
}
