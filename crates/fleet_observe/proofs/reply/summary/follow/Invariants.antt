use Rattle.std.proofs.Common.{◌-◌, length}
use Rattle.fleet_name.specs.Name.{labels_of}
use Rattle.fleet_observe.specs.RrSet.{SpellsName}
use Rattle.fleet_observe.proofs.Walks.{IsLinked}
use Rattle.fleet_observe.proofs.reply.summary.follow.Given as goal
use Rattle.fleet_observe.specs.declared.bounds.TheConstants.{MOST_LINKS}

abbrev pub invariant-loop-alias : goal.invariant-loop-alias
invariant-loop-alias g l = record {
  linked : IsLinked l.answer l.rtype (labels_of l.name) l.chain.items (labels_of l.at);
  spelled : SpellsName l.at;
}

abbrev pub decreases-loop-alias : goal.decreases-loop-alias
decreases-loop-alias g l = MOST_LINKS - length l.chain.items
