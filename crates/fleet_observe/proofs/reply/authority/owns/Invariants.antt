use Rattle.std.proofs.Common.{take}
use Rattle.fleet_observe.specs.Members.{Has}
use Rattle.fleet_observe.specs.DigestOf.{owners_of}
use Rattle.fleet_observe.proofs.reply.authority.owns.Given as goal

abbrev pub invariant-loop-set : goal.invariant-loop-set
invariant-loop-set g l = ¬ Has (owners_of (take l.set-index l.sets)) l.owner
