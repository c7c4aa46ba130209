use Rattle.std.proofs.Common.{take, []}
use Rattle.fleet_observe.specs.Members.{Has}
use Rattle.fleet_observe.specs.RrSet.{RrSetData, IsRrSet}
use Rattle.fleet_observe.specs.DigestOf.{AreOwners, owners_of}
use Rattle.fleet_observe.proofs.reply.authority.ns_sets.Given as goal

abbrev pub invariant-loop-record : goal.invariant-loop-record
invariant-loop-record g l = record {
  owners : AreOwners l.name [] (take l.record-index l.authority) (owners_of l.sets.items);
  each : (x : RrSetData) → Has l.sets.items x → IsRrSet l.authority x.name 2 x;
}
