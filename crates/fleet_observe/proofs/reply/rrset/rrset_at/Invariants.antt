use Rattle.std.proofs.Common.{take}
use Rattle.fleet_observe.proofs.Sets.{AreThose}
use Rattle.fleet_observe.proofs.reply.rrset.rrset_at.Given as goal

abbrev pub invariant-loop-record : goal.invariant-loop-record
invariant-loop-record g l = AreThose (take l.record-index l.section) l.owner l.rtype l.rdatas.items
