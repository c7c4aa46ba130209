use Rattle.std.proofs.Common.{take}
use Rattle.fleet_name.specs.Name.{labels_of}
use Rattle.fleet_observe.proofs.Sets.{IsLeast}
use Rattle.fleet_observe.proofs.reply.rrset.least_ttl.Given as goal

abbrev pub invariant-loop-record : goal.invariant-loop-record
invariant-loop-record g l = IsLeast (take l.record-index l.section) (labels_of l.name) l.rtype
    l.least
