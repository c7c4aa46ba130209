use Rattle.std.proofs.Common.{take, MatchOption}
use Rattle.fleet_name.specs.Name.{labels_of}
use Rattle.fleet_observe.specs.RrSet.{IsEmpty}
use Rattle.fleet_observe.proofs.Sections.{IsOne}
use Rattle.fleet_observe.proofs.reply.walk.find_rrset.Given as goal

abbrev pub invariant-loop-record : goal.invariant-loop-record
invariant-loop-record g l = MatchOption l.first (IsEmpty (take l.record-index l.section)
    (labels_of l.name) l.rtype) (λ r. IsOne (take l.record-index l.section) (labels_of l.name)
    l.rtype r.now)
