use Rattle.std.proofs.Common.{take}
use Rattle.fleet_observe.specs.Members.{Has}
use Rattle.fleet_observe.proofs.reply.rrset.holds.Given as goal

abbrev pub invariant-loop-held : goal.invariant-loop-held
invariant-loop-held g l = ¬ Has (take l.held-index l.rdatas) l.rdata
