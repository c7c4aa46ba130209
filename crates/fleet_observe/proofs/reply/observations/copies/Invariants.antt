use Rattle.std.proofs.Common.{◌≡◌, take}
use Rattle.fleet_observe.proofs.reply.observations.copies.Given as goal

abbrev pub invariant-loop-rdata : goal.invariant-loop-rdata
invariant-loop-rdata g l = l.all.items ≡ take l.rdata-index l.rdatas
