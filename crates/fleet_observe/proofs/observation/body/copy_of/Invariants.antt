use Rattle.std.proofs.Common.{◌≡◌, take}
use Rattle.fleet_observe.proofs.observation.body.copy_of.Given as goal

-- those before the index are copied
abbrev pub invariant-loop-rdata : goal.invariant-loop-rdata
invariant-loop-rdata g l = l.copies.items ≡ take l.rdata-index l.rdatas.items
