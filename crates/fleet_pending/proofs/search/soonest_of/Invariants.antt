use Rattle.std.proofs.Common.{◌-◌, ◌^◌}
use Rattle.fleet_pending.proofs.Soonest.{IsLeastTo}
use Rattle.fleet_pending.proofs.search.soonest_of.Given as goal

abbrev pub invariant-loop-entry : goal.invariant-loop-entry
invariant-loop-entry g l = IsLeastTo (2 ^ 64 - 1) l.entries l.entry-index l.soonest
