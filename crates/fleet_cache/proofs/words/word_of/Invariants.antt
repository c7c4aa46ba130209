use Rattle.std.proofs.Common.{◌≡◌, ◌+◌, drop}
use Rattle.fleet_cache.specs.declared.words.TheConstants.{WEIGHTS}
use Rattle.fleet_cache.specs.steps.Packed.{weigh}
use Rattle.fleet_cache.proofs.words.word_of.Given as goal

abbrev pub invariant-loop-i : goal.invariant-loop-i
invariant-loop-i l = l.word + weigh (drop l.i WEIGHTS) (drop l.i l.octets) ≡ weigh WEIGHTS l.octets
