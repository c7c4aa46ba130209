use Rattle.std.proofs.Common.{◌≡◌}
use Rattle.fleet_program.specs.Settings.{configs_of}
use Rattle.fleet_program.proofs.fleet.new_world.Given as goal

abbrev pub invariant-loop-site : goal.invariant-loop-site
invariant-loop-site g l = l.configs.items ≡ configs_of l.count l.site
