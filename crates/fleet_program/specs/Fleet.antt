-- The sites and the frames of a script, once the first event has made them and before.
-- Serves `run_script`.
use Rattle.std.specs.Prelude.{ℕ, length, Option, Some, None}
use Rattle.fleet_world.specs.WorldData.{WorldData}
use Rattle.fleet_world.specs.FleetModel.{opening}
use Rattle.fleet_world.specs.StandsFor.{StandsFor}
use Rattle.fleet_program.specs.Settings.{configs_of}

-- how many sites a script has: one before the first event
abbrev pub site_count : Option WorldData → ℕ
site_count None = 1
site_count (Some world) = length world.sites

-- how many frames a script has kept: none before the first event
abbrev pub frame_count : Option WorldData → ℕ
frame_count None = 0
frame_count (Some world) = length world.frames

-- a script has begun with this number of sites that took nothing in, at their addresses
abbrev pub BeginsWith : ℕ → Option WorldData → Type 0
BeginsWith count None = ⊥
BeginsWith count (Some world) = StandsFor world (opening (configs_of count count))
