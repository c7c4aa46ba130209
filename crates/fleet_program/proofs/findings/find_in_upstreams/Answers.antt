use Rattle.std.proofs.Common.{[], refl}
use Rattle.fleet_program.specs.Findings.{some}
use Rattle.fleet_program.specs.declared.settings.SettingsFault.TheVariants.{MissingKey}
use Rattle.fleet_program.proofs.findings.find_in_upstreams.Goals as goal

pub returns-in-Some : goal.returns-in-Some
returns-in-Some c = rw c.in-Some.is c.find_in_list.ensures

pub returns-in_ok-find_in_value-in-None : goal.returns-in_ok-find_in_value-in-None
returns-in_ok-find_in_value-in-None c =
    rw c.in-None.is (some MissingKey [] refl c.in_ok-find_in_value-in-None.ensures)
