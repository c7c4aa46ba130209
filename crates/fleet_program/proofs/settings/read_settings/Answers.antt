use Rattle.std.proofs.Common.{arith}
use Rattle.toml.specs.View.{table_view}
use Rattle.fleet_program.specs.Configuration.{IsTable, in_table}
use Rattle.fleet_program.proofs.settings.read_settings.Goals as goal

pub returns-in-Ok : goal.returns-in-Ok
returns-in-Ok c =
    let table : IsTable c.args.octets.now (table_view c.in-Ok.table) =
    record { text = c.in-Ok.ensures.ok.0; document = c.in-Ok.ensures.ok.1 } in
    in_table (omega arith) (table_view c.in-Ok.table) table c.settings_of.ensures
