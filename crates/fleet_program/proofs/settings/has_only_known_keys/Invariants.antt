use Rattle.std.proofs.Common.{◌↔◌}
use Rattle.toml.specs.View.{members_view}
use Rattle.fleet_program.specs.Configuration.{HasKeys}
use Rattle.fleet_program.proofs.settings.has_only_known_keys.Given as goal

-- the keys that were looked at are among those of a configuration
abbrev pub invariant-loop-key : goal.invariant-loop-key
invariant-loop-key l =
    (goal.iterator-loop-key).can_next l.key-iterator ×
    (goal.iterator-loop-key).is_finite l.key-iterator ×
    (HasKeys (members_view l.key-iterator) ↔ HasKeys (members_view l.table.entries))
