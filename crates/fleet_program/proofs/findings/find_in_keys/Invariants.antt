use Rattle.toml.specs.View.{table_view}
use Rattle.fleet_program.specs.Findings.{faults_of}
use Rattle.fleet_program.proofs.ListedFaults.{IfKeys}
use Rattle.fleet_program.proofs.findings.find_in_keys.Given as goal

-- the keys that were looked at are among those of a configuration, or faults were added
abbrev pub invariant-loop-key : goal.invariant-loop-key
invariant-loop-key l =
    (goal.iterator-loop-key).can_next l.key-iterator ×
    (goal.iterator-loop-key).is_finite l.key-iterator ×
    IfKeys (table_view l.table) l.key-iterator (faults_of l.fn.findings.items)
    (faults_of l.findings.items)
