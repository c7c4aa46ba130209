-- The word for a kind of observation.
-- Serves `run_script`.
use Rattle.std.specs.Prelude.{codes}
use Rattle.fleet_name.specs.Types.{OctetList}
use Rattle.fleet_observe.specs.declared.observation.kind.Kind.{Kind}
use Rattle.fleet_observe.specs.declared.observation.kind.Kind.TheVariants.{Positive, NoData, NameError, Flush}

-- the word that a script prints for a kind of observation
abbrev pub kind_word : Kind → OctetList
kind_word Positive = codes "positive"
kind_word NoData = codes "nodata"
kind_word NameError = codes "nxdomain"
kind_word Flush = codes "flush"
