use Rattle.std.proofs.Common.{[], ◌∷◌, refl, sym, ap}
use Rattle.fleet_name.specs.Name.{wire}
use Rattle.fleet_name.proofs.Lemmas.{labels_of-spelled}
use Rattle.fleet_wire.proofs.lent_record.LentRecordDefault.default.Goals as goal

pub invariant_of-result : goal.invariant_of-result
invariant_of-result g = record { spells = ap wire (sym (labels_of-spelled (0 ∷ []) [] tt refl)) }
