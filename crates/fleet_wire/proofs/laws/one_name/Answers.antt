use Rattle.std.proofs.Common.{◌∙◌, sym, ap}
use Rattle.fleet_name.specs.Name.{lower_all}
use Rattle.fleet_wire.proofs.Readings.{one_reading}
use Rattle.fleet_wire.proofs.laws.one_name.Goals as goal

pub returns : goal.returns
returns c m p a b x y one two =
    let same = one_reading m p p one.spelled two.spelled x y one.name_at two.name_at in
    (one.lowered ∙ (ap lower_all same.0 ∙ sym two.lowered), same.1)
