use Rattle.std.proofs.Common.{List, sym, subst}
use Rattle.fleet_observe.specs.Members.{AllDistinct}
use Rattle.fleet_observe.specs.Observation.{ObservationData}
use Rattle.fleet_observe.proofs.EachOnce.{observed_distinct}
use Rattle.fleet_observe.proofs.laws.each_once.Goals as goal

pub returns : goal.returns
returns c r stamp os h =
    subst (λ (fs : List ObservationData). AllDistinct fs) (sym h.are)
    (observed_distinct r h.digest stamp h.meaning)
