use Rattle.std.proofs.Common.{◌≡◌, arith}
use Rattle.fleet_observe.specs.Observation.{kind_number}
use Rattle.fleet_observe.specs.declared.observation.kind.Kind.{Kind}
use Rattle.fleet_observe.specs.declared.observation.kind.Kind.TheVariants.{NameError, NoData, Positive, Flush}
use Rattle.fleet_gossip.proofs.head.kind_of.Goals as goal

pub returns-in_default : goal.returns-in_default
returns-in_default c = no_kind
  where
    no_kind : (kind : Kind) → c.args.number ≡ kind_number kind → ⊥
    no_kind NameError e = omega (arith, e)
    no_kind NoData e = omega (arith, e)
    no_kind Positive e = omega (arith, e)
    no_kind Flush e = omega (arith, e)
