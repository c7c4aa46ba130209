-- An observation that is lent: its values, and the octets of its name and its body.
-- Serves `Observation::equals`, law `one_lent`.
use Rattle.std.specs.Prelude.{◌≡◌}
use Rattle.fleet_name.specs.Name.{wire}
use Rattle.fleet_observe.specs.Observation.{ObservationData}
use Rattle.fleet_observe.specs.declared.observation.lent.LentObservation.{LentObservation}

-- what is lent is o: the values are o's, the name is o's in full, the body has o's octets
pub record IsLent (lent : LentObservation) (o : ObservationData) : Type 0 where
  pub kind : lent.kind ≡ o.kind
  pub rtype : lent.rtype ≡ o.rtype
  pub rank : lent.rank ≡ o.rank
  pub stamp : lent.stamp ≡ o.stamp
  pub life : lent.life ≡ o.life
  pub named : lent.name.now ≡ wire o.name
  pub body : lent.body.now ≡ o.body

-- what is lent is one observation
abbrev pub OneLent : Type 0
OneLent = (lent : LentObservation) (x y : ObservationData) → IsLent lent x → IsLent lent y → x ≡ y
