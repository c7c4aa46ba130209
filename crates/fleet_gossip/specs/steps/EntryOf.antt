-- The observation of an entry that was read.
-- Serves the readers of an entry in `decode` and `take_frame`.
use Rattle.std.specs.Prelude.{◌≡◌}
use Rattle.fleet_name.specs.Name.{wire}
use Rattle.fleet_observe.specs.Observation.{ObservationData, IsObservation}
use Rattle.fleet_gossip.specs.declared.entry.FrameEntry.{FrameEntry}

-- the entry is that of this observation
pub record IsEntryOf (entry : FrameEntry) (o : ObservationData) : Type 0 where
  pub lawful : IsObservation o
  pub kind : o.kind ≡ entry.head.kind
  pub rank : o.rank ≡ entry.head.rank
  pub stamp : o.stamp ≡ entry.head.stamp
  pub life : o.life ≡ entry.head.life
  pub named : entry.name.now ≡ wire o.name
  pub rtype : o.rtype ≡ entry.rtype
  pub body : entry.body.now ≡ o.body
