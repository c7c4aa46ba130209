-- What a site does with a name that is flushed.
-- Serves `Site::flush`.
use Rattle.std.specs.Prelude.{◌≡◌, List, [], ◌∷◌}
use Rattle.fleet_name.specs.Types.{Labels, OctetList}
use Rattle.fleet_wire.specs.Types.{Seconds}
use Rattle.fleet_observe.specs.Observation.{flush_at}
use Rattle.fleet_gossip.specs.Packed.{IsPacked}
use Rattle.fleet_pending.specs.PendingData.{PendingData}
use Rattle.fleet_site.specs.OutcomeData.{nothing}
use Rattle.fleet_site.specs.SiteModel.{Effect}

-- what a site does to withdraw a name: it takes the name's flush, stamped with the moment, and sends
-- its frame
abbrev pub Flushed : PendingData → Labels → Seconds → Effect → Type 0
Flushed o name t d = (frames : List OctetList) × IsPacked (flush_at name t ∷ []) frames
    × (d ≡ record {
      says = record nothing { frames = frames; taken = 1 };
      brings = flush_at name t ∷ [];
      asking = o;
    })
