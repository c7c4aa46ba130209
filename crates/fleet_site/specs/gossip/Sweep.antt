-- What a site sends of all that it holds.
-- Serves `Site::sweep`.
use Rattle.std.specs.Prelude.{List}
use Rattle.fleet_name.specs.Types.{OctetList}
use Rattle.fleet_observe.specs.Observation.{Observations}
use Rattle.fleet_cache.specs.Cached.{IsCached}
use Rattle.fleet_gossip.specs.Packed.{IsPacked}
use Rattle.fleet_site.specs.SiteModel.{SiteModel}

-- the frames of all that a site holds: of its items, packed in their order
pub record IsSweep (m : SiteModel) (frames : List OctetList) : Type 0 where
  pub items : Observations
  pub cached : IsCached m.taken m.floor items
  pub packed : IsPacked items frames
