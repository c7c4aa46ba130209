-- What a world has, as contracts see it.
-- Serves every call of `World`.
use Rattle.std.specs.Prelude.{List}
use Rattle.fleet_name.specs.Types.{OctetList}
use Rattle.fleet_site.specs.SiteData.{SiteData}

-- the states of its sites, and the octets of each frame that was kept
pub record WorldData : Type 0 where
  pub sites : List SiteData
  pub frames : List OctetList
