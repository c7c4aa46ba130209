-- What a site holds.
-- Serves every call of `Site`.
use Rattle.std.specs.Prelude.{◌≤◌}
use Rattle.fleet_wire.specs.Types.{Seconds}
use Rattle.fleet_cache.specs.Cached.{CacheData}
use Rattle.fleet_pending.specs.PendingData.{PendingData}
use Rattle.fleet_site.specs.ConfigData.{ConfigData, IsConfigData}
use Rattle.fleet_site.specs.Table.{IsTableOf}

-- a site as contracts see it: its configuration, its cache, its clock and its open questions. Of what
-- it took in it has only the items of the cache
pub record SiteData : Type 0 where
  pub config : ConfigData
  pub cache : CacheData
  pub clock : Seconds
  pub pending : PendingData

-- the site of these parts
abbrev pub site_data : ConfigData → CacheData → Seconds → PendingData → SiteData
site_data config cache clock pending =
    record { config = config; cache = cache; clock = clock; pending = pending }

-- what holds of each site: a lawful configuration, a floor that the clock has reached, and a lawful
-- table of open questions
pub record IsSiteData (s : SiteData) : Type 0 where
  pub config : IsConfigData s.config
  pub reached : s.cache.floor ≤ s.clock
  pub questions : IsTableOf s.config.upstreams s.pending
