-- What a site does where it takes in all that another one holds.
-- Serves `Site::merge`.
use Rattle.std.specs.Prelude.{◌≡◌, ℕ, max, Result, Ok, Err, length}
use Rattle.fleet_observe.specs.Observation.{Observations}
use Rattle.fleet_cache.specs.Cached.{IsCached}
use Rattle.fleet_site.specs.SiteModel.{SiteModel, with_taken, StopsAt}
use Rattle.fleet_site.specs.declared.outcome.SiteFault.{SiteFault}
use Rattle.fleet_site.specs.declared.outcome.SiteFault.TheVariants.{OutOfMemory}

-- the model after a merge: all that the other one took is taken, the floor rises to its floor, and the
-- clock to the new floor
abbrev pub after_merge : SiteModel → SiteModel → SiteModel
after_merge from s = record (with_taken from.taken s) {
  floor = max s.floor from.floor;
  clock = max s.clock (max s.floor from.floor);
}

-- a merge of two sites: the items of the other one are given in their order, and counted. It is done
-- whole, or stopped after the first of them; then floor and clock stay
abbrev pub Merges : SiteModel → SiteModel → Result ℕ SiteFault → SiteModel → Type 0
Merges m from (Ok count) n = (items : Observations) × IsCached from.taken from.floor items
    × (count ≡ length items) × (n ≡ after_merge from m)
Merges m from (Err (OutOfMemory taken)) n =
    (items : Observations) × IsCached from.taken from.floor items × StopsAt taken items m n
