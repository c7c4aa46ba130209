-- What is lent of a cache's memory.
-- Serves `Cache::answer_at`, `Cache::holds`, `Cache::is_past`, `Cache::is_past_lent`,
-- `Cache::items`, `Cache::needs`.
use Rattle.std.proofs.Common.{◌≡◌, ℕ, List}
use Rattle.fleet_observe.specs.Observation.{ObservationData}
use Rattle.fleet_cache.specs.Live.{live_of}
use Rattle.fleet_cache.specs.Cached.{CacheData}
use Rattle.fleet_cache.specs.steps.Rounds.{MemoryData}

-- what a cache shows of what is in memory, at a floor
abbrev pub shown : List ObservationData → ℕ → CacheData
shown items floor = record { floor = floor; items = live_of items floor }

-- a cache by what is lent of its memory
pub lent_view : (m : MemoryData) (v : CacheData) (items : List ObservationData) (floor : ℕ)
    → shown m.items m.floor ≡ v → items ≡ m.items → floor ≡ m.floor → shown items floor ≡ v
lent_view m v items floor view held at = rw (held, at) view
