-- Which addresses a site may have for upstreams and peers.
-- Serves `Config::new`, `Config::upstreams`, `Config::peers`.
use Rattle.std.specs.Prelude.{◌≡◌, ℕ, ◌≤◌, List, ◌++◌, length}
use Rattle.fleet_pending.specs.declared.bounds.TheConstants.{MOST_UPSTREAMS}
use Rattle.fleet_pending.specs.declared.addr.Addr.{Addr}
use Rattle.fleet_site.specs.declared.bounds.TheConstants.{MOST_PEERS}
use Rattle.fleet_name.specs.Places.{At, NoTwo}

-- the address is one of the list
abbrev pub IsAmong : List Addr → Addr → Type 0
IsAmong xs x = (i : ℕ) × At xs i x

-- a configuration: the upstreams that a site asks, in this order, and the peers that it sends frames to
pub record ConfigData : Type 0 where
  pub upstreams : List Addr
  pub peers : List Addr

-- there are 1 to MOST_UPSTREAMS upstreams
abbrev pub HasUpstreams : List Addr → Type 0
HasUpstreams xs = (1 ≤ length xs) × (length xs ≤ MOST_UPSTREAMS)

-- there are 1 to MOST_UPSTREAMS upstreams, and at most MOST_PEERS peers
abbrev pub HasPeers : List Addr → List Addr → Type 0
HasPeers xs ys = HasUpstreams xs × (length ys ≤ MOST_PEERS)

-- no address is listed twice in both lists together
abbrev pub AreApart : List Addr → List Addr → Type 0
AreApart xs ys = NoTwo (λ (x y : Addr). x ≡ y) (xs ++ ys)

-- a lawful configuration: 1 to MOST_UPSTREAMS upstreams and at most MOST_PEERS peers, and no address is
-- listed twice in both lists together
pub record IsConfigData (s : ConfigData) : Type 0 where
  pub few : HasPeers s.upstreams s.peers
  pub apart : AreApart s.upstreams s.peers
