-- The sites of a script, with the configuration that each has, and their addresses.
-- Serves `run_script`.
use Rattle.std.specs.Prelude.{ℕ, ◌+◌, List, [], ◌∷◌, ◌++◌, zero, suc, nat_eq, if◌then◌else◌}
use Rattle.fleet_pending.specs.declared.addr.Addr.{Addr}
use Rattle.fleet_site.specs.ConfigData.{ConfigData}
use Rattle.fleet_program.specs.declared.fleet.TheConstants.{LOOPBACK, FIRST_UPSTREAM_PORT, SECOND_UPSTREAM_PORT, FIRST_SITE_PORT}

-- a port of 127.0.0.1
abbrev pub local_addr : ℕ → Addr
local_addr port = record { host = LOOPBACK; port = port }

-- the upstreams of every site of a script, in order
abbrev pub upstreams : List Addr
upstreams = local_addr FIRST_UPSTREAM_PORT ∷ local_addr SECOND_UPSTREAM_PORT ∷ []

-- the address of a site of a script
abbrev pub site_address : ℕ → Addr
site_address site = local_addr (FIRST_SITE_PORT + site)

-- the peers of a site of a script: every other site, in their order
abbrev pub peers_of : ℕ → ℕ → List Addr
peers_of site zero = []
peers_of site (suc others) = if nat_eq others site then peers_of site others
    else (peers_of site others ++ site_address others ∷ [])

-- the upstreams and the peers of a site of a script that has this number of sites
abbrev pub config_of : ℕ → ℕ → ConfigData
config_of count site = record { upstreams = upstreams; peers = peers_of site count }

-- the upstreams and the peers of the first sites of a script, one after the other
abbrev pub configs_of : ℕ → ℕ → List ConfigData
configs_of count zero = []
configs_of count (suc sites) = configs_of count sites ++ config_of count sites ∷ []
