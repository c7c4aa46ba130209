-- Where a datagram comes from.
-- Serves `Site::datagram`, `Site::datagram_into`.
use Rattle.std.specs.Prelude.{List}
use Rattle.fleet_name.specs.Places.{At}
use Rattle.fleet_pending.specs.declared.addr.Addr.{Addr}
use Rattle.fleet_site.specs.ConfigData.{IsAmong}
use Rattle.fleet_site.specs.declared.site.Sender.{Sender}
use Rattle.fleet_site.specs.declared.site.Sender.TheVariants.{Upstream, Peer, Other}

-- what an address is to a site: an upstream's at this place, else a peer's, else another one
abbrev pub IsSender : List Addr → List Addr → Addr → Sender → Type 0
IsSender upstreams peers from (Upstream place) = At upstreams place from
IsSender upstreams peers from Peer = (¬ IsAmong upstreams from) × IsAmong peers from
IsSender upstreams peers from Other = (¬ IsAmong upstreams from) × (¬ IsAmong peers from)
