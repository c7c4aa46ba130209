-- What a site does with a reply that it is handed.
-- Serves `Site::learn`.
use Rattle.std.specs.Prelude.{◌≡◌}
use Rattle.fleet_name.specs.Types.{OctetList}
use Rattle.fleet_wire.specs.Types.{Seconds}
use Rattle.fleet_observe.specs.Observations.{reply_observations}
use Rattle.fleet_pending.specs.PendingData.{PendingData}
use Rattle.fleet_site.specs.SiteModel.{Effect, takes}
use Rattle.fleet_site.specs.reply.Digested.{ReadThen, DigestedThen}

-- what a site does with a reply that it is handed: its observations are taken; it matches no open
-- question and sends nothing
abbrev pub Learnt : PendingData → Seconds → OctetList → Effect → Type 0
Learnt o t octets d =
    ReadThen o octets d (λ r. DigestedThen o r d (λ g. d ≡ takes (reply_observations g t) o))
