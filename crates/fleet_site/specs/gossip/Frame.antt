-- What a site does with a frame.
-- Serves `Site::frame`, `Site::datagram`, `Site::datagram_into`.
use Rattle.std.specs.Prelude.{◌≡◌}
use Rattle.fleet_name.specs.Types.{OctetList}
use Rattle.fleet_observe.specs.Observation.{Observations}
use Rattle.fleet_gossip.specs.Frame.{SpellsFrame}
use Rattle.fleet_gossip.specs.Faults.{FrameFails}
use Rattle.fleet_gossip.specs.declared.fault.FrameFault.{FrameFault}
use Rattle.fleet_pending.specs.PendingData.{PendingData}
use Rattle.fleet_site.specs.Choice.{when◌then◌otherwise◌}
use Rattle.fleet_site.specs.SiteModel.{Effect, refuses, takes}
use Rattle.fleet_site.specs.declared.outcome.Refusal.TheVariants.{Frame}

-- the octets are a frame
abbrev pub HasFrame : OctetList → Type 0
HasFrame octets = (list : Observations) × SpellsFrame octets list

-- what a site does with octets that come as a frame: they are refused whole for their first fault, or
-- their observations are taken; these are not sent on before the next sweep
abbrev pub Framed : PendingData → OctetList → Effect → Type 0
Framed o octets d =
    when ¬ HasFrame octets
    then ((f : FrameFault) × FrameFails octets f × (d ≡ refuses (Frame f) o)) otherwise
    ((list : Observations) × SpellsFrame octets list × (d ≡ takes list o))
