-- What sending a packet or an outcome leaves.
-- Serves `serve`.
use Rattle.std.specs.Prelude.{◌≡◌, List, Vec, Result, Ok, Err}
use Rattle.std.specs.declared.alloc.AllocError.{AllocError}
use Rattle.fleet_name.specs.Types.{OctetList}
use Rattle.fleet_pending.specs.declared.addr.Addr.{Addr}
use Rattle.fleet_site.specs.PacketData.{PacketData}
use Rattle.fleet_site.specs.OutcomeData.{OutcomeData, nothing}
use Rattle.fleet_site.specs.server.PortRecord.{PortCall, PortState, Made}
use Rattle.fleet_site.specs.declared.outcome.SiteFault.{SiteFault}
use Rattle.fleet_site.specs.declared.outcome.SiteFault.TheVariants.{OutOfMemory}
use Rattle.fleet_site.specs.declared.report.Report.{Report}
use Rattle.fleet_site.specs.server.Sending.{packets_of, AreSent, count_calls, count_step}

-- what the frames of a sweep are as the outcome of a step
abbrev pub sweep_outcome : {A : Type 0} → Result (Vec OctetList A) AllocError
    → Result OutcomeData SiteFault
sweep_outcome (Ok frames) = Ok (record nothing { frames = frames.items })
sweep_outcome (Err e) = Err (OutOfMemory 0)

-- all of these packets were sent or lost, and counted
pub record Sends (old new : PortState) (ss : List PacketData) (r q : Report) : Type 0 where
  pub calls : List PortCall
  pub made : Made old new calls
  pub sent : AreSent ss calls
  pub report : q ≡ count_calls calls r

-- a step was counted, and what it gave was sent or lost, and counted
pub record CarriesOut (old new : PortState) (peers : List Addr) (a : Result OutcomeData SiteFault)
    (r q : Report) : Type 0 where
  pub calls : List PortCall
  pub made : Made old new calls
  pub sent : AreSent (packets_of peers a) calls
  pub report : q ≡ count_calls calls (count_step a r)
