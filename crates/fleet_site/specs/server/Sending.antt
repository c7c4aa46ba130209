-- What is sent of a step, and what a report counts of it.
-- Serves `serve`.
use Rattle.std.specs.Prelude.{◌≡◌, Bool, true, false, List, [], ◌∷◌, ◌++◌, Result, Ok, Err, is_some, ◌⊎◌}
use Rattle.fleet_name.specs.Types.{OctetList}
use Rattle.fleet_pending.specs.declared.addr.Addr.{Addr}
use Rattle.fleet_site.specs.PacketData.{PacketData}
use Rattle.fleet_site.specs.OutcomeData.{OutcomeData}
use Rattle.fleet_site.specs.server.PortRecord.{PortCall, Received, NoDatagram, Fault, PacketSent, PacketLost, one_more}
use Rattle.fleet_site.specs.declared.outcome.SiteFault.{SiteFault}
use Rattle.fleet_site.specs.declared.report.Report.{Report}

-- the packets of a frame: one to each peer, in their order
abbrev pub to_each : OctetList → List Addr → List PacketData
to_each frame [] = []
to_each frame (peer ∷ peers) = record { to = peer; octets = frame } ∷ to_each frame peers

-- the packets of frames: each frame to each peer, in their order
abbrev pub to_peers : List Addr → List OctetList → List PacketData
to_peers peers [] = []
to_peers peers (frame ∷ frames) = to_each frame peers ++ to_peers peers frames

-- what is sent of a step: its packets, then each of its frames to the peers in their order; nothing of
-- one that was stopped
abbrev pub packets_of : List Addr → Result OutcomeData SiteFault → List PacketData
packets_of peers (Ok e) = e.packets ++ to_peers peers e.frames
packets_of peers (Err f) = []

-- the call sent this packet, or lost it
abbrev pub IsSend : PacketData → PortCall → Type 0
IsSend s call = (call ≡ PacketSent s) ⊎ (call ≡ PacketLost s)

-- each packet was sent or lost, in their order
abbrev pub AreSent : List PacketData → List PortCall → Type 0
AreSent [] [] = Unit {0}
AreSent [] (call ∷ calls) = ⊥
AreSent (s ∷ ss) [] = ⊥
AreSent (s ∷ ss) (call ∷ calls) = IsSend s call × AreSent ss calls

-- a report counts a call of the port
abbrev pub count_call : PortCall → Report → Report
count_call (Received asked from octets) r = record r { received = one_more r.received }
count_call (NoDatagram asked) r = r
count_call (Fault asked) r = record r { faults = one_more r.faults }
count_call (PacketSent s) r = record r { sent = one_more r.sent }
count_call (PacketLost s) r = record r { lost = one_more r.lost }

-- a report counts each of these calls of the port
abbrev pub count_calls : List PortCall → Report → Report
count_calls [] r = r
count_calls (call ∷ calls) r = count_calls calls (count_call call r)

-- a report counts a refusal, if there is one
abbrev pub count_refusal_in : Bool → Report → Report
count_refusal_in true r = record r { refused = one_more r.refused }
count_refusal_in false r = r

-- a report counts a step: a refusal, and one that ran out of memory as short
abbrev pub count_step : Result OutcomeData SiteFault → Report → Report
count_step (Ok e) r = count_refusal_in (is_some e.refused) r
count_step (Err f) r = record r { short = one_more r.short }

-- whether a tick is to follow this answer: another entry is due, and memory did not run out
abbrev pub goes_on : Result OutcomeData SiteFault → Bool
goes_on (Ok e) = e.more
goes_on (Err f) = false
