-- What handling a datagram gives, where a reply may be in a buffer.
-- Serves `Site::datagram_into`.
use Rattle.std.specs.Prelude.{Result, Ok, Err}
use Rattle.fleet_name.specs.Types.{OctetList}
use Rattle.fleet_pending.specs.declared.addr.Addr.{Addr}
use Rattle.fleet_site.specs.OutcomeData.{OutcomeData, sends}
use Rattle.fleet_site.specs.declared.handled.Handled.{Handled}
use Rattle.fleet_site.specs.declared.handled.Handled.TheVariants.{Reply, Outcome}
use Rattle.fleet_site.specs.declared.outcome.SiteFault.{SiteFault}

-- what was given where a reply may be in a buffer. `Reply`: the octets in the buffer go to who asked,
-- and nothing else is given. `Outcome`: that outcome
abbrev pub handled_data : {A : Type 0} → Addr → OctetList → Handled A → OutcomeData
handled_data from octets Reply = sends from octets
handled_data from octets (Outcome o) = o

-- the reply is in the buffer
abbrev pub IsInPlace : {A : Type 0} → Handled A → Type 0
IsInPlace Reply = Unit {0}
IsInPlace (Outcome o) = ⊥

-- what was given where a reply may be in a buffer, of a call that may have run out of memory
abbrev pub handled_result : {A : Type 0} → Addr → OctetList → Result (Handled A) SiteFault
    → Result OutcomeData SiteFault
handled_result from octets (Ok h) = Ok (handled_data from octets h)
handled_result from octets (Err f) = Err f
