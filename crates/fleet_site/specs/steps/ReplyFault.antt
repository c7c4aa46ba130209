-- Why nothing is done with a reply.
-- Serves `Site::datagram`, `Site::datagram_into`, `Site::learn`.
use Rattle.std.specs.Prelude.{◌≡◌, Result, Ok, Err}
use Rattle.fleet_name.specs.Types.{OctetList}
use Rattle.fleet_wire.specs.Message.{MessageData, HasReply, ReplyFails}
use Rattle.fleet_wire.specs.declared.fault.ReadFault.{ReadFault}
use Rattle.fleet_observe.specs.DigestOf.{IsServed}
use Rattle.fleet_observe.specs.declared.reply.ending.DigestFault.TheVariants.{NotReply, BadChain}
use Rattle.fleet_site.specs.OutcomeData.{OutcomeData, refusal}
use Rattle.fleet_site.specs.reply.Digested.{HasBadChain}
use Rattle.fleet_site.specs.declared.digested.ReplyFault.{ReplyFault}
use Rattle.fleet_site.specs.declared.digested.ReplyFault.TheVariants.{Refused, NoMemory}
use Rattle.fleet_site.specs.declared.outcome.Refusal.TheVariants.{Read, Digest}
use Rattle.fleet_site.specs.declared.outcome.SiteFault.{SiteFault}
use Rattle.fleet_site.specs.declared.outcome.SiteFault.TheVariants.{OutOfMemory}

-- the octets are no reply, for this first fault; or they are one, and there is no memory for it
pub data IsUnread (octets : OctetList) (e : ReplyFault) : Type 0 where
  no_reply : (f : ReadFault) → ¬ HasReply octets → ReplyFails octets f → e ≡ Refused (Read f)
      → IsUnread octets e
  no_memory_to_read : HasReply octets → e ≡ NoMemory → IsUnread octets e

-- the reply is none to a question that is served, or it has a bad chain of aliases; or memory runs out
-- for its digest
pub data IsUndigested (r : MessageData) (e : ReplyFault) : Type 0 where
  not_served : ¬ IsServed r → e ≡ Refused (Digest NotReply) → IsUndigested r e
  aliases_nowhere : IsServed r → HasBadChain r → e ≡ Refused (Digest BadChain) → IsUndigested r e
  no_memory_to_digest : e ≡ NoMemory → IsUndigested r e

-- the refusal is said, or there was no memory and nothing was taken
abbrev pub SaysRefusal : ReplyFault → Result OutcomeData SiteFault → Type 0
SaysRefusal (Refused r) (Ok o) = o ≡ refusal r
SaysRefusal (Refused r) (Err f) = ⊥
SaysRefusal NoMemory (Ok o) = ⊥
SaysRefusal NoMemory (Err (OutOfMemory taken)) = taken ≡ 0
