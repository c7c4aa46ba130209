-- What a reply that was read means, or why it is refused (`NotReply`, `BadChain`): its question then
-- stays open, and the next upstream is asked when the time is over.
-- Serves `Site::datagram`, `Site::datagram_into`, `Site::learn`.
use Rattle.std.specs.Prelude.{◌≡◌}
use Rattle.fleet_name.specs.Types.{OctetList}
use Rattle.fleet_wire.specs.Message.{MessageData, IsReply, HasReply, ReplyFails}
use Rattle.fleet_wire.specs.declared.fault.ReadFault.{ReadFault}
use Rattle.fleet_observe.specs.Digest.{DigestData}
use Rattle.fleet_observe.specs.DigestOf.{IsServed, AsksWalk, IsWalkable, IsDigest}
use Rattle.fleet_observe.specs.declared.reply.ending.DigestFault.TheVariants.{NotReply, BadChain}
use Rattle.fleet_pending.specs.PendingData.{PendingData}
use Rattle.fleet_site.specs.Choice.{when◌then◌otherwise◌}
use Rattle.fleet_site.specs.SiteModel.{Effect, refuses}
use Rattle.fleet_site.specs.declared.outcome.Refusal.TheVariants.{Read, Digest}

-- the reply has no walk where it asks for one: its aliases fork or loop, or are more than MOST_LINKS
-- (RFC 1034 3.6.2)
abbrev pub HasBadChain : MessageData → Type 0
HasBadChain r = AsksWalk r × (¬ IsWalkable r)

-- the octets can't be read, or what follows holds of the reply that they are
abbrev pub ReadThen : PendingData → OctetList → Effect → (MessageData → Type 0) → Type 0
ReadThen o octets d Then =
    when ¬ HasReply octets
    then ((f : ReadFault) × ReplyFails octets f × (d ≡ refuses (Read f) o)) otherwise
    ((r : MessageData) × IsReply octets r × Then r)

-- it is no reply to a question that is served, or it has a bad chain of aliases, or what follows holds
-- of its digest. The two refusals are those of `IsFault` of `fleet_observe`; nothing is taken with
-- them, and a question that is open stays so
abbrev pub DigestedThen : PendingData → MessageData → Effect → (DigestData → Type 0) → Type 0
DigestedThen o r d Then =
    when ¬ IsServed r then d ≡ refuses (Digest NotReply) o otherwise
    when HasBadChain r then d ≡ refuses (Digest BadChain) o otherwise
    ((g : DigestData) × IsDigest r g × Then g)
