-- What a site does with octets from an upstream: it refuses them, or relays the reply to all who wait.
-- Serves `Site::datagram`, `Site::datagram_into`.
use Rattle.std.specs.Prelude.{◌≡◌, ℕ, ◌<◌, ◌≤◌, Some, None, IsTrue, true, false, map, length}
use Rattle.fleet_name.specs.Types.{OctetList}
use Rattle.fleet_wire.specs.Types.{Seconds}
use Rattle.fleet_wire.specs.Message.{header_of, MessageData, HasReply}
use Rattle.fleet_wire.specs.Outline.{octets_of_outline}
use Rattle.fleet_observe.specs.Digest.{DigestData}
use Rattle.fleet_observe.specs.Observations.{reply_observations}
use Rattle.fleet_observe.specs.Relay.{relay_outline}
use Rattle.fleet_gossip.specs.Packed.{IsPacked}
use Rattle.fleet_pending.specs.Waiter.{WaiterData}
use Rattle.fleet_pending.specs.Asking.{Settles}
use Rattle.fleet_pending.specs.PendingData.{EntryData, PendingData, Matches}
use Rattle.fleet_name.specs.Places.{At, NoneIs}
use Rattle.fleet_site.specs.Choice.{when◌then◌otherwise◌}
use Rattle.fleet_site.specs.PacketData.{PacketData}
use Rattle.fleet_site.specs.SiteModel.{Effect, refuses}
use Rattle.fleet_site.specs.reply.Digested.{ReadThen, DigestedThen}
use Rattle.fleet_site.specs.declared.outcome.Refusal.TheVariants.{Unmatched, Dropped}

-- octets with the header of a reply: 12 octets or more, and QR is set (RFC 1035 4.1.1)
pub record IsAnswering (octets : OctetList) : Type 0 where
  pub long : 12 ≤ length octets
  pub response : IsTrue (header_of octets).response

-- octets that are read as a reply
pub record IsReplying (octets : OctetList) : Type 0 where
  pub answering : IsAnswering octets
  pub reads : HasReply octets

-- the relay for a waiter: with its own identifier and spelling, and RD set
abbrev pub relay_to : DigestData → WaiterData → PacketData
relay_to g w = record {
  to = w.from;
  octets = octets_of_outline
      (relay_outline g w.question w.id true);
}

-- every waiter gets the reply in order of joining, the observations go out packed and are taken, and
-- the entry is settled. So it is whatever the reply's code: no further upstream is asked
pub record Relays (o : PendingData) (t : Seconds) (e : EntryData) (g : DigestData) (d : Effect)
    : Type 0 where
  pub brings : d.brings ≡ reply_observations g t
  pub frames : IsPacked d.brings d.says.frames
  pub says : d.says
      ≡ record {
        packets = map (relay_to g) e.waiters;
        frames = d.says.frames;
        taken = length d.brings;
        refused = None;
        more = false;
      }
  pub settles : Settles o e.id (Some e) d.asking

-- what follows holds of the entry that the reply is for: by the upstream that was asked, the identifier
-- and the question (RFC 1035 7.3)
abbrev pub MatchedThen : PendingData → ℕ → MessageData → (EntryData → Type 0) → Type 0
MatchedThen o place r Then =
    (i : ℕ) × ((e : EntryData) × At o.entries i e × Matches place r.header.id r.question e × Then e)

-- what a site does with octets from the upstream at this place: the refusals in their order, each of
-- which leaves the question open; else the reply is relayed
abbrev pub Replied : PendingData → Seconds → ℕ → OctetList → Effect → Type 0
Replied o t place octets d =
    when length octets < 12 then d ≡ refuses Dropped o otherwise
    when ¬ IsTrue (header_of octets).response then d ≡ refuses Dropped o otherwise
    ReadThen o octets d (λ r.
    when NoneIs (Matches place r.header.id r.question) o.entries
    then d ≡ refuses Unmatched o otherwise
    DigestedThen o r d (λ g. MatchedThen o place r (λ e. Relays o t e g d)))
