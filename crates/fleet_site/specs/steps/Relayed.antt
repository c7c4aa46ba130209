-- What a reply makes a site write, before its cache or its table changes.
-- Serves `Site::datagram`, `Site::datagram_into`, `Site::learn`.
use Rattle.std.specs.Prelude.{◌≡◌, ℕ, ◌<◌, ◌++◌, Option, None, Result, Ok, Err, false, length, take, map}
use Rattle.fleet_name.specs.Types.{OctetList}
use Rattle.fleet_wire.specs.Types.{Seconds}
use Rattle.fleet_observe.specs.Digest.{DigestData}
use Rattle.fleet_observe.specs.Observation.{Observations}
use Rattle.fleet_observe.specs.Observations.{reply_observations}
use Rattle.fleet_gossip.specs.Packed.{IsPacked}
use Rattle.fleet_cache.specs.Cached.{IsCached, CacheData}
use Rattle.fleet_pending.specs.Asking.{Settles}
use Rattle.fleet_pending.specs.PendingData.{EntryData, PendingData}
use Rattle.fleet_site.specs.OutcomeData.{OutcomeData}
use Rattle.fleet_site.specs.reply.Reply.{relay_to, Replied}
use Rattle.fleet_site.specs.SiteModel.{Effect, refuses}
use Rattle.fleet_site.specs.declared.digested.ReplyFault.{ReplyFault}
use Rattle.fleet_site.specs.declared.digested.ReplyFault.TheVariants.{Refused, NoMemory}
use Rattle.fleet_site.specs.declared.outcome.SiteFault.{SiteFault}
use Rattle.fleet_site.specs.declared.outcome.SiteFault.TheVariants.{OutOfMemory}
use Rattle.fleet_site.specs.declared.relay.Relay.{Relay}

-- what a reply makes a site write for this entry
pub record IsMade {A : Type 0} (g : DigestData) (t : Seconds) (e : EntryData) (r : Relay A)
    : Type 0 where
  pub id : r.id ≡ e.id
  pub packets : r.packets ≡ map (relay_to g) e.waiters
  pub observed : r.observed.items ≡ reply_observations g t
  pub frames : IsPacked r.observed.items r.frames

-- what is said where a relay is carried out whole
abbrev pub relay_outcome : {A : Type 0} → Relay A → OutcomeData
relay_outcome r = record {
  packets = r.packets;
  frames = r.frames;
  taken = length r.observed.items;
  refused = None;
  more = false;
}

-- the entry of a relay is open, and with the entry settled the relay is what the octets are for
pub record IsRelayOf {A : Type 0} (o : PendingData) (t : Seconds) (place : ℕ) (octets : OctetList)
    (r : Relay A) : Type 0 where
  pub opens : (e : Option EntryData) × ((n : PendingData) × Settles o r.id e n)
  pub told : (e : Option EntryData) (n : PendingData) → Settles o r.id e n
      → Replied o t place octets
      (record { says = relay_outcome r; brings = r.observed.items; asking = n })

-- a refusal is what this rule says, or there was no memory for what needs it
abbrev pub Unlearns : (Effect → Type 0) → Type 0 → PendingData → ReplyFault → Type 0
Unlearns Rule Needed o (Refused r) = Rule (refuses r o)
Unlearns Rule Needed o NoMemory = Needed

-- the observations were taken and the entry is settled, or without memory the first of them were,
-- and it is not
abbrev pub IsRelayFor : {A : Type 0} → Relay A → Observations → PendingData
    → Result OutcomeData SiteFault → CacheData → PendingData → Type 0
IsRelayFor r s old (Ok o) cache new =
    (e : Option EntryData) × Settles old r.id e new × (o ≡ relay_outcome r)
    × IsCached (r.observed.items ++ s) cache.floor cache.items
IsRelayFor r s old (Err (OutOfMemory taken)) cache new =
    (taken < length r.observed.items) × (new ≡ old)
    × IsCached (take taken r.observed.items ++ s) cache.floor cache.items
