-- No answer is older than its TTL allows, whoever learnt it and however it travelled.
-- Serves law `fresh`.
use Rattle.std.specs.Prelude.{◌≡◌, ℕ, ◌⊎◌, ◌+◌, ◌-◌, ◌<◌, max, min, List, [], ◌∷◌, ◌++◌, Result, Ok, Err}
use Rattle.fleet_name.specs.Types.{Labels, OctetList}
use Rattle.fleet_name.specs.Places.{At, Has}
use Rattle.fleet_wire.specs.Types.{RType, Seconds}
use Rattle.fleet_wire.specs.Record.{RecordData}
use Rattle.fleet_wire.specs.Message.{MessageData, IsReply}
use Rattle.fleet_wire.specs.declared.class.TheConstants.{IN}
use Rattle.fleet_wire.specs.declared.rtype.TheConstants.{NS}
use Rattle.fleet_observe.specs.Body.{positive_body, negative_body}
use Rattle.fleet_observe.specs.Observation.{ObservationData, Observations, IsNegativeKind}
use Rattle.fleet_observe.specs.Observations.{IsObserved}
use Rattle.fleet_observe.specs.RrSet.{RrSetData, InSet, IsTtl, IsRrSet}
use Rattle.fleet_observe.specs.Digest.{DigestData}
use Rattle.fleet_observe.specs.DigestOf.{IsFirstSoa, CountsFor, soa_ttl, IsDigest}
use Rattle.fleet_observe.specs.declared.observation.kind.Kind.TheVariants.{Positive}
use Rattle.fleet_cache.specs.Answer.{ShownData, AnswerData, Missed, Found, NoData, NxDomain, answer_of}
use Rattle.fleet_pending.specs.declared.addr.Addr.{Addr}
use Rattle.fleet_site.specs.ConfigData.{ConfigData, IsAmong}
use Rattle.fleet_site.specs.PacketData.{PacketData}
use Rattle.fleet_site.specs.declared.looked.Looked.{Looked}
use Rattle.fleet_site.specs.declared.looked.Looked.TheVariants.{Reply, Miss, Dropped}
use Rattle.fleet_world.specs.Asking.{Answers}
use Rattle.fleet_world.specs.FleetModel.{Replica, FleetModel, opening}
use Rattle.fleet_world.specs.Origin.{IsAccepted}
use Rattle.fleet_world.specs.Own.{AllGossipIsOwn}
use Rattle.fleet_world.specs.Run.{Results, Run}
use Rattle.fleet_world.specs.Step.{Step}
use Rattle.fleet_world.specs.declared.event.Event.{Event}
use Rattle.fleet_world.specs.declared.event.Event.TheVariants.{Datagram, Learn}
use Rattle.fleet_world.specs.declared.stepped.Stepped.{Stepped}
use Rattle.fleet_world.specs.declared.fault.WorldFault.{WorldFault}
use Rattle.fleet_world.specs.declared.fault.WorldFault.TheVariants.{NoSite, NoFrame, Memory, FramesLost}

-- the octets are a reply that has a meaning: they can be read, and its aliases can be followed
pub record IsMeant (octets : OctetList) (reply : MessageData) : Type 0 where
  pub read : IsReply octets reply
  pub digest : DigestData
  pub meaning : IsDigest reply digest

-- a reply comes in with this event: its site learns or accepts it, at the clock that the site has then
abbrev pub ReplyComesIn : {A : Type 0} → FleetModel → Event A → MessageData → Seconds → Type 0
ReplyComesIn m (Learn site now bytes) reply moment = (a : Replica) × At m.sites site a
    × IsMeant bytes reply × (moment ≡ max a.site.clock now)
ReplyComesIn m (Datagram site now from word bytes) reply moment = (a : Replica) × At m.sites site a
    × IsAccepted a from bytes × IsMeant bytes reply × (moment ≡ max a.site.clock now)
ReplyComesIn m e reply moment = ⊥

-- a reply came in in this run, at the clock that its site had then
abbrev pub ReplyCameIn : {A : Type 0}
    → (m : FleetModel) (es : List (Event A)) (rs : Results A) (n : FleetModel) → Run m es rs n
    → MessageData → Seconds → Type 0
ReplyCameIn m (e ∷ es) (r ∷ rs) n run reply moment =
    ReplyComesIn m e reply moment ⊎ ReplyCameIn run.0 es rs n run.2 reply moment
ReplyCameIn m [] [] n run reply moment = ⊥
ReplyCameIn m [] (r ∷ rs) n run reply moment = ⊥
ReplyCameIn m (e ∷ es) [] n run reply moment = ⊥

-- o is of an RRset of the section, with these RDATAs and this TTL: the least one, each as it is read
-- (RFC 2181 5.2)
pub record IsOfSet (section : List RecordData) (o : ObservationData) (ttl : Seconds) : Type 0 where
  pub set : RrSetData
  pub is : IsRrSet section o.name o.rtype set
  pub body : o.body ≡ positive_body set.rdatas
  pub ttl_is : ttl ≡ set.ttl

-- o is a denial with the SOA that counts for its name in the section, and with what it allows: the
-- least of the SOA's TTL and its MINIMUM, each as it is read, and LONGEST_DENIAL (RFC 2308 5)
pub record IsOfSoa (section : List RecordData) (o : ObservationData) (ttl : Seconds) : Type 0 where
  pub soa : RecordData
  pub counts : CountsFor section o.name soa
  pub body : o.body ≡ negative_body soa.name soa.rdata
  pub ttl_is : ttl ≡ soa_ttl soa

-- for how many seconds a reply allows to use an observation: an RRset of its answer section, or of NS
-- records in its authority section (RFC 2181 5.2), or a denial with its SOA (RFC 2308 5)
abbrev pub Allows : MessageData → ObservationData → Seconds → Type 0
Allows reply o ttl =
    ((o.kind ≡ Positive) × (IsOfSet reply.answer o ttl
    ⊎ ((o.rtype ≡ NS) × IsOfSet reply.authority o ttl)))
    ⊎ (IsNegativeKind o.kind × IsOfSoa reply.authority o ttl)

-- Of an answer at the moment t this part is fresh: it is of an observation of a reply that came in
-- in this run, and the time that the reply allowed has not passed since. What is left of it is
-- shown, and never more than the reply allowed, also where t is before the reply's moment.
pub record IsFreshPart {A : Type 0} (m : FleetModel) (es : List (Event A)) (rs : Results A)
    (n : FleetModel) (run : Run m es rs n) (t : Seconds) (part : ShownData) : Type 0 where
  pub reply : MessageData
  pub moment : Seconds
  pub came_in : ReplyCameIn m es rs n run reply moment
  pub observations : Observations
  pub observed : IsObserved reply moment observations
  pub among : Has observations part.observation
  pub stamped : part.observation.stamp ≡ moment
  pub ttl : Seconds
  pub allowed : Allows reply part.observation ttl
  pub in_time : t < moment + ttl
  pub shown : part.ttl ≡ min (moment + ttl - t) ttl

-- the parts of an answer: the links of its aliases, and its records or its denial
abbrev pub parts_of : AnswerData → List ShownData
parts_of Missed = []
parts_of (Found chain set) = chain ++ set ∷ []
parts_of (NoData chain soa) = chain ++ soa ∷ []
parts_of (NxDomain chain soa) = chain ++ soa ∷ []

-- Where all gossip is the fleet's own, whatever a site is asked, at whatever moment: each part of the
-- answer is fresh.
abbrev pub AnswersAreFresh : Type 0 → Type 0
AnswersAreFresh A =
    (configs : List ConfigData) (events : List (Event A)) (results : Results A) (end : FleetModel)
    (run : Run (opening configs) events results end)
    → AllGossipIsOwn configs (opening configs) events results end run
    → (i : ℕ) (a : Replica) → At end.sites i a → (t : Seconds) (name : Labels) (rtype : RType)
    → (part : ShownData) → Has (parts_of (answer_of a.site.taken t name rtype)) part
    → IsFreshPart (opening configs) events results end run t part

-- x is one of an RRset of the section, and ttl is the RRset's TTL: the least one, each as it is read
-- (RFC 2181 5.2)
pub record IsInSet (section : List RecordData) (x : RecordData) (ttl : Seconds) : Type 0 where
  pub class : x.class ≡ IN
  pub there : InSet section x.name x.rtype x.rdata
  pub least : IsTtl section x.name x.rtype ttl

-- x is the first SOA of the section, whatever TTL it has here, and ttl is how long a denial with it
-- holds (RFC 2308 5)
pub record IsOfFirstSoa (section : List RecordData) (x : RecordData) (ttl : Seconds) : Type 0 where
  pub soa : RecordData
  pub first : IsFirstSoa section soa
  pub is : x ≡ record soa { ttl = x.ttl }
  pub ttl_is : ttl ≡ soa_ttl soa

-- for how many seconds a reply allows to use a record: one of its answer section, or an NS record
-- (RFC 2181 5.2) or the first SOA (RFC 2308 5) of its authority section
abbrev pub AllowsRecord : MessageData → RecordData → Seconds → Type 0
AllowsRecord reply x ttl = IsInSet reply.answer x ttl
    ⊎ (((x.rtype ≡ NS) × IsInSet reply.authority x ttl) ⊎ IsOfFirstSoa reply.authority x ttl)

-- A record that is shown at the moment t is fresh, as a part is: a reply that came in in this run
-- has it, and the time that the reply allowed has not passed since.
pub record IsFreshRecord {A : Type 0} (m : FleetModel) (es : List (Event A)) (rs : Results A)
    (n : FleetModel) (run : Run m es rs n) (t : Seconds) (x : RecordData) : Type 0 where
  pub reply : MessageData
  pub moment : Seconds
  pub came_in : ReplyCameIn m es rs n run reply moment
  pub ttl : Seconds
  pub allowed : AllowsRecord reply x ttl
  pub in_time : t < moment + ttl
  pub shown : x.ttl ≡ min (moment + ttl - t) ttl

-- whatever message is read in the octets, this holds of each record of its answer and authority
-- sections
pub record ReadsOnly (P : RecordData → Type 0) (octets : OctetList) : Type 0 where
  pub answer : (message : MessageData) → IsReply octets message
      → (x : RecordData) → Has message.answer x → P x
  pub authority : (message : MessageData) → IsReply octets message
      → (x : RecordData) → Has message.authority x → P x

-- the site answers with these octets
abbrev pub IsReplyOf : {A : Type 0} → Looked A → OctetList → Type 0
IsReplyOf (Reply octets) bytes = bytes ≡ octets
IsReplyOf Miss bytes = ⊥
IsReplyOf Dropped bytes = ⊥

-- the type of what may hold of a record that a site shows at a moment, after a run
abbrev pub OfRecords : Type 0 → Type 1
OfRecords A = (m : FleetModel) (es : List (Event A)) (rs : Results A) (n : FleetModel)
    → Run m es rs n → Replica → Seconds → RecordData → Type 0

-- Where all gossip is the fleet's own: this holds of each record that is read in what a site answers
-- where it is asked, at the site's clock.
abbrev pub WhereAsked : (A : Type 0) → OfRecords A → Type 0
WhereAsked A P =
    (configs : List ConfigData) (events : List (Event A)) (results : Results A) (end : FleetModel)
    (run : Run (opening configs) events results end)
    → AllGossipIsOwn configs (opening configs) events results end run
    → (i : ℕ) (now : Seconds) (octets : OctetList) (looked : Looked A)
    (h : Answers end i now octets looked) (bytes : OctetList) → IsReplyOf looked bytes
    → ReadsOnly
    (P (opening configs) events results end run h.asked (max h.asked.site.clock now)) bytes

-- Where all gossip is the fleet's own, each record that is read in what a site answers where it is
-- asked is fresh.
abbrev pub AskedAreFresh : Type 0 → Type 0
AskedAreFresh A = WhereAsked A (λ m es rs n run a t x. IsFreshRecord m es rs n run t x)

-- the datagrams that an event's site sends
abbrev pub sent_packets : {A : Type 0} → Result (Stepped A) (WorldFault A) → List PacketData
sent_packets (Ok s) = s.packets
sent_packets (Err (FramesLost s)) = s.packets
sent_packets (Err (Memory taken)) = []
sent_packets (Err NoSite) = []
sent_packets (Err NoFrame) = []

-- Where all gossip is the fleet's own: this holds of each record that is read in what a site sends
-- where a datagram comes that is not from an upstream, at the site's clock.
abbrev pub WhereAnswered : (A : Type 0) → OfRecords A → Type 0
WhereAnswered A P =
    (configs : List ConfigData) (events : List (Event A)) (results : Results A) (m : FleetModel)
    (run : Run (opening configs) events results m)
    → AllGossipIsOwn configs (opening configs) events results m run
    → (site : ℕ) (now : Seconds) (from : Addr) (word : ℕ) (octets : OctetList)
    (r : Result (Stepped A) (WorldFault A)) (n : FleetModel)
    → Step m (Datagram site now from word octets) r n → (a : Replica) → At m.sites site a
    → ¬ IsAmong a.site.upstreams from → (p : PacketData) → Has (sent_packets r) p
    → ReadsOnly (P (opening configs) events results m run a (max a.site.clock now)) p.octets

-- Where all gossip is the fleet's own, each record that is read in what a site sends where a datagram
-- comes that is not from an upstream is fresh.
abbrev pub AnsweredAreFresh : Type 0 → Type 0
AnsweredAreFresh A = WhereAnswered A (λ m es rs n run a t x. IsFreshRecord m es rs n run t x)

-- the reply that comes in with the event has the record, and the record is shown with the TTL that this
-- reply allows
pub record IsRelayed {A : Type 0} (m : FleetModel) (e : Event A) (t : Seconds) (x : RecordData)
    : Type 0 where
  pub reply : MessageData
  pub comes_in : ReplyComesIn m e reply t
  pub allowed : AllowsRecord reply x x.ttl

-- What is read in what a site sends where a datagram from an upstream comes is of that very reply,
-- with the TTLs that it allows: also one of zero, which is not kept. So it is whoever sent gossip.
abbrev pub RelayedAreOfReply : Type 0 → Type 0
RelayedAreOfReply A =
    (configs : List ConfigData) (events : List (Event A)) (results : Results A) (m : FleetModel)
    → Run (opening configs) events results m
    → (site : ℕ) (now : Seconds) (from : Addr) (word : ℕ) (octets : OctetList)
    (r : Result (Stepped A) (WorldFault A)) (n : FleetModel)
    → Step m (Datagram site now from word octets) r n → (a : Replica) → At m.sites site a
    → IsAmong a.site.upstreams from → (p : PacketData) → Has (sent_packets r) p
    → ReadsOnly (IsRelayed {A = A} m (Datagram site now from word octets) (max a.site.clock now))
    p.octets

-- the event is a datagram
abbrev pub IsDatagram : {A : Type 0} → Event A → Type 0
IsDatagram (Datagram site now from word bytes) = Unit {0}
IsDatagram e = ⊥

-- what a site sends with an event that is no datagram has no record
abbrev pub OthersSayNothing : Type 0 → Type 0
OthersSayNothing A =
    (m : FleetModel) (e : Event A) (r : Result (Stepped A) (WorldFault A)) (n : FleetModel)
    → Step m e r n → ¬ IsDatagram e → (p : PacketData) → Has (sent_packets r) p
    → ReadsOnly (λ x. ⊥) p.octets
