-- What a site sends of a reply is of that reply.
-- Serves the laws `fresh`, `withdrawn`.
use Rattle.std.proofs.Common.{◌≡◌, ℕ, suc, ◌<◌, max, true, false, inl, inr, List, [], ◌∷◌, ◌++◌, length, refl, sym, ap, subst, ◌∙◌, Some, None, Ok, arith}
use Rattle.std.specs.List.{AllByRecursion}
use Rattle.fleet_name.specs.Name.{IsName}
use Rattle.fleet_name.specs.Places.{At, Has, NoneIs}
use Rattle.fleet_name.proofs.Lemmas.{has_either, at_same}
use Rattle.fleet_wire.specs.Message.{MessageData, IsReply, IsRead}
use Rattle.fleet_wire.specs.Outline.{OutlineData, IsLine, line, octets_of_outline}
use Rattle.fleet_wire.specs.Question.{IsQuestionData}
use Rattle.fleet_wire.specs.Record.{RecordData, IsPlainRecord}
use Rattle.fleet_wire.specs.Shape.{IsPlain}
use Rattle.fleet_wire.specs.declared.class.TheConstants.{IN}
use Rattle.fleet_wire.specs.declared.rtype.TheConstants.{CNAME, SOA}
use Rattle.fleet_observe.specs.Digest.{EndData, Records, NoData, NxDomain, Code, Truncated, DigestData}
use Rattle.fleet_observe.specs.DigestOf.{IsSoa, EndsAs, IsDigest}
use Rattle.fleet_observe.specs.Relay.{code_of, is_cut, set_lines, chain_lines, answer_lines, soa_lines, authority_lines, relay_outline}
use Rattle.fleet_observe.specs.RrSet.{RrSetData, IsRrSet}
use Rattle.fleet_observe.specs.Walk.{AreLinks, last}
use Rattle.fleet_pending.specs.PendingData.{EntryData, Matches}
use Rattle.fleet_pending.specs.Waiter.{WaiterData}
use Rattle.fleet_pending.specs.Waiting.{WaitersStay}
use Rattle.fleet_pending.specs.declared.addr.Addr.{Addr}
use Rattle.fleet_site.specs.Choice.{when◌then◌otherwise◌}
use Rattle.fleet_site.specs.ConfigData.{IsAmong}
use Rattle.fleet_site.specs.OutcomeData.{OutcomeData}
use Rattle.fleet_site.specs.PacketData.{PacketData}
use Rattle.fleet_site.specs.SiteModel.{Effect, refuses, with_clock}
use Rattle.fleet_site.specs.Step.{datagram, Dispatches}
use Rattle.fleet_site.specs.reply.Digested.{DigestedThen}
use Rattle.fleet_site.specs.reply.Reply.{relay_to, Relays, MatchedThen, Replied}
use Rattle.fleet_site.specs.declared.outcome.Refusal.TheVariants.{Unmatched}
use Rattle.fleet_world.specs.Becomes.{Calls}
use Rattle.fleet_world.specs.FleetModel.{Replica, FleetModel}
use Rattle.fleet_world.specs.Fresh.{IsInSet, AllowsRecord, ReadsOnly, IsRelayed, RelayedAreOfReply}
use Rattle.fleet_world.specs.declared.event.Event.TheVariants.{Datagram}
use Rattle.fleet_world.proofs.Rows.{has_map, first_member, IsPlainLine}
use Rattle.fleet_world.proofs.Reading.{OneReply, ReadsBack, without_read, outline_read}
use Rattle.fleet_world.proofs.Waiters.{AskLawfully, all_ask_lawfully}
use Rattle.fleet_world.proofs.Sending.{sent, packets_are, unsent}

-- a reply allows each record of an RRset of a section with the RRset's TTL
in_set : (section : List RecordData) (n : List (List ℕ)) (t : ℕ) (x : RrSetData) (y : RecordData)
    → IsRrSet section n t x → Has (set_lines x) y → IsInSet section y y.ttl
in_set section n t x y is h =
    let d = has_map (line x.name x.rtype x.ttl) x.rdatas y h in
    let same : IsRrSet section x.name x.rtype x =
    subst (λ (k : ℕ). IsRrSet section x.name k x) (sym is.rtype)
    (subst (λ (k : List (List ℕ)). IsRrSet section k t x) (sym is.name) is) in
    subst (λ (z : RecordData). IsInSet section z z.ttl) d.2
    (record { class = refl; there = same.of_section d.0 d.1; least = same.ttl })

module _ (r : MessageData) where
  abbrev IsAllowed : RecordData → Type 0
  IsAllowed y = AllowsRecord r y y.ttl

  chain_allowed : (n : List (List ℕ)) (later : List (List (List ℕ))) (chain : List RrSetData)
      (y : RecordData) → AreLinks r.answer n later chain → Has (chain_lines chain) y → IsAllowed y
  chain_allowed n [] [] y l h = absurd h
  chain_allowed n [] (x ∷ xs) y l h = absurd l
  chain_allowed n (m ∷ later) [] y l h = absurd h
  chain_allowed n (m ∷ later) (x ∷ xs) y l h = elim (has_either (set_lines x) (chain_lines xs) y h) [
    | inl k ↦ inl (in_set r.answer n CNAME x y l.0 k)
    | inr k ↦ chain_allowed m later xs y l.1 k
  ]

  no_chain : (chain : List RrSetData) (y : RecordData) → chain ≡ [] → Has (chain_lines chain) y
      → IsAllowed y
  no_chain chain y e h = absurd (subst (λ xs. Has (chain_lines xs) y) e h)

  answer_allowed : (chain : List RrSetData) (e : EndData) (y : RecordData) → EndsAs r chain e
      → Has (chain_lines chain ++ answer_lines e) y → IsAllowed y
  answer_allowed chain Truncated y is h = elim (has_either (chain_lines chain) [] y h) [
    | inl k ↦ no_chain chain y is.1 k
    | inr k ↦ absurd k
  ]
  answer_allowed chain (Code c) y is h = elim (has_either (chain_lines chain) [] y h) [
    | inl k ↦ no_chain chain y is.4 k
    | inr k ↦ absurd k
  ]
  answer_allowed chain (Records x) y is h =
      elim (has_either (chain_lines chain) (set_lines x) y h) [
        | inl k ↦ chain_allowed r.question.name is.later chain y is.links k
        | inr k ↦ inl (in_set r.answer (last r.question.name is.later) r.question.rtype x y
            is.end_is k)
      ]
  answer_allowed chain (NoData soa) y is h = elim (has_either (chain_lines chain) [] y h) [
    | inl k ↦ chain_allowed r.question.name is.later chain y is.links k
    | inr k ↦ absurd k
  ]
  answer_allowed chain (NxDomain soa) y is h = elim (has_either (chain_lines chain) [] y h) [
    | inl k ↦ chain_allowed r.question.name is.later chain y is.links k
    | inr k ↦ absurd k
  ]

  soa_allowed : (n : List (List ℕ)) (soa : _) (y : RecordData) → IsSoa r.authority n soa
      → Has (soa_lines soa) y → IsAllowed y
  soa_allowed n None y is h = absurd h
  soa_allowed n (Some x) y is (inr h) = absurd h
  soa_allowed n (Some x) y is (inl e) =
      let c = is.carrier in
      let z : RecordData = line x.owner SOA x.ttl x.rdata in
      let owner : x.owner ≡ c.name = is.owner in
      let rdata : x.rdata ≡ c.rdata = is.rdata in
      let type : c.rtype ≡ SOA = is.counts.first.soa.rtype in
      let class : c.class ≡ IN = is.counts.first.soa.class in
      let row : z ≡ record c { ttl = x.ttl } = cc in
      subst IsAllowed e
      (inr (inr (record { soa = c; first = is.counts.first; is = row; ttl_is = is.ttl })))

  authority_allowed : (chain : List RrSetData) (e : EndData) (y : RecordData) → EndsAs r chain e
      → Has (authority_lines e) y → IsAllowed y
  authority_allowed chain Truncated y is h = absurd h
  authority_allowed chain (Code c) y is h = absurd h
  authority_allowed chain (Records x) y is h = absurd h
  authority_allowed chain (NoData soa) y is h =
      soa_allowed (last r.question.name is.later) soa y is.end_is.2 h
  authority_allowed chain (NxDomain soa) y is h =
      soa_allowed (last r.question.name is.later) soa y is.end_is.2 h

-- what reads as a reply is lawful
abbrev pub ReadsLawful : Type 0
ReadsLawful = (m : List ℕ) (r : MessageData) → IsReply m r → IsRead r

-- a member is at an index
has_at : {X : Type 0} (xs : List X) (x : X) → Has xs x → (i : ℕ) × At xs i x
has_at [] x h = absurd h
has_at (y ∷ xs) x (inl e) = (0, ap (λ z. Some z) e)
has_at (y ∷ xs) x (inr h) = let r = has_at xs x h in (suc r.0, r.1)

all_has : {X : Type 0} (Q : X → Type 0) (xs : List X) (x : X) → AllByRecursion Q xs → Has xs x → Q x
all_has Q [] x all h = absurd h
all_has Q (y ∷ xs) x all (inl e) = subst Q e all.0
all_has Q (y ∷ xs) x all (inr h) = all_has Q xs x all.1 h

-- a record of plain records reads back
plain_in_set : (section : List RecordData) (y : RecordData) (ttl : ℕ)
    → AllByRecursion IsPlainRecord section → IsInSet section y ttl → IsPlainLine y
plain_in_set section y ttl all is =
    let c = is.there.carrier in
    let plain = all_has IsPlainRecord section c all is.there.member in
    let of = is.there.is_of_rrset in
    record {
      line_is = record { name = subst IsName of.owner plain.name; class = is.class };
      plain = subst (λ t. IsPlain t y.rdata) of.rtype
          (subst (λ d. IsPlain c.rtype d) is.there.rdata plain.rdata);
    }

plain_allowed : (r : MessageData) (y : RecordData) (ttl : ℕ) → IsRead r → AllowsRecord r y ttl
    → IsPlainLine y
plain_allowed r y ttl read (inl is) = plain_in_set r.answer y ttl read.answer is
plain_allowed r y ttl read (inr (inl is)) = plain_in_set r.authority y ttl read.authority is.1
plain_allowed r y ttl read (inr (inr is)) =
    let c = is.soa in
    let plain = all_has IsPlainRecord r.authority c read.authority
    (first_member r.authority c is.first) in
    subst IsPlainLine (sym is.is) (record {
      line_is = record { name = plain.name; class = is.first.soa.class };
      plain = plain.rdata;
    })

-- the RCODE of a relay
code_short : (r : MessageData) (chain : List RrSetData) (e : EndData) → r.header.rcode < 16
    → EndsAs r chain e → code_of e < 16
code_short r chain Truncated short is = omega arith
code_short r chain (Code c) short is = omega (arith, short, is.3)
code_short r chain (Records x) short is = omega arith
code_short r chain (NoData soa) short is = omega arith
code_short r chain (NxDomain soa) short is = omega arith

lines_of : (xs : List RecordData) → ((y : RecordData) → Has xs y → IsPlainLine y)
    → AllByRecursion IsLine xs
lines_of [] f = tt
lines_of (y ∷ xs) f = ((f y (inl refl)).line_is, lines_of xs (λ z h. f z (inr h)))

none_of : (chain : List RrSetData) → chain ≡ [] → length (chain_lines chain ++ []) ≡ 0
none_of chain e = ap (λ xs. length (chain_lines xs ++ [])) e

module _ (one : OneReply) (back : ReadsBack) (is_read : ReadsLawful) (A : Type 0) (m : FleetModel)
    (site now : ℕ) (from : Addr) (word : ℕ) (octets : List ℕ) (p : PacketData) where
  -- of the reply that comes in with the event
  abbrev OfReply : Replica → RecordData → Type 0
  OfReply a = IsRelayed {A = A} m (Datagram site now from word octets) (max a.site.clock now)

  abbrev Reads : Replica → Type 0
  Reads a = ReadsOnly (OfReply a) p.octets

  module _ (a : Replica) (there : At m.sites site a) (ask : AskLawfully a.site.pending)
      (place : ℕ) (up : At a.site.upstreams place from) where
    module _ (r : MessageData) (read : IsReply octets r) (number : ℕ) (entry : EntryData)
        (at : At a.site.pending.entries number entry)
        (matches : Matches place r.header.id r.question entry) (g : DigestData) (is : IsDigest r g)
      where
        relayed : (y : RecordData) → AllowsRecord r y y.ttl → OfReply a y × IsPlainLine y
        relayed y allowed = (
          record {
            reply = r;
            comes_in = (
              a,
              there,
              record {
                place = place;
                upstream = up;
                reply = r;
                read = read;
                number = number;
                entry = entry;
                there = at;
                matches = matches;
              },
              record { read = read; digest = g; meaning = is },
              refl,
            );
            allowed = allowed;
          },
          plain_allowed r y y.ttl (is_read octets r read) allowed,
        )

        -- a relay that is not cut off
        whole : (w : WaiterData) → IsQuestionData w.question → is_cut g.end ≡ false
            → ReadsOnly (OfReply a) (octets_of_outline (relay_outline g w.question w.id true))
        whole w lawful clear =
            let o : OutlineData = relay_outline g w.question w.id true in
            let f : (y : RecordData) → Has o.answer y → OfReply a y × IsPlainLine y =
            λ y h. relayed y (answer_allowed r g.chain g.end y is.ends_as h) in
            let k : (y : RecordData) → Has o.authority y → OfReply a y × IsPlainLine y =
            λ y h. relayed y (authority_allowed r g.chain g.end y is.ends_as h) in
            outline_read (OfReply a) one back o w.question (record {
              opcode = omega arith;
              rcode = code_short r g.chain g.end (is_read octets r read).header.rcode is.ends_as;
              question = lawful;
              answer = lines_of o.answer (λ y h. (f y h).1);
              authority = lines_of o.authority (λ y h. (k y h).1);
            }) clear refl f k

        by_end : (w : WaiterData) → IsQuestionData w.question → (e : EndData) → g.end ≡ e
            → EndsAs r g.chain e
            → ReadsOnly (OfReply a) (octets_of_outline (relay_outline g w.question w.id true))
        by_end w lawful Truncated e ends = without_read (OfReply a)
            (relay_outline g w.question w.id true)
            (ap (λ x. length (chain_lines g.chain ++ answer_lines x)) e ∙ none_of g.chain ends.1)
            (ap (λ x. length (authority_lines x)) e)
        by_end w lawful (Code c) e ends = whole w lawful (ap is_cut e)
        by_end w lawful (Records x) e ends = whole w lawful (ap is_cut e)
        by_end w lawful (NoData soa) e ends = whole w lawful (ap is_cut e)
        by_end w lawful (NxDomain soa) e ends = whole w lawful (ap is_cut e)

        relays : (d : Effect) → Relays a.site.pending (max a.site.clock now) entry g d
            → Has d.says.packets p → Reads a
        relays d h k =
            let w = has_map (relay_to g) entry.waiters p
            (subst (λ (o : OutcomeData). Has o.packets p) h.says k) in
            let turn = has_at entry.waiters w.0 w.1 in
            subst (λ (x : PacketData). ReadsOnly (OfReply a) x.octets) w.2
            (by_end w.0 (ask w.0 (record {
              place = number;
              entry = entry;
              there = at;
              turn = turn.0;
              waits = turn.1;
            })) g.end refl is.ends_as)

    abbrev Matched : MessageData → Effect → Type 0
    Matched r d =
        when NoneIs (Matches place r.header.id r.question) a.site.pending.entries
        then d ≡ refuses Unmatched a.site.pending otherwise
        DigestedThen a.site.pending r d (λ g. MatchedThen a.site.pending place r
        (λ e. Relays a.site.pending (max a.site.clock now) e g d))

    matched : (r : MessageData) → IsReply octets r → (d : Effect) → Matched r d
        → Has d.says.packets p → Reads a
    matched r read d (inl h) k = absurd (packets_are d _ p h.1 k)
    matched r read d (inr (some, inl h)) k = absurd (packets_are d _ p h.1 k)
    matched r read d (inr (some, inr (served, inl h))) k = absurd (packets_are d _ p h.1 k)
    matched r read d (inr (some, inr (served, inr h))) k =
        let g = h.1 in
        relays r read g.2.0 g.2.1.0 g.2.1.1 g.2.1.2 g.0 g.1 d g.2.1.3 k

    replied : (d : Effect) → Replied a.site.pending (max a.site.clock now) place octets d
        → Has d.says.packets p → Reads a
    replied d (inl h) k = absurd (packets_are d _ p h.1 k)
    replied d (inr (long, inl h)) k = absurd (packets_are d _ p h.1 k)
    replied d (inr (long, inr (response, inl h))) k = absurd (packets_are d _ p h.1.2 k)
    replied d (inr (long, inr (response, inr h))) k = matched h.1.0 h.1.1 d h.1.2 k

  by_dispatch : (a : Replica) → At m.sites site a → AskLawfully a.site.pending
      → IsAmong a.site.upstreams from → (d : Effect)
      → Dispatches (with_clock now a.site) from word octets d → Has d.says.packets p → Reads a
  by_dispatch a there ask up d (inl q) k = replied a there ask q.1.0 q.1.1 d q.1.2 k
  by_dispatch a there ask up d (inr (x, q)) k = absurd (x up)

  by_call : (a : Replica) → At m.sites site a → AskLawfully a.site.pending → (o : OutcomeData)
      (b : Replica) → Calls (datagram now from octets word) (Ok o) a b → Has o.packets p
      → IsAmong a.site.upstreams from → Reads a
  by_call a there ask o b h k up =
      by_dispatch a there ask up h.step.0 h.step.1 (unsent o h.step.0.says p h.step.2 k)

pub relayed_are_of_reply : {A : Type 0} → OneReply → ReadsBack → ReadsLawful → WaitersStay
    → RelayedAreOfReply A
relayed_are_of_reply {A} one back is_read stay configs events results m run site now from word
    octets r n step a there up p k =
    let s = sent m (Datagram site now from word octets) r n p step k in
    subst (λ (b : Replica). IsAmong b.site.upstreams from
    → Reads one back is_read A m site now from word octets p b)
    (at_same m.sites site s.old a s.there there)
    (by_call one back is_read A m site now from word octets p s.old s.there
    (all_ask_lawfully stay configs events results m run site s.old s.there)
    s.outcome s.new s.becomes s.among) up
