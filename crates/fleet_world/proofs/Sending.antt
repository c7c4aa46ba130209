-- What is read in the datagrams that a site sends.
-- Serves the laws `fresh`, `withdrawn`.
use Rattle.std.proofs.Common.{◌≡◌, ℕ, max, inl, inr, List, length, refl, subst, Option, Some, Result, Ok, Err}
use Rattle.fleet_name.specs.Places.{At, Has}
use Rattle.fleet_name.proofs.Lemmas.{at_same}
use Rattle.fleet_wire.specs.Outline.{octets_of_outline}
use Rattle.fleet_wire.specs.Question.{QuestionData}
use Rattle.fleet_wire.specs.Record.{RecordData}
use Rattle.fleet_wire.specs.declared.header.Header.{Header}
use Rattle.fleet_observe.specs.Observations.{reply_observations}
use Rattle.fleet_cache.specs.Laws.{TestsLive}
use Rattle.fleet_pending.specs.PendingData.{PendingData}
use Rattle.fleet_pending.specs.declared.addr.Addr.{Addr}
use Rattle.fleet_site.specs.ConfigData.{ConfigData, IsAmong}
use Rattle.fleet_site.specs.OutcomeData.{OutcomeData, packet_to}
use Rattle.fleet_site.specs.PacketData.{PacketData}
use Rattle.fleet_site.specs.SiteModel.{Effect, takes, with_clock}
use Rattle.fleet_site.specs.Step.{datagram, Dispatches}
use Rattle.fleet_site.specs.Tick.{question_of, failure, failure_to, Ticked}
use Rattle.fleet_site.specs.gossip.Frame.{Framed}
use Rattle.fleet_site.specs.question.AnswerRecords.{bare_outline}
use Rattle.fleet_site.specs.question.Question.{Forwarded, is_asked, is_quiet, is_turned_away, Reacts}
use Rattle.fleet_site.specs.question.Decision.{DecisionData, Dropped, Reply, Unread, Miss}
use Rattle.fleet_site.specs.reply.Digested.{DigestedThen}
use Rattle.fleet_site.specs.reply.Learn.{Learnt}
use Rattle.fleet_world.specs.Becomes.{Calls, Becomes}
use Rattle.fleet_world.specs.Event.{site_of}
use Rattle.fleet_world.specs.FleetModel.{Replica, FleetModel, opening}
use Rattle.fleet_world.specs.Run.{Results, Run}
use Rattle.fleet_world.specs.Step.{Step, is_done, is_missing, is_stopped, loses_frames, site_missing, frame_missing, ReportsMissing}
use Rattle.fleet_world.specs.Own.{AllGossipIsOwn}
use Rattle.fleet_world.specs.Fresh.{ReadsOnly, sent_packets, IsDatagram, AnsweredAreFresh, OthersSayNothing}
use Rattle.fleet_world.specs.Withdrawn.{IsFreshAfter, AnsweredAfter}
use Rattle.fleet_world.specs.declared.event.Event.{Event}
use Rattle.fleet_world.specs.declared.event.Event.TheVariants.{Datagram, Tick, Sweep, Frame, Deliver, Learn, Flush, Merge, Restart}
use Rattle.fleet_world.specs.declared.stepped.Stepped.{Stepped}
use Rattle.fleet_world.specs.declared.fault.WorldFault.{WorldFault}
use Rattle.fleet_world.proofs.Packs.{OneList}
use Rattle.fleet_world.proofs.Rows.{has_map}
use Rattle.fleet_world.proofs.Reading.{OneReply, ReadsBack, without_read, query_read}
use Rattle.fleet_world.proofs.Answering.{DecisionReads, decides, reads_more, good_parts}

-- the call of an event that sent a datagram
pub record IsSent {A : Type 0} (m : FleetModel) (e : Event A) (p : PacketData) : Type 0 where
  pub outcome : OutcomeData
  pub old : Replica
  pub new : Replica
  pub there : At m.sites (site_of e) old
  pub becomes : Becomes m e (Ok outcome) old new
  pub among : Has outcome.packets p

no_packets : {A : Type 0} (sites frames : ℕ) (e : Event A) (f : WorldFault A) (p : PacketData)
    → ReportsMissing sites frames e f → Has (sent_packets {A = A} (Err f)) p → ⊥
no_packets {A} sites frames e f p (site_missing h is) k =
    subst (λ (x : WorldFault A). Has (sent_packets {A = A} (Err x)) p) is k
no_packets {A} sites frames e f p (frame_missing h g is) k =
    subst (λ (x : WorldFault A). Has (sent_packets {A = A} (Err x)) p) is k

pub sent : {A : Type 0} (m : FleetModel) (e : Event A) (r : Result (Stepped A) (WorldFault A))
    (n : FleetModel) (p : PacketData) → Step m e r n → Has (sent_packets r) p → IsSent m e p
sent {A} m e r n p (is_done s h told) k = record {
  outcome = h.outcome;
  old = h.old;
  new = h.new;
  there = h.there;
  becomes = h.becomes;
  among = subst (λ (x : Stepped A). Has x.packets p) h.says
      (subst (λ (x : Result (Stepped A) (WorldFault A)). Has (sent_packets x) p) told k);
}
sent {A} m e r n p (is_missing f missing told same) k =
    absurd (no_packets (length m.sites) (length m.frames) e f p missing
    (subst (λ (x : Result (Stepped A) (WorldFault A)). Has (sent_packets x) p) told k))
sent {A} m e r n p (is_stopped count h told) k =
    absurd (subst (λ (x : Result (Stepped A) (WorldFault A)). Has (sent_packets x) p) told k)
sent {A} m e r n p (loses_frames s h told) k = record {
  outcome = h.outcome;
  old = h.old;
  new = h.new;
  there = h.there;
  becomes = h.becomes;
  among = subst (λ (x : Stepped A). Has x.packets p) h.says
      (subst (λ (x : Result (Stepped A) (WorldFault A)). Has (sent_packets x) p) told k);
}

-- the packets of what is said
pub packets_are : (d c : Effect) (p : PacketData) → d ≡ c → Has d.says.packets p → Has c.says.packets p
packets_are d c p e h = subst (λ (y : Effect). Has y.says.packets p) e h

module _ (P : RecordData → Type 0) where
  -- one packet
  one_packet : (to : Addr) (octets : List ℕ) (p : PacketData) → ReadsOnly P octets
      → Has (packet_to to octets) p → ReadsOnly P p.octets
  one_packet to octets p r (inl e) = subst (λ (x : PacketData). ReadsOnly P x.octets) e r
  one_packet to octets p r (inr h) = absurd h

  bare : (h : Header) (rcode : ℕ) (q : Option QuestionData)
      → ReadsOnly P (octets_of_outline (bare_outline h rcode q))
  bare h rcode q = without_read P (bare_outline h rcode q) refl refl

  framed : (o : PendingData) (octets : List ℕ) (d : Effect) (p : PacketData) → Framed o octets d
      → Has d.says.packets p → ⊥
  framed o octets d p (inl h) k = packets_are d _ p h.1.2 k
  framed o octets d p (inr h) k = packets_are d _ p h.1.2 k

  forwarded : (upstreams : List Addr) (from : Addr) (h : Header) (q : QuestionData)
      (answer : _) (e : OutcomeData) (p : PacketData) → Forwarded upstreams from h q answer e
      → Has e.packets p → ReadsOnly P p.octets
  forwarded upstreams from h q answer e p (is_asked upstream id there at told says) k =
      one_packet there _ p (query_read P id q)
      (subst (λ (x : OutcomeData). Has x.packets p) says k)
  forwarded upstreams from h q answer e p (is_quiet told says) k =
      absurd (subst (λ (x : OutcomeData). Has x.packets p) says k)
  forwarded upstreams from h q answer e p (is_turned_away f some told says) k =
      one_packet from _ p (bare h _ (Some q)) (subst (λ (x : OutcomeData). Has x.packets p) says k)

  reacts : (upstreams : List Addr) (o : PendingData) (t : ℕ) (from : Addr) (word : ℕ) (v : DecisionData)
      (d : Effect) (p : PacketData) → DecisionReads P v → Reacts upstreams o t from word v d
      → Has d.says.packets p → ReadsOnly P p.octets
  reacts upstreams o t from word Dropped d p r e k = absurd (packets_are d _ p e k)
  reacts upstreams o t from word (Reply octets) d p r e k =
      one_packet from octets p r (packets_are d _ p e k)
  reacts upstreams o t from word (Unread octets f) d p r e k =
      one_packet from octets p r (packets_are d _ p e k)
  reacts upstreams o t from word (Miss h q) d p r (inl e) k =
      one_packet from _ p (bare h _ (Some q)) (packets_are d _ p e.1 k)
  reacts upstreams o t from word (Miss h q) d p r (inr e) k =
      forwarded upstreams from h q e.1.answer d.says p e.1.says k

  ticked : (upstreams : List Addr) (o : PendingData) (t : ℕ) (d : Effect) (p : PacketData)
      → Ticked upstreams o t d → Has d.says.packets p → ReadsOnly P p.octets
  ticked upstreams o t d p (inl h) k = absurd (packets_are d _ p h.1 k)
  ticked upstreams o t d p (inr h) k = elim h.1.served [
    | inl e ↦ one_packet e.1.there _ p (query_read P h.1.entry.id (question_of h.1.entry))
        (subst (λ (x : OutcomeData). Has x.packets p) e.1.says k)
    | inr e ↦
        let w = has_map failure_to h.1.entry.waiters p
        (subst (λ (x : OutcomeData). Has x.packets p) e.1.says k) in
        subst (λ (x : PacketData). ReadsOnly P x.octets) w.2
        (without_read P (failure w.0) refl refl)
  ]

  learnt : (o : PendingData) (t : ℕ) (octets : List ℕ) (d : Effect) (p : PacketData)
      → Learnt o t octets d → Has d.says.packets p → ⊥
  learnt o t octets d p (inl h) k = packets_are d _ p h.1.2 k
  learnt o t octets d p (inr h) k = go h.1.2
    where
      go : DigestedThen o h.1.0 d (λ g. d ≡ takes (reply_observations g t) o) → ⊥
      go (inl e) = packets_are d _ p e.1 k
      go (inr (other, inl e)) = packets_are d _ p e.1 k
      go (inr (other, inr e)) = packets_are d _ p e.1.2 k

-- no packet is sent
pub unsent : (o c : OutcomeData) (p : PacketData) → o ≡ c → Has o.packets p → Has c.packets p
unsent o c p e h = subst (λ (x : OutcomeData). Has x.packets p) e h

others_by : {A : Type 0} (m : FleetModel) (e : Event A) (o : OutcomeData) (a b : Replica)
    (p : PacketData) → ¬ IsDatagram e → Becomes m e (Ok o) a b → Has o.packets p
    → ReadsOnly (λ x. ⊥) p.octets
others_by m (Datagram site now from word bytes) o a b p other h k = absurd (other tt)
others_by m (Tick site now) o a b p other h k =
    let s = h.step in
    ticked (λ x. ⊥) a.site.upstreams a.site.pending (max a.site.clock now) s.0 p s.1
    (unsent o s.0.says p s.2 k)
others_by m (Frame site now bytes) o a b p other h k =
    let s = h.step in
    absurd (framed (λ x. ⊥) a.site.pending bytes s.0 p s.1 (unsent o s.0.says p s.2 k))
others_by m (Learn site now bytes) o a b p other h k =
    let s = h.step in
    absurd (learnt (λ x. ⊥) a.site.pending (max a.site.clock now) bytes s.0 p s.1
    (unsent o s.0.says p s.2 k))
others_by m (Flush site now name) o a b p other h k =
    let s = h.step in absurd (packets_are s.0 _ p s.1.2 (unsent o s.0.says p s.2 k))
others_by m (Deliver site now number) o a b p other h k =
    let s = h.calls.step in
    absurd (framed (λ x. ⊥) a.site.pending h.octets s.0 p s.1 (unsent o s.0.says p s.2 k))
others_by m (Sweep site) o a b p other h k = absurd (unsent o _ p h.0.says k)
others_by m (Merge into from) o a b p other (inl h) k = absurd (unsent o _ p h.1.0 k)
others_by m (Merge into from) o a b p other (inr h) k = absurd (unsent o _ p h.1.1 k)
others_by m (Restart site) o a b p other h k = absurd (unsent o _ p h.0 k)

pub others_say_nothing : {A : Type 0} → OthersSayNothing A
others_say_nothing m e r n step other p k =
    let s = sent m e r n p step k in others_by m e s.outcome s.old s.new p other s.becomes s.among

module _ (list : OneList) (live : TestsLive) (one : OneReply) (back : ReadsBack) where
  module _ {A : Type 0} (configs : List ConfigData) (events : List (Event A)) (results : Results A)
      (m : FleetModel) (run : Run (opening configs) events results m)
      (own : AllGossipIsOwn configs (opening configs) events results m run)
      (site now : ℕ) (from : Addr) (word : ℕ) (octets : List ℕ)
      (p : PacketData) where
    -- what is read in what the site a sends
    abbrev Reads : Replica → Type 0
    Reads a = ReadsOnly (IsFreshAfter (opening configs) events results m run a.site.taken
        (max a.site.clock now)) p.octets

    by_dispatch : (a : Replica) → At m.sites site a → ¬ IsAmong a.site.upstreams from → (d : Effect)
        → Dispatches (with_clock now a.site) from word octets d → Has d.says.packets p → Reads a
    by_dispatch a there stranger d (inl q) k = absurd (stranger q.0)
    by_dispatch a there stranger d (inr (x, inl q)) k =
        absurd (framed (λ y. ⊥) a.site.pending octets d p q.1 k)
    by_dispatch a there stranger d (inr (x, inr (y, q))) k =
        reacts
        (IsFreshAfter (opening configs) events results m run a.site.taken (max a.site.clock now))
        a.site.upstreams a.site.pending (max a.site.clock now) from word q.0 d p
        (decides one back (opening configs) events results m run a.site.taken
        (max a.site.clock now) octets q.0
        (good_parts list live one back configs events results m run own site a there
        (max a.site.clock now)) q.1) q.2 k

    by_call : (a : Replica) → At m.sites site a → (o : OutcomeData) (b : Replica)
        → Calls (datagram now from octets word) (Ok o) a b → Has o.packets p
        → ¬ IsAmong a.site.upstreams from → Reads a
    by_call a there o b h k stranger =
        by_dispatch a there stranger h.step.0 h.step.1 (unsent o h.step.0.says p h.step.2 k)

  pub answered_after : {A : Type 0} → AnsweredAfter A
  answered_after configs events results m run own site now from word octets r n step a there
      stranger p k =
      let s = sent m (Datagram site now from word octets) r n p step k in
      subst (λ (b : Replica). ¬ IsAmong b.site.upstreams from
      → Reads configs events results m run own site now from word octets p b)
      (at_same m.sites site s.old a s.there there)
      (by_call configs events results m run own site now from word octets p s.old s.there
      s.outcome s.new s.becomes s.among) stranger

  pub answered_fresh : {A : Type 0} → AnsweredAreFresh A
  answered_fresh configs events results m run own site now from word octets r n step a there
      stranger p k =
      reads_more _ _ p.octets (λ x f. f.fresh)
      (answered_after configs events results m run own site now from word octets r n step a there
      stranger p k)
