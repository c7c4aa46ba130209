-- Who waits asked a lawful question, along any run.
-- Serves the laws `fresh`, `withdrawn`.
use Rattle.std.proofs.Common.{◌≡◌, ℕ, true, inl, inr, List, [], ◌∷◌, slice_set, refl, sym, ap, subst, ◌∙◌, Some, None, Result, Ok, Err}
use Rattle.fleet_name.specs.Places.{At, NoneIs}
use Rattle.fleet_name.proofs.Lemmas.{at_set, at_mapped}
use Rattle.fleet_wire.specs.Message.{header_of}
use Rattle.fleet_wire.specs.Question.{QuestionData, IsQuestionData}
use Rattle.fleet_wire.specs.declared.header.Header.{Header}
use Rattle.fleet_observe.specs.Observation.{ObservationData}
use Rattle.fleet_observe.specs.Observations.{reply_observations}
use Rattle.fleet_cache.specs.Answer.{AnswerData, Missed, Found, NoData, NxDomain, answer_of}
use Rattle.fleet_pending.specs.PendingData.{PendingData, Matches}
use Rattle.fleet_pending.specs.Waiter.{WaiterData}
use Rattle.fleet_pending.specs.Waiting.{IsWaiting, WaitersStay}
use Rattle.fleet_pending.specs.declared.addr.Addr.{Addr}
use Rattle.fleet_site.specs.Choice.{when◌then◌otherwise◌}
use Rattle.fleet_site.specs.ConfigData.{ConfigData}
use Rattle.fleet_site.specs.OutcomeData.{OutcomeData}
use Rattle.fleet_site.specs.SiteModel.{SiteModel, Effect, refuses, takes}
use Rattle.fleet_site.specs.Step.{Call, datagram, tick, frame, learn, flush, with_call_begun, Does, Dispatches}
use Rattle.fleet_site.specs.Step.{Step as SiteStep}
use Rattle.fleet_site.specs.Tick.{Ticked}
use Rattle.fleet_site.specs.gossip.Frame.{Framed}
use Rattle.fleet_site.specs.question.Question.{waiter, Reacts}
use Rattle.fleet_site.specs.question.Decision.{DecisionData, Dropped, Reply, Unread, Miss, DecidesAnswer, DecidesQuestion, Decides}
use Rattle.fleet_site.specs.reply.Digested.{DigestedThen}
use Rattle.fleet_site.specs.reply.Learn.{Learnt}
use Rattle.fleet_site.specs.reply.Reply.{Relays, MatchedThen, Replied}
use Rattle.fleet_site.specs.declared.outcome.Refusal.TheVariants.{Unmatched}
use Rattle.fleet_site.specs.declared.outcome.SiteFault.{SiteFault}
use Rattle.fleet_site.specs.declared.outcome.SiteFault.TheVariants.{OutOfMemory}
use Rattle.fleet_world.specs.Becomes.{Becomes}
use Rattle.fleet_world.specs.Event.{site_of}
use Rattle.fleet_world.specs.FleetModel.{Replica, FleetModel, opening_replica, opening}
use Rattle.fleet_world.specs.Run.{Results, Run}
use Rattle.fleet_world.specs.Step.{Step, is_done, is_missing, is_stopped, loses_frames}
use Rattle.fleet_world.specs.declared.event.Event.{Event}
use Rattle.fleet_world.specs.declared.event.Event.TheVariants.{Datagram, Tick, Sweep, Frame, Deliver, Learn, Flush, Merge, Restart}
use Rattle.fleet_world.specs.declared.stepped.Stepped.{Stepped}
use Rattle.fleet_world.specs.declared.fault.WorldFault.{WorldFault}
use Rattle.fleet_world.proofs.Calls.{with_delivery_site}
use Rattle.fleet_wire.proofs.Lemmas.{question_asked}

-- all who wait asked a lawful question
abbrev pub AskLawfully : PendingData → Type 0
AskLawfully o = (w : WaiterData) → IsWaiting o w → IsQuestionData w.question

-- what is not known is asked with a lawful question
missed_lawful : (answer : AnswerData) (h k : Header) (q u : QuestionData) → IsQuestionData q
    → DecidesAnswer h q answer (Miss k u) → IsQuestionData u
missed_lawful Missed h k q u lawful d = subst IsQuestionData (sym (same d)) lawful
  where
    same : Miss k u ≡ Miss h q → u ≡ q
    same e = cc
missed_lawful (Found chain set) h k q u lawful d = absurd (let e : Miss k u ≡ Reply d.0 = d.2 in cc)
missed_lawful (NoData chain soa) h k q u lawful d = absurd (let e : Miss k u ≡ Reply d.0 = d.2 in cc)
missed_lawful (NxDomain chain soa) h k q u lawful d = absurd (let e : Miss k u ≡ Reply d.0 = d.2 in cc)

asked_lawful : (s : List ObservationData) (t : ℕ) (octets : List ℕ) (h : Header) (q : QuestionData)
    → Decides s t octets (Miss h q) → IsQuestionData q
asked_lawful s t octets h q (inl d) = absurd (let e : Miss h q ≡ Dropped = d.1 in cc)
asked_lawful s t octets h q (inr (long, inl d)) = absurd (let e : Miss h q ≡ Dropped = d.1 in cc)
asked_lawful s t octets h q (inr (long, inr (asking, inl d))) =
    absurd (let e : Miss h q ≡ Reply _ = d.1 in cc)
asked_lawful s t octets h q (inr (long, inr (asking, inr (plain, inl d)))) =
    absurd (let e : Miss h q ≡ Unread _ d.1.0 = d.1.2 in cc)
asked_lawful s t octets h q (inr (long, inr (asking, inr (plain, inr d)))) = go d.1.3
  where
    go : DecidesQuestion s t (header_of octets) d.1.0 (Miss h q) → IsQuestionData q
    go (inl k) = absurd (let e : Miss h q ≡ Reply _ = k.1 in cc)
    go (inr k) =
        missed_lawful (answer_of s t d.1.0.name d.1.0.rtype) (header_of octets) h d.1.0 q
        (question_asked octets 12 d.1.0 d.1.1 d.1.2.question) k.1

module _ (stay : WaitersStay) where
  -- what is asked afterwards
  kept_asking : (o : PendingData) (d c : Effect) → AskLawfully o → c.asking ≡ o → d ≡ c
      → AskLawfully d.asking
  kept_asking o d c k e q = subst AskLawfully (sym (ap (λ (x : Effect). x.asking) q ∙ e)) k

  reacts_asking : (upstreams : List Addr) (s : List ObservationData) (o : PendingData) (t : ℕ)
      (from : Addr) (word : ℕ) (octets : List ℕ) (v : DecisionData) (d : Effect) → AskLawfully o
      → Decides s t octets v → Reacts upstreams o t from word v d → AskLawfully d.asking
  reacts_asking upstreams s o t from word octets Dropped d k is e = kept_asking o d _ k refl e
  reacts_asking upstreams s o t from word octets (Reply bytes) d k is e =
      kept_asking o d _ k refl e
  reacts_asking upstreams s o t from word octets (Unread bytes f) d k is e =
      kept_asking o d _ k refl e
  reacts_asking upstreams s o t from word octets (Miss h q) d k is (inl e) =
      kept_asking o d _ k refl e.1
  reacts_asking upstreams s o t from word octets (Miss h q) d k is (inr e) = λ w waits.
      elim (stay.asking o d.asking (waiter from h q) w t word e.1.answer e.1.asks waits) [
        | inl before ↦ k w before
        | inr new ↦ subst (λ (x : WaiterData). IsQuestionData x.question) (sym new)
            (asked_lawful s t octets h q is)
      ]

  framed_asking : (o : PendingData) (octets : List ℕ) (d : Effect) → AskLawfully o
      → Framed o octets d → AskLawfully d.asking
  framed_asking o octets d k (inl h) = kept_asking o d _ k refl h.1.2
  framed_asking o octets d k (inr h) = kept_asking o d _ k refl h.1.2

  learnt_asking : (o : PendingData) (t : ℕ) (octets : List ℕ) (d : Effect) → AskLawfully o
      → Learnt o t octets d → AskLawfully d.asking
  learnt_asking o t octets d k (inl h) = kept_asking o d _ k refl h.1.2
  learnt_asking o t octets d k (inr h) = go h.1.2
    where
      go : DigestedThen o h.1.0 d (λ g. d ≡ takes (reply_observations g t) o)
          → AskLawfully d.asking
      go (inl e) = kept_asking o d _ k refl e.1
      go (inr (other, inl e)) = kept_asking o d _ k refl e.1
      go (inr (other, inr e)) = kept_asking o d _ k refl e.1.2

  ticked_asking : (upstreams : List Addr) (o : PendingData) (t : ℕ) (d : Effect) → AskLawfully o
      → Ticked upstreams o t d → AskLawfully d.asking
  ticked_asking upstreams o t d k (inl h) = kept_asking o d _ k refl h.1
  ticked_asking upstreams o t d k (inr h) = λ w waits. elim h.1.served [
    | inl e ↦ k w (stay.advancing o d.asking w h.1.entry.id t true e.1.moves waits)
    | inr e ↦ k w (stay.settling o d.asking w h.1.entry.id (Some h.1.entry) e.1.settles waits)
  ]

  replied_asking : (o : PendingData) (t place : ℕ) (octets : List ℕ) (d : Effect) → AskLawfully o
      → Replied o t place octets d → AskLawfully d.asking
  replied_asking o t place octets d k (inl h) = kept_asking o d _ k refl h.1
  replied_asking o t place octets d k (inr (long, inl h)) = kept_asking o d _ k refl h.1
  replied_asking o t place octets d k (inr (long, inr (response, inl h))) =
      kept_asking o d _ k refl h.1.2
  replied_asking o t place octets d k (inr (long, inr (response, inr h))) = go h.1.2
    where
      go : (when NoneIs (Matches place h.1.0.header.id h.1.0.question) o.entries
          then d ≡ refuses Unmatched o otherwise
          DigestedThen o h.1.0 d (λ g. MatchedThen o place h.1.0 (λ e. Relays o t e g d)))
          → AskLawfully d.asking
      go (inl e) = kept_asking o d _ k refl e.1
      go (inr (some, inl e)) = kept_asking o d _ k refl e.1
      go (inr (some, inr (served, inl e))) = kept_asking o d _ k refl e.1
      go (inr (some, inr (served, inr e))) = λ w waits.
          let r = e.1.2.1 in
          k w (stay.settling o d.asking w r.0.id (Some r.0) r.3.settles waits)

  dispatched_asking : (s : SiteModel) (from : Addr) (word : ℕ) (octets : List ℕ) (d : Effect)
      → AskLawfully s.pending → Dispatches s from word octets d → AskLawfully d.asking
  dispatched_asking s from word octets d k (inl h) =
      replied_asking s.pending s.clock h.1.0 octets d k h.1.2
  dispatched_asking s from word octets d k (inr (x, inl h)) =
      framed_asking s.pending octets d k h.1
  dispatched_asking s from word octets d k (inr (x, inr (y, h))) =
      reacts_asking s.upstreams s.taken s.pending s.clock from word octets h.0 d k h.1 h.2

  does_asking : (c : Call) (s : SiteModel) (d : Effect) → AskLawfully s.pending → Does c s d
      → AskLawfully d.asking
  does_asking (datagram now from octets word) s d k h = dispatched_asking s from word octets d k h
  does_asking (tick now) s d k h = ticked_asking s.upstreams s.pending s.clock d k h
  does_asking (frame now octets) s d k h = framed_asking s.pending octets d k h
  does_asking (learn now octets) s d k h = learnt_asking s.pending s.clock octets d k h
  does_asking (flush now name) s d k h = kept_asking s.pending d _ k refl h.2

  begun_pending : (c : Call) (s : SiteModel) → (with_call_begun c s).pending ≡ s.pending
  begun_pending (datagram now from octets word) s = refl
  begun_pending (tick now) s = refl
  begun_pending (frame now octets) s = refl
  begun_pending (learn now octets) s = refl
  begun_pending (flush now name) s = refl

  step_asking : (c : Call) (r : Result OutcomeData SiteFault) (s n : SiteModel)
      → AskLawfully s.pending → SiteStep s c r n → AskLawfully n.pending
  step_asking c (Ok o) s n k h =
      subst (λ (x : SiteModel). AskLawfully x.pending) (sym h.3)
      (does_asking c (with_call_begun c s) h.0
      (subst AskLawfully (sym (begun_pending c s)) k) h.1)
  step_asking c (Err (OutOfMemory count)) s n k (inl h) =
      subst (λ (x : SiteModel). AskLawfully x.pending) (sym h.1)
      (subst AskLawfully (sym (begun_pending c s)) k)
  step_asking c (Err (OutOfMemory count)) s n k (inr h) =
      subst (λ (x : SiteModel). AskLawfully x.pending) (sym h.2.1)
      (subst AskLawfully (sym (begun_pending c s)) k)

  nobody : (n : ℕ) → AskLawfully (record { upstreams = n; entries = [] })
  nobody n w waits = absurd (let e : None ≡ Some waits.entry = waits.there in cc)

  becomes_asking : {A : Type 0} (m : FleetModel) (e : Event A) (r : Result OutcomeData SiteFault)
      (a b : Replica) → AskLawfully a.site.pending → Becomes m e r a b
      → AskLawfully b.site.pending
  becomes_asking m (Datagram site now from word bytes) r a b k h =
      step_asking (datagram now from bytes word) r a.site b.site k h.step
  becomes_asking m (Tick site now) r a b k h = step_asking (tick now) r a.site b.site k h.step
  becomes_asking m (Frame site now bytes) r a b k h =
      step_asking (frame now bytes) r a.site b.site k h.step
  becomes_asking m (Learn site now bytes) r a b k h =
      step_asking (learn now bytes) r a.site b.site k h.step
  becomes_asking m (Flush site now name) r a b k h =
      step_asking (flush now name) r a.site b.site k h.step
  becomes_asking m (Deliver site now number) r a b k h =
      subst (λ (s : SiteModel). AskLawfully s.pending)
      (sym (ap (λ (c : Replica). c.site) h.delivered
      ∙ with_delivery_site r m.sweeps number h.read))
      (step_asking (frame now h.octets) r a.site h.read.site k h.calls.step)
  becomes_asking m (Sweep site) (Ok o) a b k h =
      subst (λ (c : Replica). AskLawfully c.site.pending) (sym h.1) k
  becomes_asking m (Sweep site) (Err (OutOfMemory count)) a b k h =
      subst (λ (c : Replica). AskLawfully c.site.pending) (sym h.1) k
  becomes_asking m (Merge into from) (Ok o) a b k (inl h) =
      subst (λ (c : Replica). AskLawfully c.site.pending) (sym h.1.1) k
  becomes_asking m (Merge into from) (Ok o) a b k (inr h) =
      subst (λ (s : SiteModel). AskLawfully s.pending) (sym h.1.0.merges.3) k
  becomes_asking m (Merge into from) (Err (OutOfMemory count)) a b k h =
      subst (λ (s : SiteModel). AskLawfully s.pending) (sym h.1.merges.2.1) k
  becomes_asking m (Restart site) (Ok o) a b k h =
      subst (λ (c : Replica). AskLawfully c.site.pending) (sym h.1) (nobody _)
  becomes_asking m (Restart site) (Err (OutOfMemory count)) a b k h = absurd h

  -- at each site
  abbrev pub AllAskLawfully : FleetModel → Type 0
  AllAskLawfully m = (i : ℕ) (a : Replica) → At m.sites i a → AskLawfully a.site.pending

  set_asking : (m : FleetModel) (i : ℕ) (b : Replica) → AllAskLawfully m
      → AskLawfully b.site.pending → (j : ℕ) (c : Replica) → At (slice_set m.sites i b) j c
      → AskLawfully c.site.pending
  set_asking m i b k new j c h = elim (at_set m.sites i j b c h) [
    | inl y ↦ subst (λ (x : Replica). AskLawfully x.site.pending) (sym y.1) new
    | inr y ↦ k j c y.1
  ]

  fleet_asking : {A : Type 0} (m : FleetModel) (e : Event A)
      (r : Result (Stepped A) (WorldFault A)) (n : FleetModel) → AllAskLawfully m → Step m e r n
      → AllAskLawfully n
  fleet_asking m e r n k (is_done s h told) = subst AllAskLawfully (sym h.next)
      (set_asking m (site_of e) h.new k
      (becomes_asking m e (Ok h.outcome) h.old h.new (k (site_of e) h.old h.there) h.becomes))
  fleet_asking m e r n k (is_missing f missing told same) = subst AllAskLawfully (sym same) k
  fleet_asking m e r n k (is_stopped count h told) = subst AllAskLawfully (sym h.next)
      (set_asking m (site_of e) h.new k
      (becomes_asking m e (Err (OutOfMemory count)) h.old h.new (k (site_of e) h.old h.there)
      h.becomes))
  fleet_asking m e r n k (loses_frames s h told) = subst AllAskLawfully (sym h.next)
      (set_asking m (site_of e) h.new k
      (becomes_asking m e (Ok h.outcome) h.old h.new (k (site_of e) h.old h.there) h.becomes))

  run_asking : {A : Type 0} (m : FleetModel) (es : List (Event A)) (rs : Results A)
      (n : FleetModel) → Run m es rs n → AllAskLawfully m → AllAskLawfully n
  run_asking m [] [] n h k = subst AllAskLawfully (sym h) k
  run_asking m (e ∷ es) (r ∷ rs) n h k =
      run_asking h.0 es rs n h.2 (fleet_asking m e r h.0 k h.1)
  run_asking m [] (r ∷ rs) n h k = absurd h
  run_asking m (e ∷ es) [] n h k = absurd h

  opening_asking : (configs : List ConfigData) → AllAskLawfully (opening configs)
  opening_asking configs i a h =
      let r = at_mapped opening_replica configs i a h in
      subst (λ (c : Replica). AskLawfully c.site.pending) r.2 (nobody _)

  -- at the end of each run all who wait asked a lawful question
  pub all_ask_lawfully : {A : Type 0} (configs : List ConfigData) (es : List (Event A))
      (rs : Results A) (n : FleetModel) → Run (opening configs) es rs n → AllAskLawfully n
  all_ask_lawfully configs es rs n h =
      run_asking (opening configs) es rs n h (opening_asking configs)
