-- Where nothing new comes in, nothing new is heard of; and a site that sends no frame knows nothing
-- that lasts.
-- Serves the laws `agreement`, `fresh`, `telling`, `withdrawn`.
use Rattle.std.proofs.Common.{◌≡◌, ℕ, suc, ◌<◌, ◌≤◌, Bool, true, false, cond, ◌⊎◌, inl, inr, List, [], ◌∷◌, ◌++◌, length, slice_set, take, refl, sym, ap, subst, ◌∙◌, arith, Option, Some, None, Result, Ok, Err}
use Rattle.std.proofs.lemmas.List.{append_cancel_right}
use Rattle.std.proofs.lemmas.Option.{slice_get_within}
use Rattle.fleet_name.specs.Places.{At, Has, NoneIs}
use Rattle.fleet_name.proofs.Lemmas.{has_either, Has-filter, at_same, at_set}
use Rattle.fleet_observe.specs.Observation.{ObservationData, expires}
use Rattle.fleet_observe.specs.Observations.{reply_observations}
use Rattle.fleet_cache.specs.Cached.{IsCached}
use Rattle.fleet_gossip.specs.Frame.{SpellsFrame}
use Rattle.fleet_gossip.specs.Packed.{IsPacked, none, more}
use Rattle.fleet_pending.specs.PendingData.{PendingData, Matches}
use Rattle.fleet_site.specs.Choice.{when◌then◌otherwise◌}
use Rattle.fleet_site.specs.OutcomeData.{OutcomeData}
use Rattle.fleet_site.specs.SiteModel.{SiteModel, Effect, refuses, takes}
use Rattle.fleet_site.specs.gossip.Flush.{Flushed}
use Rattle.fleet_site.specs.gossip.Frame.{Framed}
use Rattle.fleet_site.specs.reply.Digested.{DigestedThen}
use Rattle.fleet_site.specs.reply.Learn.{Learnt}
use Rattle.fleet_site.specs.reply.Reply.{Relays, MatchedThen, Replied}
use Rattle.fleet_site.specs.declared.outcome.Refusal.{Refusal}
use Rattle.fleet_site.specs.declared.outcome.Refusal.TheVariants.{Unmatched}
use Rattle.fleet_site.specs.declared.outcome.SiteFault.{SiteFault}
use Rattle.fleet_site.specs.declared.outcome.SiteFault.TheVariants.{OutOfMemory}
use Rattle.fleet_site.specs.Step.{Call, datagram, tick, frame, learn, flush, with_call_begun, Does}
use Rattle.fleet_site.specs.Step.{Step as SiteStep}
use Rattle.fleet_world.specs.FleetModel.{Replica, SentSweep, FleetModel, contains_all, with_sweep, with_whole_sweeps, with_delivery, numbers_from}
use Rattle.fleet_world.specs.Becomes.{Calls, with_delivery_unless, with_delivery_by, Delivers, Becomes}
use Rattle.fleet_world.specs.Event.{site_of}
use Rattle.fleet_world.specs.Step.{sweeps_of, Step, is_done, is_missing, is_stopped, loses_frames}
use Rattle.fleet_world.specs.Run.{Results, Run}
use Rattle.fleet_world.specs.Quiet.{TakesNothing, BringsNoNews, BringNoNews, IsKnown}
use Rattle.fleet_world.specs.Agreement.{QuietHear, SilentEnded}
use Rattle.fleet_world.specs.declared.event.Event.{Event}
use Rattle.fleet_world.specs.declared.event.Event.TheVariants.{Datagram, Tick, Sweep, Frame, Deliver, Learn, Flush, Merge, Restart}
use Rattle.fleet_world.specs.declared.stepped.Stepped.{Stepped}
use Rattle.fleet_world.specs.declared.fault.WorldFault.{WorldFault}
use Rattle.fleet_world.specs.declared.fault.WorldFault.TheVariants.{Memory, FramesLost}
use Rattle.fleet_world.proofs.Calls as calls
use Rattle.fleet_world.proofs.Covers.{front_covers}
use Rattle.fleet_world.proofs.Lists.{has_take, at_parts, contains_all_has}
use Rattle.fleet_world.proofs.Packs.{OneList}
use Rattle.fleet_world.proofs.Kept.{becomes_ok}
use Rattle.fleet_world.proofs.Reached.{RunOk, step_all, ran_ok, new_sweep}

-- a member of as many as none
some_none : (xs : List ObservationData) (x : ObservationData) → length xs ≡ 0 → Has xs x → ⊥
some_none [] x e h = h
some_none (y ∷ ys) x e h = absurd (omega arith)

-- a deed that takes nothing brings nothing
takes_none : (list : List ObservationData) (o : PendingData) (d : Effect) (x : ObservationData)
    → d ≡ takes list o → d.says.taken ≡ 0 → Has d.brings x → ⊥
takes_none list o d x e z m =
    let t : d.says.taken ≡ length list = ap (λ (y : Effect). y.says.taken) e in
    some_none list x (sym t ∙ z) (subst (λ xs. Has xs x) (ap (λ (y : Effect). y.brings) e) m)

framed_none : (o : PendingData) (octets : List ℕ) (d : Effect) (x : ObservationData)
    → Framed o octets d → d.says.taken ≡ 0 → Has d.brings x → ⊥
framed_none o octets d x (inl h) z m = calls.brings_none d _ x refl h.1.2 m
framed_none o octets d x (inr h) z m = takes_none h.1.0 o d x h.1.2 z m

learnt_none : (o : PendingData) (t : ℕ) (octets : List ℕ) (d : Effect) (x : ObservationData)
    → Learnt o t octets d → d.says.taken ≡ 0 → Has d.brings x → ⊥
learnt_none o t octets d x (inl h) z m = calls.brings_none d _ x refl h.1.2 m
learnt_none o t octets d x (inr h) z m = go h.1.2
  where
    go : DigestedThen o h.1.0 d (λ g. d ≡ takes (reply_observations g t) o) → ⊥
    go (inl k) = calls.brings_none d _ x refl k.1 m
    go (inr (other, inl k)) = calls.brings_none d _ x refl k.1 m
    go (inr (other, inr k)) = takes_none (reply_observations k.1.0 t) o d x k.1.2 z m

replied_none : (o : PendingData) (t place : ℕ) (octets : List ℕ) (d : Effect) (x : ObservationData)
    → Replied o t place octets d → d.says.taken ≡ 0 → Has d.brings x → ⊥
replied_none o t place octets d x (inl h) z m = calls.brings_none d _ x refl h.1 m
replied_none o t place octets d x (inr (long, inl h)) z m = calls.brings_none d _ x refl h.1 m
replied_none o t place octets d x (inr (long, inr (response, inl h))) z m =
    calls.brings_none d _ x refl h.1.2 m
replied_none o t place octets d x (inr (long, inr (response, inr h))) z m = go h.1.2
  where
    go : (when NoneIs (Matches place h.1.0.header.id h.1.0.question) o.entries then d
        ≡ refuses Unmatched o otherwise
        DigestedThen o h.1.0 d (λ g. MatchedThen o place h.1.0 (λ e. Relays o t e g d))) → ⊥
    go (inl k) = calls.brings_none d _ x refl k.1 m
    go (inr (some, inl k)) = calls.brings_none d _ x refl k.1 m
    go (inr (some, inr (served, inl k))) = calls.brings_none d _ x refl k.1 m
    go (inr (some, inr (served, inr k))) =
        let t : d.says.taken ≡ length d.brings =
        ap (λ (y : OutcomeData). y.taken) k.1.2.1.3.says in
        some_none d.brings x (sym t ∙ z) m

flushed_none : (o : PendingData) (name : List (List ℕ)) (t : ℕ) (d : Effect)
    → Flushed o name t d → d.says.taken ≡ 0 → ⊥
flushed_none o name t d h z =
    let e : d.says.taken ≡ 1 = ap (λ (y : Effect). y.says.taken) h.2 in omega arith

call_none : (c : Call) (s : SiteModel) (d : Effect) (x : ObservationData) → Does c s d
    → d.says.taken ≡ 0 → Has d.brings x → ⊥
call_none (datagram now from octets word) s d x (inl h) z m =
    replied_none s.pending s.clock h.1.0 octets d x h.1.2 z m
call_none (datagram now from octets word) s d x (inr (other, inl h)) z m =
    framed_none s.pending octets d x h.1 z m
call_none (datagram now from octets word) s d x (inr (other, inr h)) z m =
    calls.questioned_brings s.taken s.upstreams s.pending s.clock from word octets d x h.1 m
call_none (tick now) s d x h z m = calls.ticked_brings s.upstreams s.pending s.clock d x h m
call_none (frame now octets) s d x h z m = framed_none s.pending octets d x h z m
call_none (learn now octets) s d x h z m = learnt_none s.pending s.clock octets d x h z m
call_none (flush now name) s d x h z m = flushed_none s.pending name s.clock d h z

-- the outcome of a call that gave nothing to the cache
abbrev pub Nothing : Result OutcomeData SiteFault → Type 0
Nothing (Ok o) = o.taken ≡ 0
Nothing (Err (OutOfMemory count)) = count ≡ 0

-- what a step takes that gives nothing to the cache
step_none : (c : Call) (r : Result OutcomeData SiteFault) (s n : SiteModel) (h : SiteStep s c r n)
    → Nothing r → (x : ObservationData) → Has (calls.step_brings c r s n h).0 x → ⊥
unfolding calls.step_brings
step_none c (Ok o) s n h z x m =
    let t : o.taken ≡ h.0.says.taken = ap (λ (y : OutcomeData). y.taken) h.2 in
    call_none c (with_call_begun c s) h.0 x h.1 (sym t ∙ z) m
step_none c (Err (OutOfMemory count)) s n (inl h) z x m = m
step_none c (Err (OutOfMemory count)) s n (inr h) z x m =
    subst (λ k. Has (take k h.0.brings) x) z m

-- what a step takes is what its deed brings
step_some : (c : Call) (r : Result OutcomeData SiteFault) (s n : SiteModel) (h : SiteStep s c r n)
    (x : ObservationData) → Has (calls.step_brings c r s n h).0 x
    → (d : Effect) × Does c (with_call_begun c s) d × Has d.brings x
unfolding calls.step_brings
step_some c (Ok o) s n h x m = (h.0, h.1, m)
step_some c (Err (OutOfMemory count)) s n (inl h) x m = absurd m
step_some c (Err (OutOfMemory count)) s n (inr h) x m =
    (h.0, h.1, has_take count h.0.brings x m)

-- what a call brings is what its step takes
brought_same : (c : Call) (r : Result OutcomeData SiteFault) (a b : Replica) (k : Calls c r a b)
    → k.joins.brought ≡ (calls.step_brings c r a.site b.site k.step).0
brought_same c r a b k =
    let t = calls.step_brings c r a.site b.site k.step in
    append_cancel_right k.joins.brought t.0 a.site.taken (sym k.joins.taken ∙ t.1)

-- what crediting sweeps adds is of sweeps that are whole
credits_only : (ws : List SentSweep) (a : Replica) (x : ObservationData)
    → Has (with_whole_sweeps ws a).heard x → Has a.heard x ⊎ ((w : SentSweep) × Has ws w
    × (contains_all w.numbers a.delivered ≡ true) × Has w.heard x)
credits_only [] a x h = inl h
credits_only (v ∷ ws) a x h = go (credits_only ws) (contains_all v.numbers a.delivered) refl h
  where
    go : ((c : Replica) (x : ObservationData) → Has (with_whole_sweeps ws c).heard x
        → Has c.heard x ⊎ ((w : SentSweep) × Has ws w
        × (contains_all w.numbers c.delivered ≡ true) × Has w.heard x))
        → (b : Bool) → contains_all v.numbers a.delivered ≡ b
        → Has (with_whole_sweeps ws (cond b (with_sweep v a) a)).heard x
        → Has a.heard x ⊎ ((w : SentSweep) × Has (v ∷ ws) w
        × (contains_all w.numbers a.delivered ≡ true) × Has w.heard x)
    go f true e h = elim (f (with_sweep v a) x h) [
      | inl m ↦ elim (has_either v.heard a.heard x m) [
        | inl p ↦ inr (v, inl refl, e, p)
        | inr q ↦ inl q
      ]
      | inr w ↦ inr (w.0, inr w.1, w.2, w.3)
    ]
    go f false e h = elim (f a x h) [
      | inl m ↦ inl m
      | inr w ↦ inr (w.0, inr w.1, w.2, w.3)
    ]

-- What is kept true along a quiet run, where frames from `first` on are those that were kept in it:
-- sites, and these frames, have what is in B alone; and so have the sweeps, but for old ones.
pub record Within (B : ObservationData → Type 0) (first : ℕ) (m : FleetModel) : Type 0 where
  pub heard : (i : ℕ) (a : Replica) → At m.sites i a → (x : ObservationData) → Has a.heard x → B x
  pub frames : (n : ℕ) (octets : List ℕ) → At m.frames n octets → first ≤ n
      → (list : List ObservationData) → SpellsFrame octets list → (x : ObservationData)
      → Has list x → B x
  pub sweeps : (w : SentSweep) → Has m.sweeps w → ((x : ObservationData) → Has w.heard x → B x)
      ⊎ ((n : ℕ) → Has w.numbers n → n < first)

-- an event is quiet, by the outcome at its site
abbrev pub IsQuietAt : {A : Type 0} → ℕ → Event A → Result OutcomeData SiteFault → Type 0
IsQuietAt first (Deliver site now number) r = first ≤ number
IsQuietAt first (Merge into from) r = Unit {0}
IsQuietAt first e r = Nothing r

quiet_at : {A : Type 0} (first : ℕ) (e : Event A) (r : Result (Stepped A) (WorldFault A))
    (q : Result OutcomeData SiteFault) → (TakesNothing r → Nothing q) → BringsNoNews first e r
    → IsQuietAt first e q
quiet_at first (Deliver site now number) r q f h = h
quiet_at first (Merge into from) r q f h = h
quiet_at first (Datagram site now from word bytes) r q f h = f h
quiet_at first (Tick site now) r q f h = f h
quiet_at first (Sweep site) r q f h = f h
quiet_at first (Frame site now bytes) r q f h = f h
quiet_at first (Learn site now bytes) r q f h = f h
quiet_at first (Flush site now name) r q f h = f h
quiet_at first (Restart site) r q f h = f h

module _ (one : OneList) (B : ObservationData → Type 0) (first : ℕ) (m : FleetModel) (ok : RunOk m)
    (k : Within B first m) where
  calls_within : (c : Call) (r : Result OutcomeData SiteFault) (i : ℕ) (a b : Replica)
      → At m.sites i a → Calls c r a b → Nothing r → (x : ObservationData) → Has b.heard x → B x
  calls_within c r i a b at h z x p =
      elim (has_either h.joins.brought a.heard x (subst (λ xs. Has xs x) h.joins.heard p)) [
        | inl q ↦ absurd (step_none c r a.site b.site h.step z x
            (subst (λ xs. Has xs x) (brought_same c r a b h) q))
        | inr q ↦ k.heard i a at x q
      ]

  -- a frame that was kept in the run comes in
  module _ (now number : ℕ) (r : Result OutcomeData SiteFault) (i : ℕ) (a b : Replica)
      (at : At m.sites i a) (d : Delivers m now number r a b) (le : first ≤ number) where
    read_within : (x : ObservationData) → Has d.read.heard x → B x
    read_within x p =
        let j = d.calls.joins in
        elim (has_either j.brought a.heard x (subst (λ xs. Has xs x) j.heard p)) [
          | inl q ↦
              let s = step_some (frame now d.octets) r a.site d.read.site d.calls.step x
              (subst (λ xs. Has xs x) (brought_same (frame now d.octets) r a d.read d.calls) q) in
              let f = calls.framed_brings a.site.pending d.octets s.0 x s.1 s.2 in
              k.frames number d.octets d.kept le f.0 f.1 x f.2
          | inr q ↦ k.heard i a at x q
        ]

    done_within : (x : ObservationData) → Has (with_delivery m.sweeps number d.read).heard x → B x
    done_within x p =
        elim (credits_only m.sweeps (record d.read { delivered = number ∷ d.read.delivered }) x p) [
          | inl q ↦ read_within x q
          | inr w ↦ elim (k.sweeps w.0 w.1) [
            | inl f ↦ f x w.3
            | inr old ↦
                let whole : (n : ℕ) → Has w.0.numbers n → Has a.delivered n = λ n h. elim
                (contains_all_has w.0.numbers (number ∷ d.read.delivered) w.2 n h) [
                  | inl e ↦ absurd (let l = old n h in omega arith)
                  | inr g ↦ subst (λ ns. Has ns n) d.calls.joins.delivered g
                ] in
                k.heard i a at x ((ok.hops.heard i a w.0 at w.1 whole).heard x w.3)
          ]
        ]

    unless_within : (refused : Option Refusal) (x : ObservationData)
        → Has (with_delivery_unless refused m.sweeps number d.read).heard x → B x
    unless_within None x p = done_within x p
    unless_within (Some f) x p = read_within x p

    by_within : (q : Result OutcomeData SiteFault) (x : ObservationData)
        → Has (with_delivery_by q m.sweeps number d.read).heard x → B x
    by_within (Ok o) x p = unless_within o.refused x p
    by_within (Err f) x p = read_within x p

    delivers_within : (x : ObservationData) → Has b.heard x → B x
    delivers_within x p =
        by_within r x (subst (λ (c : Replica). Has c.heard x) d.delivered p)

  pub becomes_within : {A : Type 0} (e : Event A) (r : Result OutcomeData SiteFault)
      (a b : Replica) → At m.sites (site_of e) a → Becomes m e r a b → IsQuietAt first e r
      → (x : ObservationData) → Has b.heard x → B x
  becomes_within (Datagram site now from word bytes) r a b at h z x p =
      calls_within (datagram now from bytes word) r site a b at h z x p
  becomes_within (Tick site now) r a b at h z x p = calls_within (tick now) r site a b at h z x p
  becomes_within (Frame site now bytes) r a b at h z x p =
      calls_within (frame now bytes) r site a b at h z x p
  becomes_within (Learn site now bytes) r a b at h z x p =
      calls_within (learn now bytes) r site a b at h z x p
  becomes_within (Flush site now name) r a b at h z x p =
      calls_within (flush now name) r site a b at h z x p
  becomes_within (Deliver site now number) r a b at h z x p =
      delivers_within now number r site a b at h z x p
  becomes_within (Sweep site) (Ok o) a b at h z x p =
      k.heard site a at x (subst (λ (c : Replica). Has c.heard x) h.1 p)
  becomes_within (Sweep site) (Err (OutOfMemory count)) a b at h z x p =
      k.heard site a at x (subst (λ (c : Replica). Has c.heard x) h.1 p)
  becomes_within (Merge into from) (Ok o) a b at (inl h) z x p =
      k.heard into a at x (subst (λ (c : Replica). Has c.heard x) h.1.1 p)
  becomes_within (Merge into from) (Ok o) a b at (inr h) z x p = let j = h.1.0 in
      elim (has_either j.other.heard a.heard x (subst (λ xs. Has xs x) j.heard p)) [
        | inl q ↦ k.heard from j.other j.there x q
        | inr q ↦ k.heard into a at x q
      ]
  becomes_within (Merge into from) (Err (OutOfMemory count)) a b at h z x p =
      let j = h.1 in
      let t : b.site.taken ≡ take count j.merges.0 ++ a.site.taken =
      ap (λ (y : SiteModel). y.taken) j.merges.2.1 in
      let e : j.joins.brought ≡ take count j.merges.0 =
      append_cancel_right j.joins.brought (take count j.merges.0) a.site.taken
      (sym j.joins.taken ∙ t) in
      elim (has_either j.joins.brought a.heard x (subst (λ xs. Has xs x) j.joins.heard p)) [
        | inl q ↦
            let n = has_take count j.merges.0 x (subst (λ xs. Has xs x) e q) in
            let l = (Has-filter _ j.other.site.taken x (j.merges.1.front.of_set x n)).0 in
            k.heard from j.other j.there x
            ((ok.model.sites from j.other j.there).heard_of x l)
        | inr q ↦ k.heard into a at x q
      ]
  becomes_within (Restart site) (Ok o) a b at h z x p =
      absurd (subst (λ (c : Replica). Has c.heard x) h.1 p)
  becomes_within (Restart site) (Err (OutOfMemory count)) a b at h z x p = absurd h

  -- one site becomes another, and no frame is kept
  sites_within : {A : Type 0} (e : Event A) (r : Result OutcomeData SiteFault) (a b : Replica)
      → At m.sites (site_of e) a → Becomes m e r a b → IsQuietAt first e r
      → Within B first (record m { sites = slice_set m.sites (site_of e) b })
  sites_within e r a b at h z = record {
    heard = λ i c t x p. elim (at_set m.sites (site_of e) i b c t) [
      | inl q ↦ becomes_within e r a b at h z x
          (subst (λ (y : Replica). Has y.heard x) q.1 p)
      | inr q ↦ k.heard i c q.1 x p
    ];
    frames = k.frames;
    sweeps = k.sweeps;
  }

  pub step_within : {A : Type 0} (e : Event A) (r : Result (Stepped A) (WorldFault A))
      (n : FleetModel) → Step m e r n → BringsNoNews first e r → Within B first n
  step_within {A} e r n (is_done s h told) z = subst (Within B first) (sym h.next) (record {
    heard = (sites_within e (Ok h.outcome) h.old h.new h.there h.becomes quiet).heard;
    frames = λ i octets t le list spells x p. elim (at_parts m.frames h.outcome.frames i octets t) [
      | inl q ↦ k.frames i octets q le list spells x p
      | inr q ↦
          let taken = calls.sent_taken one m e h.outcome h.old h.new h.becomes octets q list spells
          x p in
          let new = becomes_ok one m e (Ok h.outcome) h.old h.new h.becomes ok.model
          (ok.model.sites (site_of e) h.old h.there) in
          becomes_within e (Ok h.outcome) h.old h.new h.there h.becomes quiet x
          (new.heard_of x taken)
    ];
    sweeps = λ w p. elim
        (has_either (sweeps_of e (length m.frames) h.outcome.frames h.old) m.sweeps w p) [
          | inl q ↦
              let f = new_sweep m e h.outcome h.old h.new h.becomes w q in
              inl (λ x y. k.heard (site_of e) h.old h.there x (subst (λ xs. Has xs x) f.heard y))
          | inr q ↦ k.sweeps w q
        ];
  })
    where
      unsaid : TakesNothing r → h.outcome.taken ≡ 0
      unsaid y =
          let t : TakesNothing {A = A} (Ok s) = subst TakesNothing told y in
          sym (ap (λ (v : Stepped A). v.taken) h.says) ∙ t

      quiet : IsQuietAt first e (Ok h.outcome)
      quiet = quiet_at first e r (Ok h.outcome) unsaid z
  step_within e r n (is_missing f missing told same) z = subst (Within B first) (sym same) k
  step_within {A} e r n (is_stopped count h told) z = subst (Within B first) (sym h.next)
      (sites_within e (Err (OutOfMemory count)) h.old h.new h.there h.becomes
      (quiet_at first e r (Err (OutOfMemory count)) unsaid z))
    where
      unsaid : TakesNothing r → count ≡ 0
      unsaid y = let t : TakesNothing {A = A} (Err (Memory count)) = subst TakesNothing told y in t
  step_within {A} e r n (loses_frames s h told) z = subst (Within B first) (sym h.next)
      (sites_within e (Ok h.outcome) h.old h.new h.there h.becomes
      (quiet_at first e r (Ok h.outcome) unsaid z))
    where
      unsaid : TakesNothing r → h.outcome.taken ≡ 0
      unsaid y =
          let t : TakesNothing {A = A} (Err (FramesLost s)) = subst TakesNothing told y in
          sym (ap (λ (v : Stepped A). v.taken) h.says) ∙ t

module _ (one : OneList) where
  run_within : {A : Type 0} (B : ObservationData → Type 0) (first : ℕ) (m : FleetModel)
      (es : List (Event A)) (rs : Results A) (n : FleetModel) → Run m es rs n
      → BringNoNews first es rs → RunOk m → Within B first m → Within B first n
  run_within B first m [] [] n h z ok k = subst (Within B first) (sym h) k
  run_within B first m (e ∷ es) (r ∷ rs) n h z ok k =
      run_within B first h.0 es rs n h.2 z.1 (step_all one m e r h.0 h.1 ok)
      (step_within one B first m ok k e r h.0 h.1 z.0)
  run_within B first m [] (r ∷ rs) n h z ok k = absurd h
  run_within B first m (e ∷ es) [] n h z ok k = absurd h

  -- at first there is what is known, and no frame from there on
  pub known_within : (m : FleetModel) → RunOk m → (B : ObservationData → Type 0)
      → ((o : ObservationData) → IsKnown m o → B o) → Within B (length m.frames) m
  known_within m ok B f = record {
    heard = λ i a at x p. f x (record { site = i; replica = a; there = at; heard = p });
    frames = λ i octets at le list spells x p.
        absurd (let b = slice_get_within m.frames i octets at in omega arith);
    sweeps = λ w p. inr (ok.hops.within w p);
  }

  -- where nothing new came in, nothing new was heard of
  pub quiet : (A : Type 0) → QuietHear A
  quiet A configs m n l q o known =
      let ok = ran_ok one A configs m l in
      let k = run_within (IsKnown m) (length m.frames) m q.events q.results n q.run q.quiet ok
      (known_within m ok (IsKnown m) (λ x p. p)) in
      k.heard known.site known.replica known.there o known.heard

  -- a list without a frame is empty
  none_packed : (items : List ObservationData) (frames : List (List ℕ)) (x : ObservationData)
      → IsPacked items frames → frames ≡ [] → Has items x → ⊥
  none_packed items frames x (none e q) z m = subst (λ xs. Has xs x) e m
  none_packed items frames x (more part rest head others e some spells full packed q) z m = cc

  numbers_none : (n : ℕ) (fs : List (List ℕ)) → numbers_from n (length fs) ≡ [] → fs ≡ []
  numbers_none n [] e = refl
  numbers_none n (f ∷ fs) e = absurd (let q : n ∷ numbers_from (suc n) (length fs) ≡ [] = e in cc)

  not_above : (x y : ℕ) → (y < x → ⊥) → x ≤ y
  not_above x y f = grind arith

  -- where a sweep has no frame, all that its site has heard of has ended by the site's horizon
  pub silent : (A : Type 0) → SilentEnded A
  silent A configs m n i a s l at (is_done d h told) unsent o heard =
      not_above (expires o) a.horizon (λ late.
      let e : s ≡ d = cc in
      let numbers : List ℕ = numbers_from (length m.frames) (length h.outcome.frames) in
      let q : s.frames ≡ numbers = ap (λ (x : Stepped A). x.frames) (e ∙ h.says) in
      let none : h.outcome.frames ≡ [] =
      numbers_none (length m.frames) h.outcome.frames (sym q ∙ unsent) in
      let same : h.old ≡ a = at_same m.sites i h.old a h.there at in
      let ok = (ran_ok one A configs m l).model.sites i a at in
      let w = h.becomes.0.sweep in
      let cached = subst (λ (r : Replica). IsCached r.site.taken r.site.floor w.items) same
      w.cached in
      let low : a.site.floor ≤ a.horizon = ok.floor_below in
      let t = front_covers a.site.taken w.items a.site.floor o cached (ok.covered o heard late)
      (omega arith) in
      none_packed w.items h.outcome.frames t.0 w.packed none t.1)
  silent A configs m n i a s l at (is_missing f missing told same) unsent o heard = cc
  silent A configs m n i a s l at (is_stopped count h told) unsent o heard = cc
  silent A configs m n i a s l at (loses_frames d h told) unsent o heard = cc
