-- What servers did side by side is a run of the fleet.
-- Serves the laws `fresh`, `servers`, `withdrawn`.
use Rattle.std.proofs.Common.{◌≡◌, ◌≢◌, ℕ, zero, suc, ◌+◌, max, Bool, true, false, if◌then◌else◌, ◌⊎◌, nat_eq, inl, inr, List, [], ◌∷◌, ◌++◌, length, slice_set, refl, sym, ap, subst, ◌∙◌, arith, length-append, add-zero, slice_get, Option, Some, None, Result, Ok, Err}
use Rattle.std.proofs.lemmas.Bool.Decides.{nat_tests}
use Rattle.fleet_name.specs.Places.{At, Has}
use Rattle.fleet_name.proofs.Lemmas.{has_left, has_right, has_either, at_same, at_set, at_map, at_mapped}
use Rattle.fleet_observe.specs.Observation.{ObservationData, AreObservations}
use Rattle.fleet_site.specs.ConfigData.{ConfigData}
use Rattle.fleet_site.specs.OutcomeData.{OutcomeData, nothing}
use Rattle.fleet_site.specs.SiteData.{SiteData}
use Rattle.fleet_site.specs.StandsFor.{opening as site_at_first, StandsFor as StandsForSite}
use Rattle.fleet_site.specs.SiteModel.{SiteModel}
use Rattle.fleet_site.specs.gossip.Sweep.{IsSweep}
use Rattle.fleet_site.specs.Step.{Call, datagram, tick, frame, learn, flush}
use Rattle.fleet_site.specs.Step.{Step as SiteStep}
use Rattle.fleet_pending.specs.declared.addr.Addr.{Addr}
use Rattle.fleet_site.specs.PacketData.{PacketData}
use Rattle.fleet_site.specs.server.PortRecord.{PortCall, Received, NoDatagram, Fault, PacketSent, PacketLost, HasRoomFor}
use Rattle.fleet_site.specs.server.Sending.{AreSent, packets_of}
use Rattle.fleet_site.specs.server.Served.{RunInput}
use Rattle.fleet_site.specs.server.Turn.{TurnStep, calling, sweeping, Action, TurnStepSays, ActionsLead, AllSent, calls_of, Given, Ticks, no_tick, next_tick, SweepsWhenDue, ServerState, ROOM, Turn, Turns, word_of}
use Rattle.std.specs.Option.{unwrap_or}
use Rattle.fleet_site.specs.declared.outcome.SiteFault.{SiteFault}
use Rattle.fleet_site.specs.declared.outcome.SiteFault.TheVariants.{OutOfMemory}
use Rattle.fleet_world.specs.FleetModel.{Replica, FleetModel, opening, opening_replica, numbers_from}
use Rattle.fleet_world.specs.Becomes.{Calls, Becomes}
use Rattle.fleet_world.specs.Event.{site_of}
use Rattle.fleet_world.specs.Step.{sweeps_of, stepped_of, Step, is_done, is_stopped}
use Rattle.fleet_world.specs.Run.{Results, Run}
use Rattle.fleet_world.specs.Servers.{SiteAction, actions_of, event_of, event_before, events_of, frames_in, result_before, results_of, Acts, HasDone, TurnsAct, ServersRun, ServersStep}
use Rattle.fleet_world.specs.declared.event.Event.{Event}
use Rattle.fleet_world.specs.declared.event.Event.TheVariants.{Sweep}
use Rattle.fleet_world.specs.declared.stepped.Stepped.{Stepped}
use Rattle.fleet_world.specs.declared.fault.WorldFault.{WorldFault}
use Rattle.fleet_world.specs.declared.fault.WorldFault.TheVariants.{Memory}
use Rattle.fleet_world.proofs.Calls as calls
use Rattle.fleet_world.proofs.Told.{at_put}

-- what the server of a site did first, and what the others did
own_first : (i : ℕ) (x : SiteAction) (xs : List SiteAction) → x.site ≡ i
    → actions_of i (x ∷ xs) ≡ x.action ∷ actions_of i xs
own_first i x xs e = go (nat_eq x.site i) (grind (arith, nat_tests, e))
  where
    go : (b : Bool) → b ≡ true
        → (if b then x.action ∷ actions_of i xs else actions_of i xs) ≡ x.action ∷ actions_of i xs
    go true q = refl
    go false q = cc

others_rest : (i : ℕ) (x : SiteAction) (xs : List SiteAction) → x.site ≢ i
    → actions_of i (x ∷ xs) ≡ actions_of i xs
others_rest i x xs n = go (nat_eq x.site i) refl
  where
    go : (b : Bool) → nat_eq x.site i ≡ b
        → (if b then x.action ∷ actions_of i xs else actions_of i xs) ≡ actions_of i xs
    go true q = absurd (n (grind (arith, nat_tests, q)))
    go false q = refl

-- what was taken stays
says_grow : (s : TurnStep) (r : Result OutcomeData SiteFault) (m n : SiteModel)
    → TurnStepSays m s r n → (o : ObservationData) → Has m.taken o → Has n.taken o
says_grow (calling c) r m n h o p =
    let b = calls.step_brings c r m n h in
    subst (λ xs. Has xs o) (sym b.1) (has_right b.0 m.taken o p)
says_grow sweeping (Ok e) m n h o p = subst (λ (s : SiteModel). Has s.taken o) (sym h.3) p
says_grow sweeping (Err (OutOfMemory taken)) m n h o p =
    subst (λ (s : SiteModel). Has s.taken o) (sym h.1) p

leads_grow : (actions : List Action) (m n : SiteModel) → ActionsLead m actions n
    → (o : ObservationData) → Has m.taken o → Has n.taken o
leads_grow [] m n h o p = subst (λ (s : SiteModel). Has s.taken o) (sym h) p
leads_grow (a ∷ actions) m n h o p =
    leads_grow actions h.0 n h.2 o (says_grow a.step a.answer m h.0 h.1 o p)

-- the replica after a call
abbrev called : Replica → SiteModel → List ObservationData → Replica
called a n brought = record {
  site = n;
  heard = brought ++ a.heard;
  delivered = a.delivered;
  horizon = max a.horizon n.floor;
}

pub calls_of_step : (c : Call) (r : Result OutcomeData SiteFault) (a : Replica) (n : SiteModel)
    → SiteStep a.site c r n → AreObservations n.taken
    → (b : Replica) × Calls c r a b × (b.site ≡ n)
calls_of_step c r a n h lawful =
    let z = calls.step_brings c r a.site n h in (
      called a n z.0,
      record {
        step = h;
        joins = record {
          brought = z.0;
          observations = λ o m. lawful o
              (subst (λ xs. Has xs o) (sym z.1) (has_left z.0 a.site.taken o m));
          taken = z.1;
          heard = refl;
          delivered = refl;
          horizon = refl;
        };
      },
      refl,
    )

-- a call is what its event does, at its site
pub event_becomes : (A : Type 0) (m : FleetModel) (i : ℕ) (c : Call) (r : Result OutcomeData SiteFault)
    (a b : Replica) → Calls c r a b → Becomes {A = A} m (event_of i c) r a b
event_becomes A m i (datagram now from octets word) r a b h = h
event_becomes A m i (tick now) r a b h = h
event_becomes A m i (frame now octets) r a b h = h
event_becomes A m i (learn now octets) r a b h = h
event_becomes A m i (flush now name) r a b h = h

pub event_site : (A : Type 0) (i : ℕ) (c : Call) → site_of {A = A} (event_of i c) ≡ i
event_site A i (datagram now from octets word) = refl
event_site A i (tick now) = refl
event_site A i (frame now octets) = refl
event_site A i (learn now octets) = refl
event_site A i (flush now name) = refl

-- an event at a site, and the site after it
pub record Stepping (A : Type 0) (m : FleetModel) (i : ℕ) (e : Event A)
    (r : Result OutcomeData SiteFault) (n : SiteModel) : Type 0 where
  pub next : FleetModel
  pub result : Result (Stepped A) (WorldFault A)
  pub step : Step m e result next
  pub now : Replica
  pub sites : next.sites ≡ slice_set m.sites i now
  pub site : now.site ≡ n
  pub many : length next.frames ≡ length m.frames + frames_in r

pub done : {A : Type 0} (m : FleetModel) (i : ℕ) (e : Event A) (o : OutcomeData) (a b : Replica)
    (n : SiteModel) → site_of e ≡ i → At m.sites i a → Becomes m e (Ok o) a b → b.site ≡ n
    → (z : Stepping A m i e (Ok o) n)
    × (z.result ≡ Ok (stepped_of o (numbers_from (length m.frames) (length o.frames))))
done m i e o a b n same at h is = (
  record {
    next = record {
      sites = slice_set m.sites (site_of e) b;
      frames = m.frames ++ o.frames;
      sweeps = sweeps_of e (length m.frames) o.frames a ++ m.sweeps;
    };
    result = Ok (stepped_of o (numbers_from (length m.frames) (length o.frames)));
    step = is_done (stepped_of o (numbers_from (length m.frames) (length o.frames))) (record {
      outcome = o;
      old = a;
      new = b;
      there = subst (λ j. At m.sites j a) (sym same) at;
      becomes = h;
      says = refl;
      next = refl;
    }) refl;
    now = b;
    sites = ap (λ j. slice_set m.sites j b) same;
    site = is;
    many = length-append m.frames o.frames;
  },
  refl,
)

stopped : {A : Type 0} (m : FleetModel) (i : ℕ) (e : Event A) (count : ℕ) (a b : Replica)
    (n : SiteModel) → site_of e ≡ i → At m.sites i a → Becomes m e (Err (OutOfMemory count)) a b
    → b.site ≡ n
    → (z : Stepping A m i e (Err (OutOfMemory count)) n) × (z.result ≡ Err (Memory count))
stopped m i e count a b n same at h is = (
  record {
    next = record m { sites = slice_set m.sites (site_of e) b };
    result = Err (Memory count);
    step = is_stopped count (record {
      old = a;
      new = b;
      there = subst (λ j. At m.sites j a) (sym same) at;
      becomes = h;
      next = refl;
    }) refl;
    now = b;
    sites = ap (λ j. slice_set m.sites j b) same;
    site = is;
    many = sym (add-zero (length m.frames));
  },
  refl,
)

module _ (A : Type 0) (ends : ℕ → SiteModel) where
  -- the rest of what servers did leads each site to its end
  record Leading (m : FleetModel) (rest : List SiteAction) : Type 0 where
    leads : (i : ℕ) (a : Replica) → At m.sites i a
        → ActionsLead a.site (actions_of i rest) (ends i)
    lawful : (i : ℕ) (a : Replica) → At m.sites i a → AreObservations (ends i).taken
    there : (x : SiteAction) → Has rest x → (a : Replica) × At m.sites x.site a

  -- there is such a run
  record Ran (m : FleetModel) (es : List (Event A)) (rs : Results A) : Type 0 where
    end : FleetModel
    run : Run m es rs end
    sites : (i : ℕ) (a : Replica) → At m.sites i a
        → (b : Replica) × At end.sites i b × (b.site ≡ ends i)

  -- one event, and the rest
  behind : (m : FleetModel) (i : ℕ) (e : Event A) (r : Result OutcomeData SiteFault)
      (n : SiteModel) (z : Stepping A m i e r n) (result : Result (Stepped A) (WorldFault A))
      → z.result ≡ result → (xs : List SiteAction)
      → Ran z.next (events_of xs) (results_of (length z.next.frames) xs)
      → Ran m (e ∷ events_of xs) (result ∷ results_of (length m.frames + frames_in r) xs)
  behind m i e r n z result is xs f = record {
    end = f.end;
    run = (
      z.next,
      subst (λ x. Step m e x z.next) is z.step,
      subst (λ k. Run {A = A} z.next (events_of xs) (results_of k xs) f.end) z.many f.run,
    );
    sites = λ j a at. elim (at_put m.sites i j z.now a at) [
      | inl q ↦ f.sites j z.now (subst (λ ss. At ss j z.now) (sym z.sites) q.1)
      | inr q ↦ f.sites j a (subst (λ ss. At ss j a) (sym z.sites) q)
    ];
  }

  -- what leads on after an event
  leading_behind : (m : FleetModel) (e : Event A) (r : Result OutcomeData SiteFault) (n : SiteModel)
      (x : SiteAction) (xs : List SiteAction) (a : Replica) → At m.sites x.site a
      → (z : Stepping A m x.site e r n) → Leading m (x ∷ xs)
      → ActionsLead n (actions_of x.site xs) (ends x.site) → Leading z.next xs
  leading_behind m e r n x xs a at z k h = record {
    leads = λ j b t. elim (back j b t) [
      | inl q ↦
          subst (λ i. ActionsLead b.site (actions_of i xs) (ends i)) (sym q.0)
          (subst (λ (s : SiteModel). ActionsLead s (actions_of x.site xs) (ends x.site))
          (sym (ap (λ (y : Replica). y.site) q.1 ∙ z.site)) h)
      | inr q ↦
          subst (λ (ks : List Action). ActionsLead b.site ks (ends j))
          (others_rest j x xs (λ w. q.0 (sym w))) (k.leads j b q.1)
    ];
    lawful = λ j b t. elim (back j b t) [
      | inl q ↦
          subst (λ i. AreObservations (ends i).taken) (sym q.0) (k.lawful x.site a at)
      | inr q ↦ k.lawful j b q.1
    ];
    there = λ y p. let w = k.there y (inr p) in
        elim (at_put m.sites x.site y.site z.now w.0 w.1) [
          | inl q ↦ (z.now, subst (λ ss. At ss y.site z.now) (sym z.sites) q.1)
          | inr q ↦ (w.0, subst (λ ss. At ss y.site w.0) (sym z.sites) q)
        ];
  }
    where
      back : (j : ℕ) (b : Replica) → At z.next.sites j b
          → ((j ≡ x.site) × (b ≡ z.now)) ⊎ ((j ≢ x.site) × At m.sites j b)
      back j b t = at_set m.sites x.site j z.now b (subst (λ ss. At ss j b) z.sites t)

  -- a sweep that is no event
  leading_on : (m : FleetModel) (x : SiteAction) (xs : List SiteAction) (a : Replica)
      → At m.sites x.site a → Leading m (x ∷ xs)
      → ActionsLead a.site (actions_of x.site xs) (ends x.site) → Leading m xs
  leading_on m x xs a at k h = record {
    leads = λ j b t. go j b t (nat_eq x.site j) refl;
    lawful = k.lawful;
    there = λ y p. k.there y (inr p);
  }
    where
      go : (j : ℕ) (b : Replica) → At m.sites j b → (t : Bool) → nat_eq x.site j ≡ t
          → ActionsLead b.site (actions_of j xs) (ends j)
      go j b t true q =
          let e : x.site ≡ j = grind (arith, nat_tests, q) in
          let same : a ≡ b = at_same m.sites j a b (subst (λ i. At m.sites i a) e at) t in
          subst (λ i. ActionsLead b.site (actions_of i xs) (ends i)) e
          (subst (λ (y : Replica). ActionsLead y.site (actions_of x.site xs) (ends x.site)) same h)
      go j b t false q =
          subst (λ (ks : List Action). ActionsLead b.site ks (ends j))
          (others_rest j x xs (λ e. let z : false ≡ true = sym q ∙ grind (arith, nat_tests, e) in
          cc)) (k.leads j b t)

  ran : (rest : List SiteAction) (m : FleetModel) → Leading m rest
      → Ran m (events_of rest) (results_of (length m.frames) rest)
  ran [] m k = record {
    end = m;
    run = refl;
    sites = λ i a at. (a, at, sym (k.leads i a at));
  }
  ran (x ∷ xs) m k = go (ran xs) x.action.step x.action.answer h.0 h.1 h.2
    where
      a : (a : Replica) × At m.sites x.site a
      a = k.there x (inl refl)

      h : (mid : SiteModel) × TurnStepSays a.0.site x.action.step x.action.answer mid
          × ActionsLead mid (actions_of x.site xs) (ends x.site)
      h = subst (λ (ks : List Action). ActionsLead a.0.site ks (ends x.site))
          (own_first x.site x xs refl) (k.leads x.site a.0 a.1)

      go : ((n : FleetModel) → Leading n xs
          → Ran n (events_of xs) (results_of (length n.frames) xs))
          → (s : TurnStep) (r : Result OutcomeData SiteFault) (n : SiteModel)
          → TurnStepSays a.0.site s r n → ActionsLead n (actions_of x.site xs) (ends x.site)
          → Ran m (event_before x.site s r (events_of xs))
          (result_before (length m.frames) s r (results_of (length m.frames + frames_in r) xs))
      go f (calling c) (Ok o) n says rest =
          let b = calls_of_step c (Ok o) a.0 n says
          (λ p q. k.lawful x.site a.0 a.1 p
          (leads_grow (actions_of x.site xs) n (ends x.site) rest p q)) in
          let z = done m x.site (event_of x.site c) o a.0 b.0 n (event_site A x.site c) a.1
          (event_becomes A m x.site c (Ok o) a.0 b.0 b.1) b.2 in
          behind m x.site (event_of x.site c) (Ok o) n z.0 _ z.1 xs
          (f z.0.next
          (leading_behind m (event_of x.site c) (Ok o) n x xs a.0 a.1 z.0 k rest))
      go f (calling c) (Err (OutOfMemory count)) n says rest =
          let b = calls_of_step c (Err (OutOfMemory count)) a.0 n says
          (λ p q. k.lawful x.site a.0 a.1 p
          (leads_grow (actions_of x.site xs) n (ends x.site) rest p q)) in
          let z = stopped m x.site (event_of x.site c) count a.0 b.0 n (event_site A x.site c) a.1
          (event_becomes A m x.site c (Err (OutOfMemory count)) a.0 b.0 b.1) b.2 in
          behind m x.site (event_of x.site c) (Err (OutOfMemory count)) n z.0 _ z.1 xs
          (f z.0.next
          (leading_behind m (event_of x.site c) (Err (OutOfMemory count)) n x xs a.0 a.1 z.0 k
          rest))
      go f sweeping (Ok o) n says rest =
          let e : o.frames ≡ says.0 = ap (λ (y : OutcomeData). y.frames) says.2 in
          let z = done m x.site (Sweep x.site) o a.0 a.0 n refl a.1 (
            record {
              sweep = subst (IsSweep a.0.site) (sym e) says.1;
              says = says.2 ∙ ap (λ fs. record nothing { frames = fs }) (sym e);
            },
            refl,
          ) (sym says.3) in
          behind m x.site (Sweep x.site) (Ok o) n z.0 _ z.1 xs
          (f z.0.next (leading_behind m (Sweep x.site) (Ok o) n x xs a.0 a.1 z.0 k rest))
      go f sweeping (Err (OutOfMemory count)) n says rest =
          subst (λ j. Ran m (events_of xs) (results_of j xs)) (sym (add-zero (length m.frames)))
          (f m (leading_on m x xs a.0 a.1 k
          (subst (λ (s : SiteModel). ActionsLead s (actions_of x.site xs) (ends x.site)) says.1
          rest)))

-- what one list of actions does, and then another one
leads_both : (xs ys : List Action) (m k n : SiteModel) → ActionsLead m xs k → ActionsLead k ys n
    → ActionsLead m (xs ++ ys) n
leads_both [] ys m k n h l = subst (λ s. ActionsLead s ys n) h l
leads_both (x ∷ xs) ys m k n h l = (h.0, h.1, leads_both xs ys h.0 k n h.2 l)

-- each tick of a turn is one
ticks_are : (t : ℕ) (xs : List Action) (more : Bool) → Ticks t xs more → (x : Action) → Has xs x
    → x.step ≡ calling (tick t)
ticks_are t xs more no_tick x h = absurd h
ticks_are t xs more (next_tick {actions} a before is) x h = elim (has_either actions (a ∷ []) x h) [
  | inl p ↦ ticks_are t actions true before x p
  | inr p ↦ elim p [
    | inl e ↦ subst (λ (y : Action). y.step ≡ calling (tick t)) e is
    | inr q ↦ absurd q
  ]
]

-- what a turn gave its site as a datagram it received
given_came : (t word : ℕ) (call : PortCall) (xs : List Action) → Given t word call xs
    → (x : Action) → Has xs x → (s : ℕ) (from : Addr) (octets : List ℕ) (w : ℕ)
    → x.step ≡ calling (datagram s from octets w)
    → (asked : ℕ) × (call ≡ Received asked from octets)
given_came t word (Received asked from octets) xs g x h s f os w e =
    let is : x ≡ g.0 = only g.0 x (subst (λ ys. Has ys x) g.1 h) in
    let same : calling (datagram t from octets word) ≡ calling (datagram s f os w) =
    sym g.2 ∙ (ap (λ (y : Action). y.step) (sym is) ∙ e) in
    (asked, cc)
  where
    only : (y x : Action) → Has (y ∷ []) x → x ≡ y
    only y x (inl e) = sym e
    only y x (inr q) = absurd q
given_came t word (NoDatagram asked) xs g x h s f os w e = absurd (subst (λ ys. Has ys x) g h)
given_came t word (Fault asked) xs g x h s f os w e = absurd (subst (λ ys. Has ys x) g h)
given_came t word (PacketSent p) xs g x h s f os w e = absurd g
given_came t word (PacketLost p) xs g x h s f os w e = absurd g

-- of a sweep that is due, each step is one
swept_is : (every since t last : ℕ) (xs : List Action) → SweepsWhenDue every since t xs last
    → (x : Action) → Has xs x → x.step ≡ sweeping
swept_is every since t last xs (inl h) x p = go h.1.0 x (subst (λ ys. Has ys x) h.1.1 p) h.1.2
  where
    go : (y x : Action) → Has (y ∷ []) x → y.step ≡ sweeping → x.step ≡ sweeping
    go y x (inl e) is = subst (λ (z : Action). z.step ≡ sweeping) e is
    go y x (inr q) is = absurd q
swept_is every since t last xs (inr h) x p = absurd (subst (λ ys. Has ys x) h.1.0 p)

-- what was sent of packets is one of them
sent_is : (ps : List PacketData) (calls : List PortCall) → AreSent ps calls → (p : PacketData)
    → Has calls (PacketSent p) → Has ps p
sent_is [] [] h p q = absurd q
sent_is [] (call ∷ calls) h p q = absurd h
sent_is (s ∷ ps) [] h p q = absurd h
sent_is (s ∷ ps) (call ∷ calls) (inl e, rest) p (inl q) =
    let same : PacketSent s ≡ PacketSent p = sym e ∙ q in inl cc
sent_is (s ∷ ps) (call ∷ calls) (inr e, rest) p (inl q) =
    let same : PacketLost s ≡ PacketSent p = sym e ∙ q in cc
sent_is (s ∷ ps) (call ∷ calls) (e, rest) p (inr q) = inr (sent_is ps calls rest p q)

-- what was sent of actions one of them gave
sent_of : (peers : List Addr) (xs : List Action) → AllSent peers xs → (p : PacketData)
    → Has (calls_of xs) (PacketSent p)
    → (x : Action) × Has xs x × Has (packets_of peers x.answer) p
sent_of peers [] h p q = absurd q
sent_of peers (x ∷ xs) h p q = elim (has_either x.calls (calls_of xs) (PacketSent p) q) [
  | inl k ↦ (x, inl refl, sent_is (packets_of peers x.answer) x.calls h.0 p k)
  | inr k ↦ let y = sent_of peers xs h.1 p k in (y.0, inr y.1, y.2)
]

-- a call that a turn makes before all others sends nothing
receives_first : (n : ℕ) (call : PortCall) (p : PacketData) → HasRoomFor n call
    → call ≡ PacketSent p → ⊥
receives_first n (Received asked from octets) p h e = cc
receives_first n (NoDatagram asked) p h e = cc
receives_first n (Fault asked) p h e = cc
receives_first n (PacketSent s) p h e = absurd h
receives_first n (PacketLost s) p h e = absurd h

-- one more turn
module _ (t word every : ℕ) (a mid b : ServerState) (h : Turn t word every mid b) where
  abbrev acts : List Action
  acts = h.given ++ (h.ticks ++ h.sweep)

  turn_received : (x : Action) → Has acts x → (s : ℕ) (from : Addr) (octets : List ℕ) (w : ℕ)
      → x.step ≡ calling (datagram s from octets w)
      → (asked : ℕ) × Has b.calls (Received asked from octets)
  turn_received x p s from octets w e = elim (has_either h.given (h.ticks ++ h.sweep) x p) [
    | inl q ↦
        let c = given_came t word h.arrival h.given h.is_given x q s from octets w e in (
          c.0,
          subst (λ cs. Has cs (Received c.0 from octets)) (sym h.calls)
              (has_right mid.calls (h.arrival ∷ calls_of (h.given ++ (h.ticks ++ h.sweep)))
              (Received c.0 from octets) (inl c.1)),
        )
    | inr q ↦ elim (has_either h.ticks h.sweep x q) [
      | inl r ↦
          let z : calling (tick t) ≡ calling (datagram s from octets w) =
          sym (ticks_are t h.ticks false h.are_ticks x r) ∙ e in cc
      | inr r ↦
          let z : sweeping ≡ calling (datagram s from octets w) =
          sym (swept_is every (unwrap_or mid.swept t) t h.is_swept.0 h.sweep h.is_swept.1 x r) ∙ e
          in cc
    ]
  ]

  turn_sent : (p : PacketData) → Has b.calls (PacketSent p)
      → Has mid.calls (PacketSent p)
      ⊎ ((x : Action) × Has acts x × Has (packets_of mid.site.config.peers x.answer) p)
  turn_sent p q =
      let k = subst (λ cs. Has cs (PacketSent p)) h.calls q in
      elim (has_either mid.calls (h.arrival ∷ calls_of (h.given ++ (h.ticks ++ h.sweep)))
      (PacketSent p) k) [
        | inl r ↦ inl r
        | inr r ↦ elim r [
          | inl e ↦ absurd (receives_first ROOM h.arrival p h.asks e)
          | inr s ↦ inr (sent_of mid.site.config.peers (h.given ++ (h.ticks ++ h.sweep)) h.acted.sent p s)
        ]
      ]

-- some turns, and the configuration after them
turns_done : (input : RunInput) (count : ℕ) (a b : ServerState)
    → Turns input.moments input.words input.every count a b
    → (xs : List Action) × HasDone a b xs × (b.site.config ≡ a.site.config)
turns_done input zero a b h = (
  [],
  record {
    leads = λ m k. (m, refl, subst (λ (s : ServerState). StandsForSite s.site m) (sym h) k);
    received = λ x p. absurd p;
    sent = λ p q. inl (subst (λ (s : ServerState). Has s.calls (PacketSent p)) h q);
  },
  ap (λ (s : ServerState). s.site.config) h,
)
turns_done input (suc count) a b h =
    let f = turns_done input count a h.0 h.2 in
    let t = h.4 in
    let xs : List Action = t.given ++ (t.ticks ++ t.sweep) in (
      f.0 ++ xs,
      record {
        leads = λ m k.
            let x = f.1.leads m k in
            let y = t.acted.steps x.0 x.2 in
            (y.0, leads_both f.0 xs m x.0 y.0 x.1 y.1, y.2);
        received = λ x p s from octets w e. elim (has_either f.0 xs x p) [
          | inl q ↦
              let r = f.1.received x q s from octets w e in (
                r.0,
                subst (λ cs. Has cs (Received r.0 from octets)) (sym t.calls)
                    (has_left h.0.calls (t.arrival ∷ calls_of xs) (Received r.0 from octets) r.1),
              )
          | inr q ↦
              turn_received h.1 (word_of input.words count) input.every a h.0 b t x q s from octets w e
        ];
        sent = λ p q. elim (turn_sent h.1 (word_of input.words count) input.every a h.0 b t p q) [
          | inl r ↦ elim (f.1.sent p r) [
            | inl s ↦ inl s
            | inr s ↦ inr (s.0, has_left f.0 xs s.0 s.1, s.2)
          ]
          | inr r ↦
              inr (
                r.0,
                has_right f.0 xs r.0 r.1,
                subst (λ (c : ConfigData). Has (packets_of c.peers r.0.answer) p) f.2 r.2,
              )
        ];
      },
      t.acted.config ∙ f.2,
    )

pub turns : TurnsAct
turns input a b h =
    let f = turns_done input input.turns a b h in (f.0, f.1)

module _ (configs : List ConfigData) (all : List SiteAction) (sites : ℕ → SiteData)
    (acts : (i : ℕ) (c : ConfigData) → At configs i c
    → Acts (site_at_first c.upstreams c.peers) (actions_of i all) (sites i)) where
  -- where a site's server leads it
  end_at : (i : ℕ) (o : Option ConfigData) → slice_get configs i ≡ o → SiteModel
  end_at i None e = site_at_first [] []
  end_at i (Some c) e = (acts i c e).0

  record Ends (i : ℕ) (c : ConfigData) (n : SiteModel) : Type 0 where
    leads : ActionsLead (site_at_first c.upstreams c.peers) (actions_of i all) n
    stands : StandsForSite (sites i) n

  ends_so : (i : ℕ) (c : ConfigData) → At configs i c → (o : Option ConfigData)
      → (e : slice_get configs i ≡ o) → Ends i c (end_at i o e)
  unfolding end_at
  ends_so i c at None e = cc
  ends_so i c at (Some d) e =
      subst (λ x. Ends i x (acts i d e).0) (at_same configs i d c e at)
      (record { leads = (acts i d e).1; stands = (acts i d e).2 })

  ended : (i : ℕ) (c : ConfigData) → At configs i c
      → Ends i c (end_at i (slice_get configs i) refl)
  ended i c at = ends_so i c at (slice_get configs i) refl

pub servers : (A : Type 0) → ServersRun A
servers A configs all sites within acts =
    let ends : ℕ → SiteModel = λ i. end_at configs all sites acts i (slice_get configs i) refl in
    let k : Leading A ends (opening configs) all = record {
      leads = λ i a at. let c = at_mapped opening_replica configs i a at in
          subst (λ (b : Replica). ActionsLead b.site (actions_of i all) (ends i)) c.2
          (ended configs all sites acts i c.0 c.1).leads;
      lawful = λ i a at. let c = at_mapped opening_replica configs i a at in
          (ended configs all sites acts i c.0 c.1).stands.items.lawful;
      there = λ x p. let c = within x p in
          (opening_replica c.0, at_map opening_replica configs x.site c.0 c.1);
    } in
    let r = ran A ends all (opening configs) k in (
      r.end,
      r.run,
      λ i c at.
          let b = r.sites i (opening_replica c) (at_map opening_replica configs i c at) in (
            b.0,
            b.1,
            subst (StandsForSite (sites i)) (sym b.2)
                (ended configs all sites acts i c at).stands,
          ),
    )

-- what a server did first, and then
actions_both : (i : ℕ) (xs ys : List SiteAction)
    → actions_of i (xs ++ ys) ≡ actions_of i xs ++ actions_of i ys
actions_both i [] ys = refl
actions_both i (x ∷ xs) ys = go (nat_eq x.site i) (actions_both i xs ys)
  where
    go : (b : Bool) → actions_of i (xs ++ ys) ≡ actions_of i xs ++ actions_of i ys
        → (if b then x.action ∷ actions_of i (xs ++ ys) else actions_of i (xs ++ ys))
        ≡ (if b then x.action ∷ actions_of i xs else actions_of i xs) ++ actions_of i ys
    go true h = ap (λ ks. x.action ∷ ks) h
    go false h = h

leads_split : (xs ys : List Action) (m n : SiteModel) → ActionsLead m (xs ++ ys) n
    → (k : SiteModel) × ActionsLead m xs k × ActionsLead k ys n
leads_split [] ys m n h = (m, refl, h)
leads_split (x ∷ xs) ys m n h =
    let r = leads_split xs ys h.0 n h.2 in (r.0, (h.0, h.1, r.1), r.2)

module _ (configs : List ConfigData) (all : List SiteAction) (sites : ℕ → SiteData)
    (acts : (i : ℕ) (c : ConfigData) → At configs i c
    → Acts (site_at_first c.upstreams c.peers) (actions_of i all) (sites i))
    (before rest : List SiteAction) (e : all ≡ before ++ rest) where
  -- where a site's server leads it before the rest, which leads on to its end
  record Halfway (i : ℕ) (c : ConfigData) (n : SiteModel) : Type 0 where
    leads : ActionsLead (site_at_first c.upstreams c.peers) (actions_of i before) n
    end : SiteModel
    leads_on : ActionsLead n (actions_of i rest) end
    stands : StandsForSite (sites i) end

  half : (i : ℕ) (c : ConfigData) → At configs i c → (n : SiteModel) × Halfway i c n
  half i c at =
      let h = acts i c at in
      let s = leads_split (actions_of i before) (actions_of i rest)
      (site_at_first c.upstreams c.peers) h.0
      (subst (λ ks. ActionsLead (site_at_first c.upstreams c.peers) ks h.0)
      (ap (actions_of i) e ∙ actions_both i before rest) h.1) in
      (s.0, record { leads = s.1; end = h.0; leads_on = s.2; stands = h.2 })

  half_at : (i : ℕ) (o : Option ConfigData) → slice_get configs i ≡ o → SiteModel
  half_at i None q = site_at_first [] []
  half_at i (Some c) q = (half i c q).0

  half_so : (i : ℕ) (c : ConfigData) → At configs i c → (o : Option ConfigData)
      → (q : slice_get configs i ≡ o) → Halfway i c (half_at i o q)
  unfolding half_at
  half_so i c at None q = cc
  half_so i c at (Some d) q =
      subst (λ x. Halfway i x (half i d q).0) (at_same configs i d c q at) (half i d q).1

  halfway : (i : ℕ) (c : ConfigData) → At configs i c
      → Halfway i c (half_at i (slice_get configs i) refl)
  halfway i c at = half_so i c at (slice_get configs i) refl

pub servers_step : (A : Type 0) → ServersStep A
servers_step A configs all sites within acts before after x e =
    let ends : ℕ → SiteModel =
    λ i. half_at configs all sites acts before (x ∷ after) e i (slice_get configs i) refl in
    let half_of = halfway configs all sites acts before (x ∷ after) e in
    let k : Leading A ends (opening configs) before = record {
      leads = λ i a at. let c = at_mapped opening_replica configs i a at in
          subst (λ (b : Replica). ActionsLead b.site (actions_of i before) (ends i)) c.2
          (half_of i c.0 c.1).leads;
      lawful = λ i a at o p. let c = at_mapped opening_replica configs i a at in
          let h = half_of i c.0 c.1 in
          h.stands.items.lawful o
          (leads_grow (actions_of i (x ∷ after)) (ends i) h.end h.leads_on o p);
      there = λ y p. let c = within y
          (subst (λ ys. Has ys y) (sym e) (has_left before (x ∷ after) y p)) in
          (opening_replica c.0, at_map opening_replica configs y.site c.0 c.1);
    } in
    let r = ran A ends before (opening configs) k in
    let c = within x
    (subst (λ ys. Has ys x) (sym e) (has_right before (x ∷ after) x (inl refl))) in
    let b = r.sites x.site (opening_replica c.0)
    (at_map opening_replica configs x.site c.0 c.1) in
    let h = half_of x.site c.0 c.1 in
    let step : (mid : SiteModel) × TurnStepSays (ends x.site) x.action.step x.action.answer mid
    × ActionsLead mid (actions_of x.site after) h.end =
    subst (λ (ks : List Action). ActionsLead (ends x.site) ks h.end)
    (own_first x.site x after refl) h.leads_on in (
      r.end,
      r.run,
      b.0,
      b.1,
      step.0,
      subst (λ (s : SiteModel). TurnStepSays s x.action.step x.action.answer step.0) (sym b.2)
          step.1,
      λ o p. h.stands.items.lawful o
          (leads_grow (actions_of x.site after) step.0 h.end step.2 o p),
    )
