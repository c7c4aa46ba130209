-- A run, and the same run as its events arrive, side by side.
-- Serves the laws `deliveries`, `fresh`, `servers`, `telling`, `withdrawn`.
use Rattle.std.proofs.Common.{◌≡◌, ℕ, ◌<◌, ◌≤◌, max, Bool, true, false, cond, inl, inr, List, [], ◌∷◌, ◌++◌, length, slice_set, refl, sym, ap, subst, ◌∙◌, arith, Option, Some, None, Result, Ok, Err}
use Rattle.std.specs.List.{AllZip}
use Rattle.std.proofs.lemmas.Slice.Zip.{AllZip-long}
use Rattle.fleet_name.specs.Types.{OctetList}
use Rattle.fleet_name.specs.Places.{At, Has}
use Rattle.fleet_name.proofs.Lemmas.{has_left, has_right, has_either, at_same}
use Rattle.fleet_observe.specs.Observation.{ObservationData, Observations}
use Rattle.fleet_cache.specs.Cached.{IsCached}
use Rattle.fleet_pending.specs.declared.addr.Addr.{Addr}
use Rattle.fleet_site.specs.ConfigData.{ConfigData, IsAmong}
use Rattle.fleet_site.specs.OutcomeData.{OutcomeData}
use Rattle.fleet_site.specs.SiteModel.{SiteModel, Effect, with_clock}
use Rattle.fleet_site.specs.gossip.Frame.{Framed}
use Rattle.fleet_site.specs.gossip.Merge.{Merges}
use Rattle.fleet_site.specs.gossip.Sweep.{IsSweep}
use Rattle.fleet_site.specs.Step.{Call, datagram, tick, frame, learn, flush, Dispatches}
use Rattle.fleet_site.specs.Step.{Step as SiteStep}
use Rattle.fleet_site.specs.StandsFor.{StandsFor as StandsForSite}
use Rattle.fleet_site.specs.declared.outcome.Refusal.{Refusal}
use Rattle.fleet_site.specs.declared.outcome.SiteFault.{SiteFault}
use Rattle.fleet_site.specs.declared.outcome.SiteFault.TheVariants.{OutOfMemory}
use Rattle.fleet_world.specs.FleetModel.{Replica, SentSweep, FleetModel, new_replica, contains_all, with_sweep, with_whole_sweeps, numbers_from}
use Rattle.fleet_world.specs.Becomes.{BringsIn, Calls, with_delivery_unless, with_delivery_by, Delivers, MergesAll, MergesFirst, site_again, Becomes}
use Rattle.fleet_world.specs.Event.{site_of, HasSites, HasNamedFrame}
use Rattle.fleet_world.specs.Step.{sweeps_of, stepped_of, Step, is_done, is_missing, is_stopped, loses_frames, ReportsMissing, site_missing, frame_missing}
use Rattle.fleet_world.specs.StandsFor.{StandsForReplica}
use Rattle.fleet_world.specs.Run.{Results, Run}
use Rattle.fleet_world.specs.Deliveries.{IsFromPeer, CountsAs, CountAs, HeardMore, SweptMore, IsAlike, CountAlike, AlikeStand, GossipIsKept, BringsNoOctets, KeptCountAs}
use Rattle.fleet_world.specs.declared.event.Event.{Event}
use Rattle.fleet_world.specs.declared.event.Event.TheVariants.{Datagram, Tick, Sweep, Frame, Deliver, Learn, Flush, Merge, Restart}
use Rattle.fleet_world.specs.declared.stepped.Stepped.{Stepped}
use Rattle.fleet_world.specs.declared.fault.WorldFault.{WorldFault}
use Rattle.fleet_world.proofs.Addresses.{IsOf, AreOf, step_of, ran_of}
use Rattle.fleet_world.proofs.Lists.{contains_all_has}
use Rattle.fleet_world.proofs.Reached.{contains_all_from}
use Rattle.fleet_world.proofs.Worlds.{zip_at, zip_set}

-- lists one after the other
zip_both : {A B : Type 0} (R : A → B → Type 0) (xs us : List A) (ys vs : List B) → AllZip R xs ys
    → AllZip R us vs → AllZip R (xs ++ us) (ys ++ vs)
zip_both R [] us [] vs h k = k
zip_both R [] us (y ∷ ys) vs h k = absurd h
zip_both R (x ∷ xs) us [] vs h k = absurd h
zip_both R (x ∷ xs) us (y ∷ ys) vs h k = (h.0, zip_both R xs us ys vs h.1 k)

zip_itself : {A : Type 0} (R : A → A → Type 0) (xs : List A) → ((x : A) → R x x) → AllZip R xs xs
zip_itself R [] f = tt
zip_itself R (x ∷ xs) f = (f x, zip_itself R xs f)

-- ---- a site that has heard of more

pub more_itself : (a : Replica) → HeardMore a a
more_itself a = record {
  site = refl;
  heard = λ o m. m;
  delivered = λ n m. m;
  horizon = omega arith;
}

more_chain : (a b c : Replica) → HeardMore a b → HeardMore b c → HeardMore a c
more_chain a b c x y = record {
  site = y.site ∙ x.site;
  heard = λ o m. y.heard o (x.heard o m);
  delivered = λ n m. y.delivered n (x.delivered n m);
  horizon = let p : a.horizon ≤ b.horizon = x.horizon in
      let q : b.horizon ≤ c.horizon = y.horizon in omega arith;
}

-- members that are the same or more
has_both : (xs : List ObservationData) (ys zs : List ObservationData) (o : ObservationData)
    → ((x : ObservationData) → Has ys x → Has zs x) → Has (xs ++ ys) o → Has (xs ++ zs) o
has_both xs ys zs o f m = elim (has_either xs ys o m) [
  | inl p ↦ has_left xs zs o p
  | inr q ↦ has_right xs zs o (f o q)
]

has_all : (xs us ys zs : List ObservationData) (o : ObservationData)
    → ((x : ObservationData) → Has xs x → Has us x)
    → ((x : ObservationData) → Has ys x → Has zs x) → Has (xs ++ ys) o → Has (us ++ zs) o
has_all xs us ys zs o g f m = elim (has_either xs ys o m) [
  | inl p ↦ has_left us zs o (g o p)
  | inr q ↦ has_right us zs o (f o q)
]

-- a sweep counts as heard, of one and of the other
with_sweep_more : (v w : SentSweep) (a b : Replica) → SweptMore v w → HeardMore a b
    → HeardMore (with_sweep v a) (with_sweep w b)
with_sweep_more v w a b s h = record {
  site = h.site;
  heard = λ o m. has_all v.heard w.heard a.heard b.heard o s.heard h.heard m;
  delivered = h.delivered;
  horizon = let p : a.horizon ≤ b.horizon = h.horizon in
      let q : v.horizon ≤ w.horizon = s.horizon in omega arith;
}

with_sweep_grows : (w : SentSweep) (a b : Replica) → HeardMore a b → HeardMore a (with_sweep w b)
with_sweep_grows w a b h = record {
  site = h.site;
  heard = λ o m. has_right w.heard b.heard o (h.heard o m);
  delivered = h.delivered;
  horizon = let p : a.horizon ≤ b.horizon = h.horizon in omega arith;
}

whole_more : (v w : SentSweep) (a b : Replica) → SweptMore v w → HeardMore a b
    → contains_all v.numbers a.delivered ≡ true → contains_all w.numbers b.delivered ≡ true
whole_more v w a b s h e = contains_all_from w.numbers b.delivered
    (λ n m. h.delivered n (contains_all_has v.numbers a.delivered e n
    (subst (λ ns. Has ns n) s.numbers m)))

credits_more : (vs ws : List SentSweep) (a b : Replica) → AllZip SweptMore vs ws → HeardMore a b
    → HeardMore (with_whole_sweeps vs a) (with_whole_sweeps ws b)
credits_more [] [] a b z h = h
credits_more [] (w ∷ ws) a b z h = absurd z
credits_more (v ∷ vs) [] a b z h = absurd z
credits_more (v ∷ vs) (w ∷ ws) a b z h =
    credits_more vs ws (cond (contains_all v.numbers a.delivered) (with_sweep v a) a)
    (cond (contains_all w.numbers b.delivered) (with_sweep w b) b) z.1
    (go (contains_all v.numbers a.delivered) refl (contains_all w.numbers b.delivered) refl)
  where
    go : (x : Bool) → contains_all v.numbers a.delivered ≡ x
        → (y : Bool) → contains_all w.numbers b.delivered ≡ y
        → HeardMore (cond x (with_sweep v a) a) (cond y (with_sweep w b) b)
    go true e true f = with_sweep_more v w a b z.0 h
    go true e false f = let t = whole_more v w a b z.0 h e in cc
    go false e true f = with_sweep_grows w a b h
    go false e false f = h

-- crediting only adds
pub credits_grow : (ws : List SentSweep) (a b : Replica) → HeardMore a b
    → HeardMore a (with_whole_sweeps ws b)
credits_grow [] a b h = h
credits_grow (w ∷ ws) a b h =
    credits_grow ws a (cond (contains_all w.numbers b.delivered) (with_sweep w b) b)
    (go (contains_all w.numbers b.delivered))
  where
    go : (y : Bool) → HeardMore a (cond y (with_sweep w b) b)
    go true = with_sweep_grows w a b h
    go false = h

counted : (n : ℕ) (a b : Replica) → HeardMore a b
    → HeardMore (record a { delivered = n ∷ a.delivered })
    (record b { delivered = n ∷ b.delivered })
counted n a b h = record {
  site = h.site;
  heard = h.heard;
  delivered = λ i m. elim m [ inl e ↦ inl e | inr k ↦ inr (h.delivered i k) ];
  horizon = h.horizon;
}

count_grows : (n : ℕ) (a b : Replica) → HeardMore a b
    → HeardMore a (record b { delivered = n ∷ b.delivered })
count_grows n a b h = record {
  site = h.site;
  heard = h.heard;
  delivered = λ i m. inr (h.delivered i m);
  horizon = h.horizon;
}

-- a delivery, of one and of the other
delivery_more : (r : Result OutcomeData SiteFault) (vs ws : List SentSweep) (n : ℕ) (a b : Replica)
    → AllZip SweptMore vs ws → HeardMore a b
    → HeardMore (with_delivery_by r vs n a) (with_delivery_by r ws n b)
delivery_more (Ok o) vs ws n a b z h = go o.refused
  where
    go : (refused : Option Refusal)
        → HeardMore (with_delivery_unless refused vs n a) (with_delivery_unless refused ws n b)
    go None = credits_more vs ws (record a { delivered = n ∷ a.delivered })
        (record b { delivered = n ∷ b.delivered }) z (counted n a b h)
    go (Some f) = h
delivery_more (Err f) vs ws n a b z h = h

-- a delivery of the other alone
pub delivery_grows : (r : Result OutcomeData SiteFault) (ws : List SentSweep) (n : ℕ) (a b : Replica)
    → HeardMore a b → HeardMore a (with_delivery_by r ws n b)
delivery_grows (Ok o) ws n a b h = go o.refused
  where
    go : (refused : Option Refusal) → HeardMore a (with_delivery_unless refused ws n b)
    go None = credits_grow ws a (record b { delivered = n ∷ b.delivered }) (count_grows n a b h)
    go (Some f) = h
delivery_grows (Err f) ws n a b h = h

-- ---- calls

-- the other one after a call
abbrev after : Observations → Replica → Replica → Replica
after brought b p = record {
  site = b.site;
  heard = brought ++ p.heard;
  delivered = p.delivered;
  horizon = max p.horizon b.site.floor;
}

after_joins : (a b p : Replica) (j : BringsIn a b) → HeardMore a p
    → BringsIn p (after j.brought b p)
after_joins a b p j h = record {
  brought = j.brought;
  observations = j.observations;
  taken = j.taken ∙ ap (λ (s : SiteModel). j.brought ++ s.taken) (sym h.site);
  heard = refl;
  delivered = refl;
  horizon = refl;
}

after_more : (a b p : Replica) (j : BringsIn a b) → HeardMore a p
    → HeardMore b (after j.brought b p)
after_more a b p j h = record {
  site = refl;
  heard = λ o m. has_both j.brought a.heard p.heard o h.heard
      (subst (λ xs. Has xs o) j.heard m);
  delivered = λ n m. h.delivered n (subst (λ ns. Has ns n) j.delivered m);
  horizon = let e : b.horizon ≡ max a.horizon b.site.floor = j.horizon in
      let q : a.horizon ≤ p.horizon = h.horizon in omega arith;
}

calls_more : (c : Call) (r : Result OutcomeData SiteFault) (a b p : Replica) → Calls c r a b
    → HeardMore a p → (q : Replica) × Calls c r p q × HeardMore b q
calls_more c r a b p k h = (
  after k.joins.brought b p,
  record {
    step = subst (λ s. SiteStep s c r b.site) (sym h.site) k.step;
    joins = after_joins a b p k.joins h;
  },
  after_more a b p k.joins h,
)

-- from a peer's address comes a frame
module _ (s : SiteModel) (now : ℕ) (from : Addr) (octets : OctetList) (word : ℕ)
    (peer : IsAmong s.peers from) (none : ¬ IsAmong s.upstreams from) where
  framed : (d : Effect) → Dispatches (with_clock now s) from word octets d
      → Framed s.pending octets d
  framed d (inl h) = absurd (none h.0)
  framed d (inr (stranger, inl h)) = h.1
  framed d (inr (stranger, inr h)) = absurd (h.0 peer)

  step_framed : (r : Result OutcomeData SiteFault) (n : SiteModel)
      → SiteStep s (datagram now from octets word) r n → SiteStep s (frame now octets) r n
  step_framed (Ok o) n h = (h.0, framed h.0 h.1, h.2, h.3)
  step_framed (Err (OutOfMemory taken)) n (inl (none_taken, same, inl h)) = absurd (none h.0)
  step_framed (Err (OutOfMemory taken)) n (inl (none_taken, same, inr (stranger, inl h))) =
      inl (none_taken, same, h.1)
  step_framed (Err (OutOfMemory taken)) n (inl (none_taken, same, inr (stranger, inr h))) =
      absurd (h.0 peer)
  step_framed (Err (OutOfMemory taken)) n (inr h) = inr (h.0, framed h.0 h.1, h.2)

-- ---- events

-- the other one after a merge
abbrev gathered : Replica → Replica → Replica → Replica
gathered b from p = record {
  site = b.site;
  heard = from.heard ++ p.heard;
  delivered = p.delivered;
  horizon = max p.horizon from.horizon;
}

module _ (m k : FleetModel) (alike : IsAlike m k) where
  -- the same happens to a site that has heard of more
  abbrev pub GoesOn : {A : Type 0} → Event A → Result OutcomeData SiteFault → Replica → Replica
      → Type 0
  GoesOn f r b p = (q : Replica) × Becomes k f r p q × HeardMore b q

  other_there : (i : ℕ) (a : Replica) → At m.sites i a
      → (p : Replica) × At k.sites i p × HeardMore a p
  other_there i a at = zip_at HeardMore m.sites k.sites i a alike.sites at

  delivers_more : (now number : ℕ) (r : Result OutcomeData SiteFault) (a b p : Replica)
      → Delivers m now number r a b → HeardMore a p
      → (q : Replica) × Delivers k now number r p q × HeardMore b q
  delivers_more now number r a b p d h =
      let c = calls_more (frame now d.octets) r a d.read p d.calls h in (
        with_delivery_by r k.sweeps number c.0,
        record {
          octets = d.octets;
          kept = subst (λ fs. At fs number d.octets) (sym alike.frames) d.kept;
          read = c.0;
          calls = c.1;
          delivered = refl;
        },
        subst (λ x. HeardMore x (with_delivery_by r k.sweeps number c.0)) (sym d.delivered)
            (delivery_more r m.sweeps k.sweeps number d.read c.0 alike.sweeps c.2),
      )

  -- octets that come in as a frame, and their delivery
  frame_delivers : (now number : ℕ) (octets : OctetList) (r : Result OutcomeData SiteFault)
      (a b p : Replica) → Calls (frame now octets) r a b → At m.frames number octets
      → HeardMore a p → (q : Replica) × Delivers k now number r p q × HeardMore b q
  frame_delivers now number octets r a b p d kept h =
      let c = calls_more (frame now octets) r a b p d h in (
        with_delivery_by r k.sweeps number c.0,
        record {
          octets = octets;
          kept = subst (λ fs. At fs number octets) (sym alike.frames) kept;
          read = c.0;
          calls = c.1;
          delivered = refl;
        },
        delivery_grows r k.sweeps number b c.0 c.2,
      )

  merges_all_more : (from count : ℕ) (a b p : Replica) → MergesAll m from count a b
      → HeardMore a p → (q : Replica) × MergesAll k from count p q × HeardMore b q
  merges_all_more from count a b p d h =
      let z = other_there from d.other d.there in (
        gathered b z.0 p,
        record {
          other = z.0;
          there = z.1;
          merges = subst (λ s. Merges s z.0.site (Ok count) b.site) (sym h.site)
              (subst (λ s. Merges a.site s (Ok count) b.site) (sym z.2.site) d.merges);
          heard = refl;
          delivered = refl;
          horizon = refl;
        },
        record {
          site = refl;
          heard = λ x t. has_all d.other.heard z.0.heard a.heard p.heard x z.2.heard h.heard
              (subst (λ xs. Has xs x) d.heard t);
          delivered = λ n t. h.delivered n (subst (λ ns. Has ns n) d.delivered t);
          horizon = let e : b.horizon ≡ max a.horizon d.other.horizon = d.horizon in
              let u : a.horizon ≤ p.horizon = h.horizon in
              let v : d.other.horizon ≤ z.0.horizon = z.2.horizon in omega arith;
        },
      )

  merges_first_more : (from count : ℕ) (a b p : Replica) → MergesFirst m from count a b
      → HeardMore a p → (q : Replica) × MergesFirst k from count p q × HeardMore b q
  merges_first_more from count a b p d h =
      let z = other_there from d.other d.there in (
        after d.joins.brought b p,
        record {
          other = z.0;
          there = z.1;
          merges = subst (λ s. Merges s z.0.site (Err (OutOfMemory count)) b.site) (sym h.site)
              (subst (λ s. Merges a.site s (Err (OutOfMemory count)) b.site) (sym z.2.site)
              d.merges);
          joins = after_joins a b p d.joins h;
        },
        after_more a b p d.joins h,
      )

  stays_more : (a b p : Replica) → b ≡ a → HeardMore a p → HeardMore b p
  stays_more a b p e h = subst (λ x. HeardMore x p) (sym e) h

  becomes_more : {A : Type 0} (e : Event A) (r : Result OutcomeData SiteFault) (a b p : Replica)
      → Becomes m e r a b → HeardMore a p → GoesOn e r b p
  becomes_more (Datagram site now from word bytes) r a b p d h =
      calls_more (datagram now from bytes word) r a b p d h
  becomes_more (Tick site now) r a b p d h = calls_more (tick now) r a b p d h
  becomes_more (Frame site now bytes) r a b p d h = calls_more (frame now bytes) r a b p d h
  becomes_more (Learn site now bytes) r a b p d h = calls_more (learn now bytes) r a b p d h
  becomes_more (Flush site now name) r a b p d h = calls_more (flush now name) r a b p d h
  becomes_more (Deliver site now number) r a b p d h = delivers_more now number r a b p d h
  becomes_more (Sweep site) (Ok o) a b p d h = (
    p,
    (
      record {
        sweep = subst (λ s. IsSweep s o.frames) (sym h.site) d.0.sweep;
        says = d.0.says;
      },
      refl,
    ),
    stays_more a b p d.1 h,
  )
  becomes_more (Sweep site) (Err (OutOfMemory count)) a b p d h = (
    p,
    (
      d.0,
      refl,
      record {
        items = d.2.items;
        cached = subst (λ (s : SiteModel). IsCached s.taken s.floor d.2.items) (sym h.site)
            d.2.cached;
        some = d.2.some;
      },
    ),
    stays_more a b p d.1 h,
  )
  becomes_more (Merge into from) (Ok o) a b p (inl d) h =
      (p, inl (d.0, (d.1.0, refl)), stays_more a b p d.1.1 h)
  becomes_more (Merge into from) (Ok o) a b p (inr d) h =
      let q = merges_all_more from o.taken a b p d.1.0 h in (q.0, inr (d.0, (q.1, d.1.1)), q.2)
  becomes_more (Merge into from) (Err (OutOfMemory count)) a b p d h =
      let q = merges_first_more from count a b p d.1 h in (q.0, (d.0, q.1), q.2)
  becomes_more (Restart site) (Ok o) a b p d h = (
    new_replica (site_again p.site),
    (d.0, refl),
    subst (λ x. HeardMore x (new_replica (site_again p.site))) (sym d.1)
        (subst (λ s. HeardMore (new_replica (site_again a.site)) (new_replica (site_again s)))
        (sym h.site) (more_itself (new_replica (site_again a.site)))),
  )
  becomes_more (Restart site) (Err (OutOfMemory count)) a b p d h = absurd d

  -- the sweep of one and of the other
  sweeps_more : {A : Type 0} (e : Event A) (n : ℕ) (fs : List OctetList) (a p : Replica)
      → HeardMore a p → AllZip SweptMore (sweeps_of e n fs a) (sweeps_of e n fs p)
  sweeps_more (Sweep site) n [] a p h = tt
  sweeps_more (Sweep site) n (f ∷ fs) a p h =
      (record { numbers = refl; heard = h.heard; horizon = h.horizon }, tt)
  sweeps_more (Datagram site now from word bytes) n fs a p h = tt
  sweeps_more (Tick site now) n fs a p h = tt
  sweeps_more (Frame site now bytes) n fs a p h = tt
  sweeps_more (Learn site now bytes) n fs a p h = tt
  sweeps_more (Flush site now name) n fs a p h = tt
  sweeps_more (Deliver site now number) n fs a p h = tt
  sweeps_more (Merge into from) n fs a p h = tt
  sweeps_more (Restart site) n fs a p h = tt

  -- what an event does in one fleet, another one does in the other
  pub record Replays {A : Type 0} (e f : Event A) : Type 0 where
    pub site : site_of f ≡ site_of e
    missing : (fault : WorldFault A)
        → ReportsMissing (length m.sites) (length m.frames) e fault
        → ReportsMissing (length k.sites) (length k.frames) f fault
    becomes : (r : Result OutcomeData SiteFault) (a b p : Replica) → At m.sites (site_of e) a
        → Becomes m e r a b → HeardMore a p → GoesOn f r b p
    sweeps : (fs : List OctetList) (a p : Replica) → HeardMore a p
        → AllZip SweptMore (sweeps_of e (length m.frames) fs a)
        (sweeps_of f (length k.frames) fs p)

  many_sites : length k.sites ≡ length m.sites
  many_sites = AllZip-long HeardMore m.sites k.sites alike.sites

  many_frames : length k.frames ≡ length m.frames
  many_frames = ap length alike.frames

  replays_itself : {A : Type 0} (e : Event A) → Replays e e
  replays_itself e = record {
    site = refl;
    missing = λ fault q.
        subst (λ n. ReportsMissing n (length k.frames) e fault) (sym many_sites)
        (subst (λ n. ReportsMissing (length m.sites) n e fault) (sym many_frames) q);
    becomes = λ r a b p at d h. becomes_more e r a b p d h;
    sweeps = λ fs a p h.
        subst (λ n. AllZip SweptMore (sweeps_of e (length m.frames) fs a) (sweeps_of e n fs p))
        (sym many_frames) (sweeps_more e (length m.frames) fs a p h);
  }

  pub step_more : {A : Type 0} (e f : Event A) (r : Result (Stepped A) (WorldFault A)) (n : FleetModel)
      → Replays e f → Step m e r n → (l : FleetModel) × Step k f r l × IsAlike n l
  step_more e f r n z (is_done s h told) =
      let p = other_there (site_of e) h.old h.there in
      let q = z.becomes (Ok h.outcome) h.old h.new p.0 h.there h.becomes p.2 in
      let l : FleetModel = record {
        sites = slice_set k.sites (site_of f) q.0;
        frames = k.frames ++ h.outcome.frames;
        sweeps = sweeps_of f (length k.frames) h.outcome.frames p.0 ++ k.sweeps;
      } in (
        l,
        is_done s (record {
          outcome = h.outcome;
          old = p.0;
          new = q.0;
          there = subst (λ i. At k.sites i p.0) (sym z.site) p.1;
          becomes = q.1;
          says = h.says ∙ ap (λ c. stepped_of h.outcome (numbers_from c (length h.outcome.frames)))
              (sym many_frames);
          next = refl;
        }) told,
        subst (λ x. IsAlike x l) (sym h.next) (record {
          sites = subst (λ i. AllZip HeardMore (slice_set m.sites (site_of e) h.new)
              (slice_set k.sites i q.0)) (sym z.site)
              (zip_set HeardMore m.sites k.sites (site_of e) h.new q.0 alike.sites q.2);
          frames = ap (λ fs. fs ++ h.outcome.frames) alike.frames;
          sweeps = zip_both SweptMore (sweeps_of e (length m.frames) h.outcome.frames h.old)
              m.sweeps (sweeps_of f (length k.frames) h.outcome.frames p.0) k.sweeps
              (z.sweeps h.outcome.frames h.old p.0 p.2) alike.sweeps;
        }),
      )
  step_more e f r n z (is_missing fault q told same) =
      (k, is_missing fault (z.missing fault q) told refl, subst (λ x. IsAlike x k) (sym same) alike)
  step_more e f r n z (is_stopped count h told) =
      let p = other_there (site_of e) h.old h.there in
      let q = z.becomes (Err (OutOfMemory count)) h.old h.new p.0 h.there h.becomes p.2 in
      let l : FleetModel = record k { sites = slice_set k.sites (site_of f) q.0 } in (
        l,
        is_stopped count (record {
          old = p.0;
          new = q.0;
          there = subst (λ i. At k.sites i p.0) (sym z.site) p.1;
          becomes = q.1;
          next = refl;
        }) told,
        subst (λ x. IsAlike x l) (sym h.next) (record {
          sites = subst (λ i. AllZip HeardMore (slice_set m.sites (site_of e) h.new)
              (slice_set k.sites i q.0)) (sym z.site)
              (zip_set HeardMore m.sites k.sites (site_of e) h.new q.0 alike.sites q.2);
          frames = alike.frames;
          sweeps = alike.sweeps;
        }),
      )
  step_more e f r n z (loses_frames s h told) =
      let p = other_there (site_of e) h.old h.there in
      let q = z.becomes (Ok h.outcome) h.old h.new p.0 h.there h.becomes p.2 in
      let l : FleetModel = record k { sites = slice_set k.sites (site_of f) q.0 } in (
        l,
        loses_frames s (record {
          outcome = h.outcome;
          old = p.0;
          new = q.0;
          there = subst (λ i. At k.sites i p.0) (sym z.site) p.1;
          becomes = q.1;
          some = h.some;
          says = h.says;
          next = refl;
        }) told,
        subst (λ x. IsAlike x l) (sym h.next) (record {
          sites = subst (λ i. AllZip HeardMore (slice_set m.sites (site_of e) h.new)
              (slice_set k.sites i q.0)) (sym z.site)
              (zip_set HeardMore m.sites k.sites (site_of e) h.new q.0 alike.sites q.2);
          frames = alike.frames;
          sweeps = alike.sweeps;
        }),
      )

module _ (configs : List ConfigData) where
  module _ (m k : FleetModel) (alike : IsAlike m k) (of : AreOf configs m) where
    -- a frame comes in, and its delivery does what it does
    delivery_replays : {A : Type 0} (e : Event A) (site now number : ℕ) (octets : OctetList)
        → site_of e ≡ site → (site < length m.sites → HasSites (length m.sites) e)
        → HasNamedFrame (length m.frames) e
        → ((fs : List OctetList) (a : Replica) → sweeps_of e (length m.frames) fs a ≡ [])
        → ((r : Result OutcomeData SiteFault) (a b : Replica) → At m.sites site a
        → Becomes m e r a b → Calls (frame now octets) r a b)
        → At m.frames number octets → Replays m k alike e (Deliver site now number)
    delivery_replays e site now number octets same sites named none does kept = record {
      site = sym same;
      missing = λ fault q. elim q [
        | site_missing s f ↦
            site_missing
            (λ h. s (sites (let q = many_sites m k alike in omega (arith, q, h)))) f
        | frame_missing s f g ↦ absurd (f named)
      ];
      becomes = λ r a b p at d h.
          frame_delivers m k alike now number octets r a b p
          (does r a b (subst (λ i. At m.sites i a) same at) d) kept h;
      sweeps = λ fs a p h. subst (λ ws. AllZip SweptMore ws []) (sym (none fs a)) tt;
    }

    -- what comes from a peer's address comes in as a frame
    peer_framed : (site now : ℕ) (from : Addr) (word : ℕ) (octets : OctetList)
        → IsFromPeer configs site from → (r : Result OutcomeData SiteFault) (a b : Replica)
        → At m.sites site a → Calls (datagram now from octets word) r a b
        → Calls (frame now octets) r a b
    peer_framed site now from word octets peer r a b at h =
        let z = of site a at in
        let same : z.0 ≡ peer.config = at_same configs site z.0 peer.config z.1 peer.there in
        let is : IsOf peer.config a.site = subst (λ c. IsOf c a.site) same z.2 in
        record {
          step = step_framed a.site now from octets word
              (subst (λ xs. IsAmong xs from) (sym is.peers) peer.peer)
              (λ u. peer.no_upstream (subst (λ xs. IsAmong xs from) is.upstreams u))
              r b.site h.step;
          joins = h.joins;
        }

    pub arrives_replays : {A : Type 0} (e f : Event A) → CountsAs configs m e f
        → Replays m k alike e f
    arrives_replays (Datagram site now from word bytes) f (inl q) =
        subst (Replays m k alike (Datagram site now from word bytes)) (sym q)
        (replays_itself m k alike (Datagram site now from word bytes))
    arrives_replays (Datagram site now from word bytes) f (inr (peer, d)) =
        subst (Replays m k alike (Datagram site now from word bytes)) (sym d.delivery)
        (delivery_replays (Datagram site now from word bytes) site now d.number bytes refl
        (λ h. h) tt (λ fs a. refl)
        (λ r a b at h. peer_framed site now from word bytes peer r a b at h) d.kept)
    arrives_replays (Frame site now bytes) f (inl q) =
        subst (Replays m k alike (Frame site now bytes)) (sym q)
        (replays_itself m k alike (Frame site now bytes))
    arrives_replays (Frame site now bytes) f (inr d) =
        subst (Replays m k alike (Frame site now bytes)) (sym d.delivery)
        (delivery_replays (Frame site now bytes) site now d.number bytes refl (λ h. h) tt
        (λ fs a. refl) (λ r a b at h. h) d.kept)
    arrives_replays (Tick site now) f q =
        subst (Replays m k alike (Tick site now)) (sym q) (replays_itself m k alike (Tick site now))
    arrives_replays (Sweep site) f q =
        subst (Replays m k alike (Sweep site)) (sym q) (replays_itself m k alike (Sweep site))
    arrives_replays (Deliver site now number) f q =
        subst (Replays m k alike (Deliver site now number)) (sym q)
        (replays_itself m k alike (Deliver site now number))
    arrives_replays (Learn site now bytes) f q =
        subst (Replays m k alike (Learn site now bytes)) (sym q)
        (replays_itself m k alike (Learn site now bytes))
    arrives_replays (Flush site now name) f q =
        subst (Replays m k alike (Flush site now name)) (sym q)
        (replays_itself m k alike (Flush site now name))
    arrives_replays (Merge into from) f q =
        subst (Replays m k alike (Merge into from)) (sym q)
        (replays_itself m k alike (Merge into from))
    arrives_replays (Restart site) f q =
        subst (Replays m k alike (Restart site)) (sym q)
        (replays_itself m k alike (Restart site))

  runs_alike : {A : Type 0} (m k : FleetModel) → IsAlike m k → AreOf configs m → (es : List (Event A))
      (rs : Results A) (n : FleetModel) (run : Run m es rs n) (fs : List (Event A))
      → CountAs configs m es rs n run fs → (l : FleetModel) × Run k fs rs l × IsAlike n l
  runs_alike m k alike of [] [] n run [] h = (k, refl, subst (λ x. IsAlike x k) (sym run) alike)
  runs_alike m k alike of (e ∷ es) (r ∷ rs) n run (f ∷ fs) h =
      let z = step_more m k alike e f r run.0 (arrives_replays m k alike of e f h.0) run.1 in
      let y = runs_alike run.0 z.0 z.2 (step_of configs m e r run.0 run.1 of) es rs n run.2 fs h.1 in
      (y.0, (z.0, z.1, y.1), y.2)
  runs_alike m k alike of [] [] n run (f ∷ fs) h = absurd h
  runs_alike m k alike of (e ∷ es) (r ∷ rs) n run [] h = absurd h
  runs_alike m k alike of [] (r ∷ rs) n run fs h = absurd run
  runs_alike m k alike of (e ∷ es) [] n run fs h = absurd run

pub alike_itself : (m : FleetModel) → IsAlike m m
alike_itself m = record {
  sites = zip_itself HeardMore m.sites more_itself;
  frames = refl;
  sweeps = zip_itself SweptMore m.sweeps
      (λ w. record { numbers = refl; heard = λ o p. p; horizon = omega arith });
}

pub alike : (A : Type 0) → CountAlike A
alike A configs m k l same events results n run arrived h =
    runs_alike configs m k same (ran_of configs A m l) events results n run arrived h

-- kept frames arrive as deliveries
kept_arrives : {A : Type 0} (configs : List ConfigData) (m : FleetModel) (e : Event A)
    → GossipIsKept configs m e → (f : Event A) × CountsAs configs m e f × BringsNoOctets configs f
kept_arrives configs m (Datagram site now from word bytes) (inl h) = (
  Deliver site now h.1.0,
  inr (h.0, record { number = h.1.0; kept = h.1.1; delivery = refl }),
  tt,
)
kept_arrives configs m (Datagram site now from word bytes) (inr h) =
    (Datagram site now from word bytes, inl refl, h.0)
kept_arrives configs m (Frame site now bytes) h = (
  Deliver site now h.0,
  inr (record { number = h.0; kept = h.1; delivery = refl }),
  tt,
)
kept_arrives configs m (Tick site now) h = (Tick site now, refl, tt)
kept_arrives configs m (Sweep site) h = (Sweep site, refl, tt)
kept_arrives configs m (Deliver site now number) h = (Deliver site now number, refl, tt)
kept_arrives configs m (Learn site now bytes) h = (Learn site now bytes, refl, tt)
kept_arrives configs m (Flush site now name) h = (Flush site now name, refl, tt)
kept_arrives configs m (Merge into from) h = (Merge into from, refl, tt)
kept_arrives configs m (Restart site) h = (Restart site, refl, tt)

pub kept_arrive : (A : Type 0) → KeptCountAs A
kept_arrive A configs m [] [] n run h = ([], tt, tt)
kept_arrive A configs m (e ∷ es) (r ∷ rs) n run h =
    let f = kept_arrives configs m e h.0 in
    let fs = kept_arrive A configs run.0 es rs n run.2 h.1 in
    (f.0 ∷ fs.0, (f.1, fs.1), (f.2, fs.2))
kept_arrive A configs m [] (r ∷ rs) n run h = absurd run
kept_arrive A configs m (e ∷ es) [] n run h = absurd run

-- a world stands for what is alike
zip_chain : {A B : Type 0} (R : A → B → Type 0) (Q : B → B → Type 0)
    → ((x : A) (y z : B) → R x y → Q y z → R x z) → (xs : List A) (ys zs : List B)
    → AllZip R xs ys → AllZip Q ys zs → AllZip R xs zs
zip_chain R Q f [] [] [] h k = tt
zip_chain R Q f [] [] (z ∷ zs) h k = absurd k
zip_chain R Q f [] (y ∷ ys) zs h k = absurd h
zip_chain R Q f (x ∷ xs) [] zs h k = absurd h
zip_chain R Q f (x ∷ xs) (y ∷ ys) [] h k = absurd k
zip_chain R Q f (x ∷ xs) (y ∷ ys) (z ∷ zs) h k =
    (f x y z h.0 k.0, zip_chain R Q f xs ys zs h.1 k.1)

pub alike_stand : AlikeStand
alike_stand m n alike w h = record {
  sites = zip_chain StandsForReplica HeardMore
      (λ s a b k q. subst (StandsForSite s) (sym q.site) k) w.sites m.sites n.sites h.sites
      alike.sites;
  frames = h.frames ∙ sym alike.frames;
}
