-- No horizon lies after the latest moment of a run.
-- Serves law `telling`.
use Rattle.std.proofs.Common.{◌≡◌, ℕ, ◌≤◌, max, Bool, true, false, cond, inl, inr, List, [], ◌∷◌, length, slice_set, refl, sym, ap, subst, arith, Option, Some, None, Result, Ok, Err}
use Rattle.fleet_name.specs.Places.{At, Has}
use Rattle.fleet_name.proofs.Lemmas.{has_either, at_set, at_mapped}
use Rattle.fleet_site.specs.ConfigData.{ConfigData}
use Rattle.fleet_site.specs.OutcomeData.{OutcomeData}
use Rattle.fleet_site.specs.SiteModel.{SiteModel}
use Rattle.fleet_site.specs.Step.{Call, datagram, tick, frame, learn, flush, with_call_begun}
use Rattle.fleet_site.specs.Step.{Step as SiteStep}
use Rattle.fleet_site.specs.declared.outcome.Refusal.{Refusal}
use Rattle.fleet_site.specs.declared.outcome.SiteFault.{SiteFault}
use Rattle.fleet_site.specs.declared.outcome.SiteFault.TheVariants.{OutOfMemory}
use Rattle.fleet_world.specs.FleetModel.{Replica, SentSweep, FleetModel, opening_replica, opening, contains_all, with_sweep, with_whole_sweeps}
use Rattle.fleet_world.specs.Becomes.{BringsIn, Calls, with_delivery_unless, with_delivery_by, Becomes}
use Rattle.fleet_world.specs.Event.{site_of}
use Rattle.fleet_world.specs.Step.{sweeps_of, Step, is_done, is_missing, is_stopped, loses_frames}
use Rattle.fleet_world.specs.Run.{Results, Run}
use Rattle.fleet_world.specs.Telling.{now_of, AreBy, HorizonsBy}
use Rattle.fleet_world.specs.declared.event.Event.{Event}
use Rattle.fleet_world.specs.declared.event.Event.TheVariants.{Datagram, Tick, Sweep, Frame, Deliver, Learn, Flush, Merge, Restart}
use Rattle.fleet_world.specs.declared.stepped.Stepped.{Stepped}
use Rattle.fleet_world.specs.declared.fault.WorldFault.{WorldFault}
use Rattle.fleet_world.proofs.Calls as calls

-- the clock and the floor of a site lie no later than t
record IsSiteBy (t : ℕ) (s : SiteModel) : Type 0 where
  clock : s.clock ≤ t
  floor : s.floor ≤ t

-- nor does its horizon
record IsReplicaBy (t : ℕ) (a : Replica) : Type 0 where
  site : IsSiteBy t a.site
  horizon : a.horizon ≤ t

record IsFleetBy (t : ℕ) (m : FleetModel) : Type 0 where
  sites : (i : ℕ) (a : Replica) → At m.sites i a → IsReplicaBy t a
  sweeps : (w : SentSweep) → Has m.sweeps w → w.horizon ≤ t

-- the moment of a call
abbrev call_moment : Call → ℕ
call_moment (datagram now from octets word) = now
call_moment (tick now) = now
call_moment (frame now octets) = now
call_moment (learn now octets) = now
call_moment (flush now name) = now

module _ (t : ℕ) where
  site_by : (s n : SiteModel) → IsSiteBy t s → n.clock ≡ s.clock → n.floor ≡ s.floor
      → IsSiteBy t n
  site_by s n h c f = record {
    clock = let p : s.clock ≤ t = h.clock in omega (arith, c, p);
    floor = let p : s.floor ≤ t = h.floor in omega (arith, f, p);
  }

  begun_by : (c : Call) (s : SiteModel) → call_moment c ≤ t → IsSiteBy t s
      → IsSiteBy t (with_call_begun c s)
  begun_by (datagram now from octets word) s l h = record {
    clock = let p : s.clock ≤ t = h.clock in omega (arith, l, p);
    floor = h.floor;
  }
  begun_by (tick now) s l h = record {
    clock = let p : s.clock ≤ t = h.clock in omega (arith, l, p);
    floor = let p : s.clock ≤ t = h.clock in
        let q : s.floor ≤ t = h.floor in omega (arith, l, p, q);
  }
  begun_by (frame now octets) s l h = record {
    clock = let p : s.clock ≤ t = h.clock in omega (arith, l, p);
    floor = h.floor;
  }
  begun_by (learn now octets) s l h = record {
    clock = let p : s.clock ≤ t = h.clock in omega (arith, l, p);
    floor = h.floor;
  }
  begun_by (flush now name) s l h = record {
    clock = let p : s.clock ≤ t = h.clock in omega (arith, l, p);
    floor = h.floor;
  }

  step_by : (c : Call) (r : Result OutcomeData SiteFault) (s n : SiteModel) → SiteStep s c r n
      → call_moment c ≤ t → IsSiteBy t s → IsSiteBy t n
  step_by c (Ok o) s n h l k =
      site_by (with_call_begun c s) n (begun_by c s l k)
      (ap (λ (m : SiteModel). m.clock) h.3) (ap (λ (m : SiteModel). m.floor) h.3)
  step_by c (Err (OutOfMemory count)) s n (inl h) l k =
      site_by (with_call_begun c s) n (begun_by c s l k)
      (ap (λ (m : SiteModel). m.clock) h.1) (ap (λ (m : SiteModel). m.floor) h.1)
  step_by c (Err (OutOfMemory count)) s n (inr h) l k =
      site_by (with_call_begun c s) n (begun_by c s l k)
      (ap (λ (m : SiteModel). m.clock) h.2.1) (ap (λ (m : SiteModel). m.floor) h.2.1)

  joins_by : (a b : Replica) → BringsIn a b → IsReplicaBy t a → IsSiteBy t b.site
      → IsReplicaBy t b
  joins_by a b j k s = record {
    site = s;
    horizon = let e : b.horizon ≡ max a.horizon b.site.floor = j.horizon in
        let p : a.horizon ≤ t = k.horizon in
        let q : b.site.floor ≤ t = s.floor in omega (arith, e, p, q);
  }

  calls_by : (c : Call) (r : Result OutcomeData SiteFault) (a b : Replica) → Calls c r a b
      → call_moment c ≤ t → IsReplicaBy t a → IsReplicaBy t b
  calls_by c r a b h l k =
      joins_by a b h.joins k (step_by c r a.site b.site h.step l k.site)

  credits_by : (ws : List SentSweep) (a : Replica) → ((w : SentSweep) → Has ws w → w.horizon ≤ t)
      → a.horizon ≤ t → (with_whole_sweeps ws a).horizon ≤ t
  credits_by [] a f l = l
  credits_by (w ∷ ws) a f l =
      credits_by ws (cond (contains_all w.numbers a.delivered) (with_sweep w a) a)
      (λ v p. f v (inr p)) (go (contains_all w.numbers a.delivered))
    where
      go : (b : Bool) → (cond b (with_sweep w a) a).horizon ≤ t
      go true = let p : w.horizon ≤ t = f w (inl refl) in omega (arith, l, p)
      go false = l

  delivery_by : (r : Result OutcomeData SiteFault) (ws : List SentSweep) (n : ℕ) (a : Replica)
      → ((w : SentSweep) → Has ws w → w.horizon ≤ t) → a.horizon ≤ t
      → (with_delivery_by r ws n a).horizon ≤ t
  delivery_by (Ok o) ws n a f l = go o.refused
    where
      go : (refused : Option Refusal) → (with_delivery_unless refused ws n a).horizon ≤ t
      go None = credits_by ws (record a { delivered = n ∷ a.delivered }) f l
      go (Some g) = l
  delivery_by (Err e) ws n a f l = l

  becomes_by : {A : Type 0} (m : FleetModel) (e : Event A) (r : Result OutcomeData SiteFault)
      (a b : Replica) → Becomes m e r a b → now_of e ≤ t → IsFleetBy t m → IsReplicaBy t a
      → IsReplicaBy t b
  becomes_by m (Datagram site now from word bytes) r a b h l f k =
      calls_by (datagram now from bytes word) r a b h l k
  becomes_by m (Tick site now) r a b h l f k = calls_by (tick now) r a b h l k
  becomes_by m (Frame site now bytes) r a b h l f k = calls_by (frame now bytes) r a b h l k
  becomes_by m (Learn site now bytes) r a b h l f k = calls_by (learn now bytes) r a b h l k
  becomes_by m (Flush site now name) r a b h l f k = calls_by (flush now name) r a b h l k
  becomes_by m (Deliver site now number) r a b h l f k =
      let z = calls_by (frame now h.octets) r a h.read h.calls l k in
      subst (IsReplicaBy t) (sym h.delivered) (record {
        site = subst (IsSiteBy t) (sym (calls.with_delivery_site r m.sweeps number h.read)) z.site;
        horizon = delivery_by r m.sweeps number h.read f.sweeps z.horizon;
      })
  becomes_by m (Sweep site) (Ok o) a b h l f k = subst (IsReplicaBy t) (sym h.1) k
  becomes_by m (Sweep site) (Err (OutOfMemory count)) a b h l f k =
      subst (IsReplicaBy t) (sym h.1) k
  becomes_by m (Merge into from) (Ok o) a b (inl h) l f k = subst (IsReplicaBy t) (sym h.1.1) k
  becomes_by m (Merge into from) (Ok o) a b (inr h) l f k =
      let z = h.1.0 in
      let y = f.sites from z.other z.there in
      let af : a.site.floor ≤ t = k.site.floor in
      let ac : a.site.clock ≤ t = k.site.clock in
      let ah : a.horizon ≤ t = k.horizon in
      let of : z.other.site.floor ≤ t = y.site.floor in
      let oh : z.other.horizon ≤ t = y.horizon in
      record {
        site = record {
          clock = let e : b.site.clock
              ≡ max a.site.clock (max a.site.floor z.other.site.floor) =
              ap (λ (s : SiteModel). s.clock) z.merges.3 in omega (arith, e, af, ac, of);
          floor = let e : b.site.floor ≡ max a.site.floor z.other.site.floor =
              ap (λ (s : SiteModel). s.floor) z.merges.3 in omega (arith, e, af, of);
        };
        horizon = let e : b.horizon ≡ max a.horizon z.other.horizon = z.horizon in
            omega (arith, e, ah, oh);
      }
  becomes_by m (Merge into from) (Err (OutOfMemory count)) a b h l f k =
      joins_by a b h.1.joins k
      (site_by a.site b.site k.site (ap (λ (s : SiteModel). s.clock) h.1.merges.2.1)
      (ap (λ (s : SiteModel). s.floor) h.1.merges.2.1))
  becomes_by m (Restart site) (Ok o) a b h l f k = subst (IsReplicaBy t) (sym h.1) (record {
    site = record { clock = omega arith; floor = omega arith };
    horizon = omega arith;
  })
  becomes_by m (Restart site) (Err (OutOfMemory count)) a b h l f k = absurd h

  set_by : {A : Type 0} (m : FleetModel) (e : Event A) (r : Result OutcomeData SiteFault)
      (a b : Replica) → At m.sites (site_of e) a → Becomes m e r a b → now_of e ≤ t
      → IsFleetBy t m → (i : ℕ) (c : Replica) → At (slice_set m.sites (site_of e) b) i c
      → IsReplicaBy t c
  set_by m e r a b at h l f i c p = elim (at_set m.sites (site_of e) i b c p) [
    | inl q ↦
        subst (IsReplicaBy t) (sym q.1)
        (becomes_by m e r a b h l f (f.sites (site_of e) a at))
    | inr q ↦ f.sites i c q.1
  ]

  sweeps_by : {A : Type 0} (e : Event A) (n : ℕ) (fs : List (List ℕ)) (a : Replica)
      → a.horizon ≤ t → (w : SentSweep) → Has (sweeps_of e n fs a) w → w.horizon ≤ t
  sweeps_by (Sweep site) n [] a l w p = absurd p
  sweeps_by (Sweep site) n (f ∷ fs) a l w (inl e) =
      let q : a.horizon ≡ w.horizon = ap (λ (x : SentSweep). x.horizon) e in omega (arith, q, l)
  sweeps_by (Sweep site) n (f ∷ fs) a l w (inr p) = absurd p
  sweeps_by (Datagram site now from word bytes) n fs a l w p = absurd p
  sweeps_by (Tick site now) n fs a l w p = absurd p
  sweeps_by (Frame site now bytes) n fs a l w p = absurd p
  sweeps_by (Learn site now bytes) n fs a l w p = absurd p
  sweeps_by (Flush site now name) n fs a l w p = absurd p
  sweeps_by (Deliver site now number) n fs a l w p = absurd p
  sweeps_by (Merge into from) n fs a l w p = absurd p
  sweeps_by (Restart site) n fs a l w p = absurd p

  fleet_step_by : {A : Type 0} (m : FleetModel) (e : Event A)
      (r : Result (Stepped A) (WorldFault A)) (n : FleetModel) → Step m e r n → now_of e ≤ t
      → IsFleetBy t m → IsFleetBy t n
  fleet_step_by m e r n (is_done s h told) l f = subst (IsFleetBy t) (sym h.next) (record {
    sites = set_by m e (Ok h.outcome) h.old h.new h.there h.becomes l f;
    sweeps = λ w p. elim
        (has_either (sweeps_of e (length m.frames) h.outcome.frames h.old) m.sweeps w p) [
          | inl q ↦
              sweeps_by e (length m.frames) h.outcome.frames h.old
              (f.sites (site_of e) h.old h.there).horizon w q
          | inr q ↦ f.sweeps w q
        ];
  })
  fleet_step_by m e r n (is_missing g missing told same) l f = subst (IsFleetBy t) (sym same) f
  fleet_step_by m e r n (is_stopped count h told) l f = subst (IsFleetBy t) (sym h.next) (record {
    sites = set_by m e (Err (OutOfMemory count)) h.old h.new h.there h.becomes l f;
    sweeps = f.sweeps;
  })
  fleet_step_by m e r n (loses_frames s h told) l f = subst (IsFleetBy t) (sym h.next) (record {
    sites = set_by m e (Ok h.outcome) h.old h.new h.there h.becomes l f;
    sweeps = f.sweeps;
  })

  run_by : {A : Type 0} (m : FleetModel) (es : List (Event A)) (rs : Results A) (n : FleetModel)
      → Run m es rs n → AreBy t es → IsFleetBy t m → IsFleetBy t n
  run_by m [] [] n h l f = subst (IsFleetBy t) (sym h) f
  run_by m (e ∷ es) (r ∷ rs) n h l f =
      run_by h.0 es rs n h.2 (λ g p. l g (inr p))
      (fleet_step_by m e r h.0 h.1 (l e (inl refl)) f)
  run_by m [] (r ∷ rs) n h l f = absurd h
  run_by m (e ∷ es) [] n h l f = absurd h

  opening_by : (configs : List ConfigData) → IsFleetBy t (opening configs)
  opening_by configs = record {
    sites = λ i a p. let r = at_mapped opening_replica configs i a p in
        subst (IsReplicaBy t) r.2 (record {
          site = record { clock = omega arith; floor = omega arith };
          horizon = omega arith;
        });
    sweeps = λ w p. absurd p;
  }

pub horizons : (A : Type 0) → HorizonsBy A
horizons A configs events results end run t l i a at =
    ((run_by t (opening configs) events results end run l (opening_by t configs)).sites i a
    at).horizon
