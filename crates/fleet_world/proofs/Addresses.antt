-- The addresses of sites stay, along any run.
-- Serves the laws `deliveries`, `fresh`, `origin`, `servers`, `telling`, `withdrawn`.
use Rattle.std.proofs.Common.{◌≡◌, ℕ, inl, inr, List, [], ◌∷◌, slice_set, refl, sym, ap, subst, ◌∙◌, Result, Ok, Err}
use Rattle.fleet_name.specs.Places.{At}
use Rattle.fleet_name.proofs.Lemmas.{at_set, at_mapped}
use Rattle.fleet_site.specs.ConfigData.{ConfigData}
use Rattle.fleet_site.specs.OutcomeData.{OutcomeData}
use Rattle.fleet_site.specs.SiteModel.{SiteModel}
use Rattle.fleet_site.specs.Step.{Call, datagram, tick, frame, learn, flush, with_call_begun}
use Rattle.fleet_site.specs.Step.{Step as SiteStep}
use Rattle.fleet_site.specs.declared.outcome.SiteFault.{SiteFault}
use Rattle.fleet_site.specs.declared.outcome.SiteFault.TheVariants.{OutOfMemory}
use Rattle.fleet_world.specs.FleetModel.{Replica, FleetModel, opening_replica, opening}
use Rattle.fleet_world.specs.Becomes.{Calls, Becomes}
use Rattle.fleet_world.specs.Event.{site_of}
use Rattle.fleet_world.specs.Step.{Step, is_done, is_missing, is_stopped, loses_frames}
use Rattle.fleet_world.specs.Run.{Results, Run}
use Rattle.fleet_world.specs.Reaching.{RunsTo}
use Rattle.fleet_world.specs.declared.event.Event.{Event}
use Rattle.fleet_world.specs.declared.event.Event.TheVariants.{Datagram, Tick, Sweep, Frame, Deliver, Learn, Flush, Merge, Restart}
use Rattle.fleet_world.specs.declared.stepped.Stepped.{Stepped}
use Rattle.fleet_world.specs.declared.fault.WorldFault.{WorldFault}
use Rattle.fleet_world.proofs.Calls as calls

-- the upstreams and peers of one are those of the other
record SameAddresses (s n : SiteModel) : Type 0 where
  upstreams : n.upstreams ≡ s.upstreams
  peers : n.peers ≡ s.peers

same_addresses : (s n : SiteModel) → n ≡ s → SameAddresses s n
same_addresses s n e = record {
  upstreams = ap (λ (x : SiteModel). x.upstreams) e;
  peers = ap (λ (x : SiteModel). x.peers) e;
}

begun_upstreams : (c : Call) (s : SiteModel) → (with_call_begun c s).upstreams ≡ s.upstreams
begun_upstreams (datagram now from octets word) s = refl
begun_upstreams (tick now) s = refl
begun_upstreams (frame now octets) s = refl
begun_upstreams (learn now octets) s = refl
begun_upstreams (flush now name) s = refl

step_upstreams : (c : Call) (r : Result OutcomeData SiteFault) (s n : SiteModel)
    → SiteStep s c r n → n.upstreams ≡ s.upstreams
step_upstreams c (Ok o) s n h = ap (λ (m : SiteModel). m.upstreams) h.3 ∙ begun_upstreams c s
step_upstreams c (Err (OutOfMemory count)) s n (inl h) =
    ap (λ (m : SiteModel). m.upstreams) h.1 ∙ begun_upstreams c s
step_upstreams c (Err (OutOfMemory count)) s n (inr h) =
    ap (λ (m : SiteModel). m.upstreams) h.2.1 ∙ begun_upstreams c s

calls_addresses : (c : Call) (r : Result OutcomeData SiteFault) (a b : Replica) → Calls c r a b
    → SameAddresses a.site b.site
calls_addresses c r a b h = record {
  upstreams = step_upstreams c r a.site b.site h.step;
  peers = calls.step_peers c r a.site b.site h.step;
}

module _ (m : FleetModel) where
  becomes_addresses : {A : Type 0} (e : Event A) (r : Result OutcomeData SiteFault) (a b : Replica)
      → Becomes m e r a b → SameAddresses a.site b.site
  becomes_addresses (Datagram site now from word bytes) r a b h =
      calls_addresses (datagram now from bytes word) r a b h
  becomes_addresses (Tick site now) r a b h = calls_addresses (tick now) r a b h
  becomes_addresses (Frame site now bytes) r a b h = calls_addresses (frame now bytes) r a b h
  becomes_addresses (Learn site now bytes) r a b h = calls_addresses (learn now bytes) r a b h
  becomes_addresses (Flush site now name) r a b h = calls_addresses (flush now name) r a b h
  becomes_addresses (Deliver site now number) r a b h =
      subst (SameAddresses a.site)
      (sym (ap (λ (c : Replica). c.site) h.delivered ∙ calls.with_delivery_site r m.sweeps number
      h.read)) (calls_addresses (frame now h.octets) r a h.read h.calls)
  becomes_addresses (Sweep site) (Ok o) a b h =
      same_addresses a.site b.site (ap (λ (c : Replica). c.site) h.1)
  becomes_addresses (Sweep site) (Err (OutOfMemory count)) a b h =
      same_addresses a.site b.site (ap (λ (c : Replica). c.site) h.1)
  becomes_addresses (Merge into from) (Ok o) a b (inl h) =
      same_addresses a.site b.site (ap (λ (c : Replica). c.site) h.1.1)
  becomes_addresses (Merge into from) (Ok o) a b (inr h) = record {
    upstreams = ap (λ (s : SiteModel). s.upstreams) h.1.0.merges.3;
    peers = ap (λ (s : SiteModel). s.peers) h.1.0.merges.3;
  }
  becomes_addresses (Merge into from) (Err (OutOfMemory count)) a b h = record {
    upstreams = ap (λ (s : SiteModel). s.upstreams) h.1.merges.2.1;
    peers = ap (λ (s : SiteModel). s.peers) h.1.merges.2.1;
  }
  becomes_addresses (Restart site) (Ok o) a b h = record {
    upstreams = ap (λ (c : Replica). c.site.upstreams) h.1;
    peers = ap (λ (c : Replica). c.site.peers) h.1;
  }
  becomes_addresses (Restart site) (Err (OutOfMemory count)) a b h = absurd h

-- the addresses of this configuration
pub record IsOf (c : ConfigData) (s : SiteModel) : Type 0 where
  pub upstreams : s.upstreams ≡ c.upstreams
  pub peers : s.peers ≡ c.peers

of_same : (c : ConfigData) (s n : SiteModel) → IsOf c s → SameAddresses s n → IsOf c n
of_same c s n h k = record {
  upstreams = k.upstreams ∙ h.upstreams;
  peers = k.peers ∙ h.peers;
}

module _ (configs : List ConfigData) where
  -- each site has the addresses of its configuration
  abbrev pub AreOf : FleetModel → Type 0
  AreOf m = (i : ℕ) (a : Replica) → At m.sites i a
      → (c : ConfigData) × At configs i c × IsOf c a.site

  pub set_of : {A : Type 0} (m : FleetModel) (e : Event A) (r : Result OutcomeData SiteFault)
      (a b : Replica) → At m.sites (site_of e) a → Becomes m e r a b → AreOf m → (i : ℕ)
      (d : Replica) → At (slice_set m.sites (site_of e) b) i d
      → (c : ConfigData) × At configs i c × IsOf c d.site
  set_of m e r a b at h k i d t = elim (at_set m.sites (site_of e) i b d t) [
    | inl q ↦
        let z = k (site_of e) a at in (
          z.0,
          subst (λ j. At configs j z.0) (sym q.0) z.1,
          subst (λ (x : Replica). IsOf z.0 x.site) (sym q.1)
              (of_same z.0 a.site b.site z.2 (becomes_addresses m e r a b h)),
        )
    | inr q ↦ k i d q.1
  ]

  pub step_of : {A : Type 0} (m : FleetModel) (e : Event A) (r : Result (Stepped A) (WorldFault A))
      (n : FleetModel) → Step m e r n → AreOf m → AreOf n
  step_of m e r n (is_done s h told) k =
      subst AreOf (sym h.next) (set_of m e (Ok h.outcome) h.old h.new h.there h.becomes k)
  step_of m e r n (is_missing f missing told same) k = subst AreOf (sym same) k
  step_of m e r n (is_stopped count h told) k =
      subst AreOf (sym h.next)
      (set_of m e (Err (OutOfMemory count)) h.old h.new h.there h.becomes k)
  step_of m e r n (loses_frames s h told) k =
      subst AreOf (sym h.next) (set_of m e (Ok h.outcome) h.old h.new h.there h.becomes k)

  pub run_of : {A : Type 0} (m : FleetModel) (es : List (Event A)) (rs : Results A) (n : FleetModel)
      → Run m es rs n → AreOf m → AreOf n
  run_of m [] [] n h k = subst AreOf (sym h) k
  run_of m (e ∷ es) (r ∷ rs) n h k = run_of h.0 es rs n h.2 (step_of m e r h.0 h.1 k)
  run_of m [] (r ∷ rs) n h k = absurd h
  run_of m (e ∷ es) [] n h k = absurd h

  pub opening_of : AreOf (opening configs)
  opening_of i a h = let z = at_mapped opening_replica configs i a h in (
    z.0,
    z.1,
    subst (λ (x : Replica). IsOf z.0 x.site) z.2 (record { upstreams = refl; peers = refl }),
  )

  pub ran_of : (A : Type 0) (n : FleetModel) → RunsTo A (opening configs) n → AreOf n
  ran_of A n l = run_of (opening configs) l.events l.results n l.run opening_of
