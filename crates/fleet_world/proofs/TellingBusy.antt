-- Of some observations none is new, whatever else comes in.
-- Serves law `telling`.
use Rattle.std.proofs.Common.{◌≡◌, ℕ, inl, inr, List, [], ◌∷◌, length, slice_set, zero, suc, refl, sym, subst, Some, None, Result, Ok, Err}
use Rattle.std.specs.List.{AllZip}
use Rattle.fleet_name.specs.Places.{At, Has}
use Rattle.fleet_name.proofs.Lemmas.{has_left, has_either, at_set}
use Rattle.fleet_observe.specs.Observation.{ObservationData}
use Rattle.fleet_site.specs.ConfigData.{ConfigData}
use Rattle.fleet_site.specs.OutcomeData.{OutcomeData}
use Rattle.fleet_site.specs.SiteModel.{SiteModel}
use Rattle.fleet_site.specs.declared.outcome.SiteFault.{SiteFault}
use Rattle.fleet_site.specs.declared.outcome.SiteFault.TheVariants.{OutOfMemory}
use Rattle.fleet_world.specs.FleetModel.{Replica, FleetModel}
use Rattle.fleet_world.specs.Becomes.{BringsIn, Becomes}
use Rattle.fleet_world.specs.Event.{site_of}
use Rattle.fleet_world.specs.Step.{sweeps_of, Step, is_done, is_missing, is_stopped, loses_frames}
use Rattle.fleet_world.specs.Run.{Results, Run}
use Rattle.fleet_world.specs.Deliveries.{CountAs, HeardMore, IsAlike}
use Rattle.fleet_world.specs.Telling.{IsNoDelivery, BringNoNewsOf}
use Rattle.fleet_world.specs.declared.event.Event.{Event}
use Rattle.fleet_world.specs.declared.event.Event.TheVariants.{Datagram, Tick, Sweep, Frame, Deliver, Learn, Flush, Merge, Restart}
use Rattle.fleet_world.specs.declared.stepped.Stepped.{Stepped}
use Rattle.fleet_world.specs.declared.fault.WorldFault.{WorldFault}
use Rattle.fleet_world.proofs.Addresses.{AreOf, step_of}
use Rattle.fleet_world.proofs.Arrived.{arrives_replays, step_more}
use Rattle.fleet_world.proofs.Calls as calls
use Rattle.fleet_world.proofs.Lists.{at_parts}
use Rattle.fleet_world.proofs.Packs.{OneList}
use Rattle.fleet_world.proofs.Reached.{RunOk, step_all, new_sweep}
use Rattle.fleet_world.proofs.Silent.{Within, becomes_within, step_within}
use Rattle.fleet_world.proofs.Told.{at_put_there}

module _ (one : OneList) (B : ObservationData → Type 0) (first : ℕ) (m : FleetModel) (ok : RunOk m)
    (k : Within B first m) where
  joins_elsewhere : (i : ℕ) (a b : Replica) → At m.sites i a → BringsIn a b
      → ((x : ObservationData) → Has b.site.taken x → B x)
      → (x : ObservationData) → Has b.heard x → B x
  joins_elsewhere i a b at j new x p =
      elim (has_either j.brought a.heard x (subst (λ xs. Has xs x) j.heard p)) [
        | inl q ↦
            new x (subst (λ xs. Has xs x) (sym j.taken) (has_left j.brought a.site.taken x q))
        | inr q ↦ k.heard i a at x q
      ]

  becomes_elsewhere : {A : Type 0} (e : Event A) (r : Result OutcomeData SiteFault) (a b : Replica)
      → At m.sites (site_of e) a → Becomes m e r a b → IsNoDelivery e
      → ((x : ObservationData) → Has b.site.taken x → B x)
      → (x : ObservationData) → Has b.heard x → B x
  becomes_elsewhere (Datagram site now from word bytes) r a b at h other new x p =
      joins_elsewhere site a b at h.joins new x p
  becomes_elsewhere (Tick site now) r a b at h other new x p =
      joins_elsewhere site a b at h.joins new x p
  becomes_elsewhere (Frame site now bytes) r a b at h other new x p =
      joins_elsewhere site a b at h.joins new x p
  becomes_elsewhere (Learn site now bytes) r a b at h other new x p =
      joins_elsewhere site a b at h.joins new x p
  becomes_elsewhere (Flush site now name) r a b at h other new x p =
      joins_elsewhere site a b at h.joins new x p
  becomes_elsewhere (Deliver site now number) r a b at h other new x p = absurd other
  becomes_elsewhere (Sweep site) (Ok o) a b at h other new x p =
      k.heard site a at x (subst (λ (c : Replica). Has c.heard x) h.1 p)
  becomes_elsewhere (Sweep site) (Err (OutOfMemory count)) a b at h other new x p =
      k.heard site a at x (subst (λ (c : Replica). Has c.heard x) h.1 p)
  becomes_elsewhere {A} (Merge into from) r a b at h other new x p =
      becomes_within one B first m ok k {A = A} (Merge into from) r a b at h tt x p
  becomes_elsewhere {A} (Restart site) (Ok o) a b at h other new x p =
      absurd (subst (λ (c : Replica). Has c.heard x) h.1 p)
  becomes_elsewhere (Restart site) (Err (OutOfMemory count)) a b at h other new x p = absurd h

  sites_elsewhere : {A : Type 0} (e : Event A) (r : Result OutcomeData SiteFault) (a b : Replica)
      → At m.sites (site_of e) a → Becomes m e r a b → IsNoDelivery e
      → ((x : ObservationData) → Has b.site.taken x → B x)
      → Within B first (record m { sites = slice_set m.sites (site_of e) b })
  sites_elsewhere e r a b at h other new = record {
    heard = λ i c t x p. elim (at_set m.sites (site_of e) i b c t) [
      | inl q ↦ becomes_elsewhere e r a b at h other new x
          (subst (λ (y : Replica). Has y.heard x) q.1 p)
      | inr q ↦ k.heard i c q.1 x p
    ];
    frames = k.frames;
    sweeps = k.sweeps;
  }

  step_elsewhere : {A : Type 0} (e : Event A) (r : Result (Stepped A) (WorldFault A))
      (n : FleetModel) → Step m e r n → IsNoDelivery e
      → ((a b : Replica) → At m.sites (site_of e) a → At n.sites (site_of e) b
      → (x : ObservationData) → Has b.site.taken x → B x)
      → Within B first n
  step_elsewhere e r n (is_done s h told) other new = subst (Within B first) (sym h.next) (record {
    heard = (sites_elsewhere e (Ok h.outcome) h.old h.new h.there h.becomes other news).heard;
    frames = λ i octets t le list spells x p. elim (at_parts m.frames h.outcome.frames i octets t) [
      | inl q ↦ k.frames i octets q le list spells x p
      | inr q ↦
          news x
          (calls.sent_taken one m e h.outcome h.old h.new h.becomes octets q list spells x p)
    ];
    sweeps = λ w p. elim
        (has_either (sweeps_of e (length m.frames) h.outcome.frames h.old) m.sweeps w p) [
          | inl q ↦
              let f = new_sweep m e h.outcome h.old h.new h.becomes w q in
              inl (λ x y. k.heard (site_of e) h.old h.there x (subst (λ xs. Has xs x) f.heard y))
          | inr q ↦ k.sweeps w q
        ];
  })
    where
      news : (x : ObservationData) → Has h.new.site.taken x → B x
      news = new h.old h.new h.there
          (subst (λ (y : FleetModel). At y.sites (site_of e) h.new) (sym h.next)
          (at_put_there m.sites (site_of e) h.old h.new h.there))
  step_elsewhere e r n (is_missing f missing told same) other new =
      subst (Within B first) (sym same) k
  step_elsewhere e r n (is_stopped count h told) other new = subst (Within B first) (sym h.next)
      (sites_elsewhere e (Err (OutOfMemory count)) h.old h.new h.there h.becomes other
      (new h.old h.new h.there
      (subst (λ (y : FleetModel). At y.sites (site_of e) h.new) (sym h.next)
      (at_put_there m.sites (site_of e) h.old h.new h.there))))
  step_elsewhere e r n (loses_frames s h told) other new = subst (Within B first) (sym h.next)
      (sites_elsewhere e (Ok h.outcome) h.old h.new h.there h.becomes other
      (new h.old h.new h.there
      (subst (λ (y : FleetModel). At y.sites (site_of e) h.new) (sym h.next)
      (at_put_there m.sites (site_of e) h.old h.new h.there))))

-- the site of one fleet, in the other
back_at : (m k : FleetModel) → IsAlike m k → (i : ℕ) (p : Replica) → At k.sites i p
    → (a : Replica) × At m.sites i a × (p.site ≡ a.site)
back_at m k alike i p at = zip_back m.sites k.sites i p alike.sites at
  where
    zip_back : (xs ys : List Replica) (i : ℕ) (p : Replica) → AllZip HeardMore xs ys → At ys i p
        → (a : Replica) × At xs i a × (p.site ≡ a.site)
    zip_back [] [] i p h e = absurd (let q : None ≡ Some p = e in cc)
    zip_back [] (y ∷ ys) i p h e = absurd h
    zip_back (x ∷ xs) [] i p h e = absurd h
    zip_back (x ∷ xs) (y ∷ ys) zero p h e =
        let q : y ≡ p = cc in (x, refl, subst (λ (z : Replica). z.site ≡ x.site) q h.0.site)
    zip_back (x ∷ xs) (y ∷ ys) (suc i) p h e = zip_back xs ys i p h.1 e

module _ (one : OneList) (configs : List ConfigData) (P K : ObservationData → Type 0)
    (first : ℕ) where
  -- such observations are in K
  abbrev pub Settled : ObservationData → Type 0
  Settled o = P o → K o

  -- a run as its events arrive, and all that is heard of in it
  pub runs_busy : {A : Type 0} (m k : FleetModel) → IsAlike m k → AreOf configs m → RunOk k
      → Within Settled first k → (es : List (Event A)) (rs : Results A) (n : FleetModel)
      (run : Run m es rs n) (fs : List (Event A)) → CountAs configs m es rs n run fs
      → BringNoNewsOf P first m es rs n run fs
      → (l : FleetModel) × Run k fs rs l × IsAlike n l × Within Settled first l
  runs_busy m k alike of ok w [] [] n run [] h q =
      (k, refl, subst (λ x. IsAlike x k) (sym run) alike, w)
  runs_busy m k alike of ok w (e ∷ es) (r ∷ rs) n run (f ∷ fs) h q =
      let y = arrives_replays configs m k alike of e f h.0 in
      let z = step_more m k alike e f r run.0 y run.1 in
      let v : Within Settled first z.0 = elim q.0 [
        | inl s ↦ step_within one Settled first k ok w f r z.0 z.1 s
        | inr s ↦ step_elsewhere one Settled first k ok w f r z.0 z.1 s.0
            (λ a b at bt x p such.
            let c = back_at m k alike (site_of f) a at in
            let d = back_at run.0 z.0 z.2 (site_of f) b bt in
            let g = s.1 c.0 d.0 (subst (λ i. At m.sites i c.0) y.site c.1)
            (subst (λ i. At run.0.sites i d.0) y.site d.1) x
            (subst (λ (s : SiteModel). Has s.taken x) d.2 p) such in
            w.heard (site_of f) a at x
            ((ok.model.sites (site_of f) a at).heard_of x
            (subst (λ (s : SiteModel). Has s.taken x) (sym c.2) g)) such)
      ] in
      let u = runs_busy run.0 z.0 z.2 (step_of configs m e r run.0 run.1 of)
      (step_all one k f r z.0 z.1 ok) v es rs n run.2 fs h.1 q.1 in
      (u.0, (z.0, z.1, u.1), u.2, u.3)
  runs_busy m k alike of ok w [] [] n run (f ∷ fs) h q = absurd h
  runs_busy m k alike of ok w (e ∷ es) (r ∷ rs) n run [] h q = absurd h
  runs_busy m k alike of ok w [] (r ∷ rs) n run fs h q = absurd run
  runs_busy m k alike of ok w (e ∷ es) [] n run fs h q = absurd run
