-- Who was reached has heard of all that the one which reached it had heard of.
-- Serves the laws `agreement`, `deliveries`, `fresh`, `reaching`, `servers`, `telling`,
-- `withdrawn`.
use Rattle.std.proofs.Common.{◌≡◌, ◌≢◌, ℕ, zero, suc, ◌+◌, ◌<◌, ◌≤◌, max, Bool, true, false, cond, ◌⊎◌, inl, inr, List, [], ◌∷◌, length, slice_set, nat_eq, refl, sym, ap, subst, ◌∙◌, arith, length-append, Option, Some, None, Result, Ok, Err}
use Rattle.std.proofs.lemmas.Bool.{and_from, or_left, or_right}
use Rattle.std.proofs.lemmas.Bool.Decides.{nat_tests}
use Rattle.std.proofs.lemmas.Option.{slice_get_within}
use Rattle.fleet_name.specs.Places.{At, Has}
use Rattle.fleet_name.proofs.Lemmas.{has_left, has_right, has_either, at_same, at_set}
use Rattle.fleet_observe.specs.Observation.{ObservationData}
use Rattle.fleet_site.specs.OutcomeData.{OutcomeData}
use Rattle.fleet_site.specs.ConfigData.{ConfigData}
use Rattle.fleet_site.specs.declared.outcome.Refusal.{Refusal}
use Rattle.fleet_site.specs.declared.outcome.SiteFault.{SiteFault}
use Rattle.fleet_site.specs.declared.outcome.SiteFault.TheVariants.{OutOfMemory}
use Rattle.fleet_world.specs.FleetModel.{Replica, SentSweep, FleetModel, opening, contains, contains_all, with_sweep, with_whole_sweeps, with_delivery, numbers_from}
use Rattle.fleet_world.specs.Becomes.{BringsIn, with_delivery_unless, with_delivery_by, Delivers, MergesAll, Becomes}
use Rattle.fleet_world.specs.Event.{site_of}
use Rattle.fleet_world.specs.Step.{sweeps_of, Step, is_done, is_missing, is_stopped, loses_frames}
use Rattle.fleet_world.specs.Run.{Results, Run}
use Rattle.fleet_world.specs.Reaching.{RunsTo, Restarts, HasReached, itself, stays, by_sweep, by_merge}
use Rattle.fleet_world.specs.Agreement.{HearsAll, ReachedHear, ReachedReach, RoundsReach}
use Rattle.fleet_world.specs.declared.event.Event.{Event}
use Rattle.fleet_world.specs.declared.event.Event.TheVariants.{Datagram, Tick, Sweep, Frame, Deliver, Learn, Flush, Merge, Restart}
use Rattle.fleet_world.specs.declared.stepped.Stepped.{Stepped}
use Rattle.fleet_world.specs.declared.fault.WorldFault.{WorldFault}
use Rattle.fleet_world.proofs.Packs.{OneList}
use Rattle.fleet_world.proofs.Kept.{ModelOk, step_ok, opening_ok}

-- a number that is a member is contained
contains_from : (xs : List ℕ) (n : ℕ) → Has xs n → contains xs n ≡ true
contains_from [] n h = absurd h
contains_from (x ∷ xs) n (inl e) =
    or_left (nat_eq n x) (contains xs n) (grind (arith, nat_tests, e))
contains_from (x ∷ xs) n (inr h) = or_right (nat_eq n x) (contains xs n) (contains_from xs n h)

pub contains_all_from : (ns among : List ℕ) → ((n : ℕ) → Has ns n → Has among n)
    → contains_all ns among ≡ true
contains_all_from [] among h = refl
contains_all_from (x ∷ ns) among h =
    and_from (contains among x) (contains_all ns among) (contains_from among x (h x (inl refl)))
    (contains_all_from ns among (λ n m. h n (inr m)))

hears_itself : (a : Replica) → HearsAll a a
hears_itself a = record { heard = λ o m. m; horizon = omega arith }

hears_chain : (a b c : Replica) → HearsAll a b → HearsAll b c → HearsAll a c
hears_chain a b c x y = record {
  heard = λ o m. y.heard o (x.heard o m);
  horizon = let p : a.horizon ≤ b.horizon = x.horizon in
      let q : b.horizon ≤ c.horizon = y.horizon in omega arith;
}

-- all that the sender of a sweep had heard of a site has heard of, and its horizon is no earlier
pub record HearsSweep (w : SentSweep) (a : Replica) : Type 0 where
  pub heard : (o : ObservationData) → Has w.heard o → Has a.heard o
  pub horizon : w.horizon ≤ a.horizon

sweep_chain : (w : SentSweep) (a b : Replica) → HearsSweep w a → HearsAll a b → HearsSweep w b
sweep_chain w a b x y = record {
  heard = λ o m. y.heard o (x.heard o m);
  horizon = let p : w.horizon ≤ a.horizon = x.horizon in
      let q : a.horizon ≤ b.horizon = y.horizon in omega arith;
}

-- all numbers of a sweep were delivered to a site
abbrev pub IsWhole : SentSweep → Replica → Type 0
IsWhole w a = (n : ℕ) → Has w.numbers n → Has a.delivered n

-- what crediting sweeps leaves and brings
pub record Credits (ws : List SentSweep) (a b : Replica) : Type 0 where
  hears : HearsAll a b
  delivered : b.delivered ≡ a.delivered
  credited : (w : SentSweep) → Has ws w → IsWhole w a → HearsSweep w b

with_sweep_hears : (w : SentSweep) (a : Replica) → HearsAll a (with_sweep w a)
with_sweep_hears w a = record {
  heard = λ o m. has_right w.heard a.heard o m;
  horizon = omega arith;
}

with_sweep_credits : (w : SentSweep) (a : Replica) → HearsSweep w (with_sweep w a)
with_sweep_credits w a = record {
  heard = λ o m. has_left w.heard a.heard o m;
  horizon = omega arith;
}

credits : (ws : List SentSweep) (a : Replica) → Credits ws a (with_whole_sweeps ws a)
credits [] a = record {
  hears = hears_itself a;
  delivered = refl;
  credited = λ w h. absurd h;
}
credits (v ∷ ws) a = go (credits ws) (contains_all v.numbers a.delivered) refl
  where
    never : IsWhole v a → contains_all v.numbers a.delivered ≡ false → ⊥
    never k e = let t = contains_all_from v.numbers a.delivered k in cc

    go : ((c : Replica) → Credits ws c (with_whole_sweeps ws c))
        → (b : Bool) → contains_all v.numbers a.delivered ≡ b
        → Credits (v ∷ ws) a (with_whole_sweeps ws (cond b (with_sweep v a) a))
    go f true e = let r = f (with_sweep v a) in record {
      hears = hears_chain a (with_sweep v a) (with_whole_sweeps ws (with_sweep v a))
          (with_sweep_hears v a) r.hears;
      delivered = r.delivered;
      credited = λ w h k. elim h [
        | inl same ↦ subst (λ x. HearsSweep x (with_whole_sweeps ws (with_sweep v a))) same
            (sweep_chain v (with_sweep v a) (with_whole_sweeps ws (with_sweep v a))
            (with_sweep_credits v a) r.hears)
        | inr m ↦ r.credited w m k
      ];
    }
    go f false e = let r = f a in record {
      hears = r.hears;
      delivered = r.delivered;
      credited = λ w h k. elim h [
        | inl same ↦ absurd (never (subst (λ x. IsWhole x a) (sym same) k) e)
        | inr m ↦ r.credited w m k
      ];
    }

-- what an event that is no restart leaves of what its site had heard of. Of each sweep that is whole
-- then all had been delivered before, or its sender counts as heard.
record Keeps (m : FleetModel) (a b : Replica) : Type 0 where
  hears : HearsAll a b
  whole : (w : SentSweep) → Has m.sweeps w → IsWhole w b → IsWhole w a ⊎ HearsSweep w b

module _ (m : FleetModel) where
  same_keeps : (a b : Replica) → b ≡ a → Keeps m a b
  same_keeps a b e = record {
    hears = subst (HearsAll a) (sym e) (hears_itself a);
    whole = λ w p k. inl (subst (IsWhole w) e k);
  }

  joins_hears : (a b : Replica) → BringsIn a b → HearsAll a b
  joins_hears a b j = record {
    heard = λ o p. subst (λ xs. Has xs o) (sym j.heard) (has_right j.brought a.heard o p);
    horizon = let e : b.horizon ≡ max a.horizon b.site.floor = j.horizon in omega arith;
  }

  joins_keeps : (a b : Replica) → BringsIn a b → Keeps m a b
  joins_keeps a b j = record {
    hears = joins_hears a b j;
    whole = λ w p k. inl (λ n q. subst (λ ns. Has ns n) j.delivered (k n q));
  }

  delivers_keeps : (now number : ℕ) (r : Result OutcomeData SiteFault) (a b : Replica)
      → Delivers m now number r a b → Keeps m a b
  delivers_keeps now number r a b d = subst (Keeps m a) (sym d.delivered) (go r)
    where
      done : Keeps m a (with_delivery m.sweeps number d.read)
      done = let c : Replica = record d.read { delivered = number ∷ d.read.delivered } in
          let n : Replica = with_delivery m.sweeps number d.read in
          let k = credits m.sweeps c in
          let j = joins_hears a d.read d.calls.joins in
          record {
            hears = record {
              heard = λ o p. k.hears.heard o (j.heard o p);
              horizon = let x : c.horizon ≤ n.horizon = k.hears.horizon in
                  let y : a.horizon ≤ d.read.horizon = j.horizon in omega arith;
            };
            whole = λ w p q. inr
                (k.credited w p (λ i h. subst (λ ns. Has ns i) k.delivered (q i h)));
          }

      unless : (refused : Option Refusal)
          → Keeps m a (with_delivery_unless refused m.sweeps number d.read)
      unless None = done
      unless (Some f) = joins_keeps a d.read d.calls.joins

      go : (r : Result OutcomeData SiteFault)
          → Keeps m a (with_delivery_by r m.sweeps number d.read)
      go (Ok o) = unless o.refused
      go (Err f) = joins_keeps a d.read d.calls.joins

  merges_keeps : (from count : ℕ) (a b : Replica) → MergesAll m from count a b → Keeps m a b
  merges_keeps from count a b k = record {
    hears = record {
      heard = λ o p. subst (λ xs. Has xs o) (sym k.heard) (has_right k.other.heard a.heard o p);
      horizon = let e : b.horizon ≡ max a.horizon k.other.horizon = k.horizon in omega arith;
    };
    whole = λ w p h. inl (λ n q. subst (λ ns. Has ns n) k.delivered (h n q));
  }

  -- an event leaves what its site had heard of, or begins the site again
  becomes_either : {A : Type 0} (e : Event A) (r : Result OutcomeData SiteFault) (a b : Replica)
      → Becomes m e r a b → Keeps m a b ⊎ ((b.delivered ≡ []) × Restarts e (site_of e))
  becomes_either (Datagram site now from word bytes) r a b h = inl (joins_keeps a b h.joins)
  becomes_either (Tick site now) r a b h = inl (joins_keeps a b h.joins)
  becomes_either (Frame site now bytes) r a b h = inl (joins_keeps a b h.joins)
  becomes_either (Learn site now bytes) r a b h = inl (joins_keeps a b h.joins)
  becomes_either (Flush site now name) r a b h = inl (joins_keeps a b h.joins)
  becomes_either (Deliver site now number) r a b h = inl (delivers_keeps now number r a b h)
  becomes_either (Sweep site) (Ok o) a b h = inl (same_keeps a b h.1)
  becomes_either (Sweep site) (Err (OutOfMemory count)) a b h = inl (same_keeps a b h.1)
  becomes_either (Merge into from) (Ok o) a b (inl h) = inl (same_keeps a b h.1.1)
  becomes_either (Merge into from) (Ok o) a b (inr h) = inl (merges_keeps from o.taken a b h.1.0)
  becomes_either (Merge into from) (Err (OutOfMemory count)) a b h =
      inl (joins_keeps a b h.1.joins)
  becomes_either (Restart site) (Ok o) a b h =
      inr (ap (λ (c : Replica). c.delivered) h.1, refl)
  becomes_either (Restart site) (Err (OutOfMemory count)) a b h = absurd h

-- the sweep that an event adds
pub record NewSweep (m : FleetModel) (count : ℕ) (a b : Replica) (w : SentSweep) : Type 0 where
  pub same : b ≡ a
  pub first : Has w.numbers (length m.frames)
  pub below : (n : ℕ) → Has w.numbers n → n < length m.frames + count
  pub heard : w.heard ≡ a.heard

-- the numbers from n on are below the last one
numbers_below : (n count k : ℕ) → Has (numbers_from n count) k → k < n + count
numbers_below n zero k h = absurd h
numbers_below n (suc count) k (inl e) = omega arith
numbers_below n (suc count) k (inr h) =
    let l : k < suc n + count = numbers_below (suc n) count k h in omega arith

pub new_sweep : {A : Type 0} (m : FleetModel) (e : Event A) (o : OutcomeData) (a b : Replica)
    → Becomes m e (Ok o) a b → (w : SentSweep)
    → Has (sweeps_of e (length m.frames) o.frames a) w → NewSweep m (length o.frames) a b w
new_sweep {A} m (Sweep site) o a b h w q = go o.frames q
  where
    go : (fs : List (List ℕ)) → Has (sweeps_of {A = A} (Sweep site) (length m.frames) fs a) w
        → NewSweep m (length fs) a b w
    go [] q = absurd q
    go (f ∷ fs) (inl e) = record {
      same = h.1;
      first = subst (λ (x : SentSweep). Has x.numbers (length m.frames)) e (inl refl);
      below = λ n k. numbers_below (length m.frames) (length (f ∷ fs)) n
          (subst (λ (x : SentSweep). Has x.numbers n) (sym e) k);
      heard = ap (λ (x : SentSweep). x.heard) (sym e);
    }
    go (f ∷ fs) (inr q) = absurd q
new_sweep m (Datagram site now from word bytes) o a b h w q = absurd q
new_sweep m (Tick site now) o a b h w q = absurd q
new_sweep m (Frame site now bytes) o a b h w q = absurd q
new_sweep m (Learn site now bytes) o a b h w q = absurd q
new_sweep m (Flush site now name) o a b h w q = absurd q
new_sweep m (Deliver site now number) o a b h w q = absurd q
new_sweep m (Merge into from) o a b h w q = absurd q
new_sweep m (Restart site) o a b h w q = absurd q

-- What is kept true along a run: each sweep has a frame, and a site to which all of its frames were
-- delivered has heard of all that its sender had heard of.
pub record HopsOk (m : FleetModel) : Type 0 where
  pub some : (w : SentSweep) → Has m.sweeps w → (n : ℕ) × Has w.numbers n
  pub within : (w : SentSweep) → Has m.sweeps w → (n : ℕ) → Has w.numbers n → n < length m.frames
  pub heard : (i : ℕ) (a : Replica) (w : SentSweep) → At m.sites i a → Has m.sweeps w
      → IsWhole w a → HearsSweep w a

becomes_hears : {A : Type 0} (m : FleetModel) (e : Event A) (r : Result OutcomeData SiteFault)
    (i : ℕ) (a b : Replica) → Becomes m e r a b → HopsOk m → At m.sites i a
    → (w : SentSweep) → Has m.sweeps w → IsWhole w b → HearsSweep w b
becomes_hears m e r i a b h ok at w p k = elim (becomes_either m e r a b h) [
  | inl keeps ↦ elim (keeps.whole w p k) [
    | inl before ↦ sweep_chain w a b (ok.heard i a w at p before) keeps.hears
    | inr now ↦ now
  ]
  | inr again ↦
      let n = ok.some w p in
      absurd (subst (λ ns. Has ns n.0) again.0 (k n.0 n.1))
]

-- numbers that were delivered are those of kept frames
kept : (m : FleetModel) → ModelOk m → (i : ℕ) (a : Replica) → At m.sites i a → (n : ℕ)
    → Has a.delivered n → n < length m.frames
kept m ok i a at n d = let r = (ok.sites i a at).held n d in slice_get_within m.frames n r.0 r.1

-- one site becomes another, and nothing is swept
sites_hops : {A : Type 0} (m : FleetModel) (e : Event A) (r : Result OutcomeData SiteFault)
    (a b : Replica) → At m.sites (site_of e) a → Becomes m e r a b → HopsOk m
    → HopsOk (record m { sites = slice_set m.sites (site_of e) b })
sites_hops m e r a b at h ok = record { some = ok.some; within = ok.within; heard = heard }
  where
    heard : (i : ℕ) (c : Replica) (w : SentSweep) → At (slice_set m.sites (site_of e) b) i c
        → Has m.sweeps w → IsWhole w c → HearsSweep w c
    heard i c w t p k = elim (at_set m.sites (site_of e) i b c t) [
      | inl q ↦ subst (HearsSweep w) (sym q.1)
          (becomes_hears m e r (site_of e) a b h ok at w p (subst (IsWhole w) q.1 k))
      | inr q ↦ ok.heard i c w q.1 p k
    ]

step_hops : {A : Type 0} (m : FleetModel) (e : Event A) (r : Result (Stepped A) (WorldFault A))
    (n : FleetModel) → Step m e r n → ModelOk m → HopsOk m → HopsOk n
step_hops m e r n (is_done s h told) model ok = subst HopsOk (sym h.next) (record {
  some = λ w p. elim (has_either added m.sweeps w p) [
    | inl q ↦ (length m.frames, (fresh w q).first)
    | inr q ↦ ok.some w q
  ];
  within = λ w p i k.
      let l = length-append m.frames h.outcome.frames in
      elim (has_either added m.sweeps w p) [
        | inl q ↦ let b = (fresh w q).below i k in omega (arith, l)
        | inr q ↦ let b = ok.within w q i k in omega (arith, l)
      ];
  heard = λ i c w t p k. elim (has_either added m.sweeps w p) [
    | inl q ↦ absurd (none i c w t q k)
    | inr q ↦ (sites_hops m e (Ok h.outcome) h.old h.new h.there h.becomes ok).heard i c w t q k
  ];
})
  where
    added : List SentSweep
    added = sweeps_of e (length m.frames) h.outcome.frames h.old

    fresh : (w : SentSweep) → Has (sweeps_of e (length m.frames) h.outcome.frames h.old) w
        → NewSweep m (length h.outcome.frames) h.old h.new w
    fresh w q = new_sweep m e h.outcome h.old h.new h.becomes w q

    none : (i : ℕ) (c : Replica) (w : SentSweep) → At (slice_set m.sites (site_of e) h.new) i c
        → Has (sweeps_of e (length m.frames) h.outcome.frames h.old) w → IsWhole w c → ⊥
    none i c w t q k =
        let f = fresh w q in
        let d : Has c.delivered (length m.frames) = k (length m.frames) f.first in
        elim (at_set m.sites (site_of e) i h.new c t) [
          | inl p ↦
              let l = kept m model (site_of e) h.old h.there (length m.frames)
              (subst (λ (x : Replica). Has x.delivered (length m.frames)) (p.1 ∙ f.same) d) in
              omega arith
          | inr p ↦ let l = kept m model i c p.1 (length m.frames) d in omega arith
        ]
step_hops m e r n (is_missing f missing told same) model ok = subst HopsOk (sym same) ok
step_hops m e r n (is_stopped count h told) model ok = subst HopsOk (sym h.next)
    (sites_hops m e (Err (OutOfMemory count)) h.old h.new h.there h.becomes ok)
step_hops m e r n (loses_frames s h told) model ok = subst HopsOk (sym h.next)
    (sites_hops m e (Ok h.outcome) h.old h.new h.there h.becomes ok)

opening_hops : (configs : List ConfigData) → HopsOk (opening configs)
opening_hops configs = record {
  some = λ w p. absurd p;
  within = λ w p n k. absurd p;
  heard = λ i a w t p k. absurd p;
}

-- a site that an event doesn't begin again has heard of all that it had heard of before
sites_back : {A : Type 0} (m : FleetModel) (e : Event A) (r : Result OutcomeData SiteFault)
    (a b : Replica) → At m.sites (site_of e) a → Becomes m e r a b → (j : ℕ) (c : Replica)
    → At (slice_set m.sites (site_of e) b) j c → ¬ Restarts e j
    → (d : Replica) × At m.sites j d × HearsAll d c
sites_back m e r a b at h j c t k = elim (at_set m.sites (site_of e) j b c t) [
  | inl q ↦ elim (becomes_either m e r a b h) [
    | inl keeps ↦ (
      a,
      subst (λ i. At m.sites i a) (sym q.0) at,
      subst (HearsAll a) (sym q.1) keeps.hears,
    )
    | inr again ↦ absurd (k (subst (Restarts e) (sym q.0) again.1))
  ]
  | inr q ↦ (c, q.1, hears_itself c)
]

step_back : {A : Type 0} (m : FleetModel) (e : Event A) (r : Result (Stepped A) (WorldFault A))
    (n : FleetModel) → Step m e r n → (j : ℕ) (c : Replica) → At n.sites j c → ¬ Restarts e j
    → (d : Replica) × At m.sites j d × HearsAll d c
step_back m e r n (is_done s h told) j c t k =
    sites_back m e (Ok h.outcome) h.old h.new h.there h.becomes j c
    (subst (λ (x : FleetModel). At x.sites j c) h.next t) k
step_back m e r n (is_missing f missing told same) j c t k =
    (c, subst (λ (x : FleetModel). At x.sites j c) same t, hears_itself c)
step_back m e r n (is_stopped count h told) j c t k =
    sites_back m e (Err (OutOfMemory count)) h.old h.new h.there h.becomes j c
    (subst (λ (x : FleetModel). At x.sites j c) h.next t) k
step_back m e r n (loses_frames s h told) j c t k =
    sites_back m e (Ok h.outcome) h.old h.new h.there h.becomes j c
    (subst (λ (x : FleetModel). At x.sites j c) h.next t) k

-- sweeps stay
step_sweeps : {A : Type 0} (m : FleetModel) (e : Event A) (r : Result (Stepped A) (WorldFault A))
    (n : FleetModel) → Step m e r n → (w : SentSweep) → Has m.sweeps w → Has n.sweeps w
step_sweeps m e r n (is_done s h told) w p =
    subst (λ (x : FleetModel). Has x.sweeps w) (sym h.next)
    (has_right (sweeps_of e (length m.frames) h.outcome.frames h.old) m.sweeps w p)
step_sweeps m e r n (is_missing f missing told same) w p =
    subst (λ (x : FleetModel). Has x.sweeps w) (sym same) p
step_sweeps m e r n (is_stopped count h told) w p =
    subst (λ (x : FleetModel). Has x.sweeps w) (sym h.next) p
step_sweeps m e r n (loses_frames s h told) w p =
    subst (λ (x : FleetModel). Has x.sweeps w) (sym h.next) p

run_sweeps : {A : Type 0} (m : FleetModel) (es : List (Event A)) (rs : Results A) (n : FleetModel)
    → Run m es rs n → (w : SentSweep) → Has m.sweeps w → Has n.sweeps w
run_sweeps m [] [] n h w p = subst (λ (x : FleetModel). Has x.sweeps w) (sym h) p
run_sweeps m (e ∷ es) (r ∷ rs) n h w p =
    run_sweeps h.0 es rs n h.2 w (step_sweeps m e r h.0 h.1 w p)
run_sweeps m [] (r ∷ rs) n h w p = absurd h
run_sweeps m (e ∷ es) [] n h w p = absurd h

-- a sweep that was added with these numbers
record Swept (m n : FleetModel) (site : ℕ) (ns : List ℕ) : Type 0 where
  sender : Replica
  there : At m.sites site sender
  sweep : SentSweep
  added : Has n.sweeps sweep
  numbers : sweep.numbers ≡ ns
  heard : sweep.heard ≡ sender.heard
  horizon : sweep.horizon ≡ sender.horizon

sweep_added : (A : Type 0) (site n : ℕ) (fs : List (List ℕ)) (a : Replica)
    → numbers_from n (length fs) ≢ [] → Has (sweeps_of {A = A} (Sweep site) n fs a) (record {
      numbers = numbers_from n (length fs);
      heard = a.heard;
      horizon = a.horizon;
    })
sweep_added A site n [] a k = absurd (k refl)
sweep_added A site n (f ∷ fs) a k = inl refl

swept : {A : Type 0} (m n : FleetModel) (site : ℕ) (s : Stepped A)
    → Step m (Sweep site) (Ok s) n → s.frames ≢ [] → Swept m n site s.frames
swept {A} m n site s (is_done d h told) k =
    let e : s ≡ d = cc in
    let numbers : List ℕ = numbers_from (length m.frames) (length h.outcome.frames) in
    let q : s.frames ≡ numbers = ap (λ (x : Stepped A). x.frames) (e ∙ h.says) in
    record {
      sender = h.old;
      there = h.there;
      sweep = record { numbers = numbers; heard = h.old.heard; horizon = h.old.horizon };
      added = subst (λ (x : FleetModel). Has x.sweeps (record {
        numbers = numbers;
        heard = h.old.heard;
        horizon = h.old.horizon;
      })) (sym h.next) (has_left (sweeps_of {A = A} (Sweep site) (length m.frames) h.outcome.frames h.old) m.sweeps _
          (sweep_added A site (length m.frames) h.outcome.frames h.old (λ z. k (q ∙ z))));
      numbers = sym q;
      heard = refl;
      horizon = refl;
    }
swept m n site s (is_missing f missing told same) k = cc
swept m n site s (is_stopped count h told) k = cc
swept m n site s (loses_frames d h told) k = cc

-- what a merge that was done whole brings
merged : {A : Type 0} (m n : FleetModel) (into from : ℕ) (s : Stepped A)
    → Step m (Merge into from) (Ok s) n → (b : Replica) → At n.sites into b
    → (c : Replica) × At m.sites from c × HearsAll c b
merged {A} m n into from s (is_done d h told) b t =
    go (at_set m.sites into into h.new b (subst (λ (x : FleetModel). At x.sites into b) h.next t))
    h.becomes
  where
    go : ((into ≡ into) × (b ≡ h.new)) ⊎ ((into ≢ into) × At m.sites into b)
        → Becomes {A = A} m (Merge into from) (Ok h.outcome) h.old h.new
        → (c : Replica) × At m.sites from c × HearsAll c b
    go (inr q) k = absurd (q.0 refl)
    go (inl q) (inl k) = (
      h.old,
      subst (λ i. At m.sites i h.old) k.0 h.there,
      subst (HearsAll h.old) (sym (q.1 ∙ k.1.1)) (hears_itself h.old),
    )
    go (inl q) (inr k) = let j = k.1.0 in (
      j.other,
      j.there,
      subst (HearsAll j.other) (sym q.1) (record {
        heard = λ o p. subst (λ xs. Has xs o) (sym j.heard) (has_left j.other.heard h.old.heard o p);
        horizon = let e : h.new.horizon ≡ max h.old.horizon j.other.horizon = j.horizon in
            omega arith;
      }),
    )
merged m n into from s (is_missing f missing told same) b t = cc
merged m n into from s (is_stopped count h told) b t = cc
merged m n into from s (loses_frames d h told) b t = cc

-- what is kept true along any run
pub record RunOk (m : FleetModel) : Type 0 where
  pub model : ModelOk m
  pub hops : HopsOk m

module _ (one : OneList) where
  pub step_all : {A : Type 0} (m : FleetModel) (e : Event A) (r : Result (Stepped A) (WorldFault A))
      (n : FleetModel) → Step m e r n → RunOk m → RunOk n
  step_all m e r n h ok = record {
    model = step_ok one m e r n h ok.model;
    hops = step_hops m e r n h ok.model ok.hops;
  }

  pub run_all : {A : Type 0} (m : FleetModel) (es : List (Event A)) (rs : Results A) (n : FleetModel)
      → Run m es rs n → RunOk m → RunOk n
  run_all m [] [] n h ok = subst RunOk (sym h) ok
  run_all m (e ∷ es) (r ∷ rs) n h ok = run_all h.0 es rs n h.2 (step_all m e r h.0 h.1 ok)
  run_all m [] (r ∷ rs) n h ok = absurd h
  run_all m (e ∷ es) [] n h ok = absurd h

  pub ran_ok : (A : Type 0) (configs : List ConfigData) (n : FleetModel)
      → RunsTo A (opening configs) n → RunOk n
  ran_ok A configs n l =
      run_all (opening configs) l.events l.results n l.run
      (record { model = opening_ok one configs; hops = opening_hops configs })

  reached_ok : (A : Type 0) (m : FleetModel) (i : ℕ) (n : FleetModel) (j : ℕ)
      → HasReached A m i n j → RunOk m → RunOk n
  reached_ok A m i n j (itself e f) ok = subst RunOk (sym e) ok
  reached_ok A m i n j (stays before e r h step k) ok =
      step_all before e r n step (reached_ok A m i before j h ok)
  reached_ok A m i n j (by_sweep before after sender s h step l w) ok =
      run_all after l.events l.results n l.run
      (step_all before (Sweep sender) (Ok s) after step (reached_ok A m i before sender h ok))
  reached_ok A m i n j (by_merge before from s h step) ok =
      step_all before (Merge j from) (Ok s) n step (reached_ok A m i before from h ok)

  reached_hears : (A : Type 0) (m : FleetModel) (i : ℕ) (a : Replica) (n : FleetModel) (j : ℕ)
      → HasReached A m i n j → RunOk m → At m.sites i a → (b : Replica) → At n.sites j b
      → HearsAll a b
  reached_hears A m i a n j (itself e f) ok at b t =
      let q : At m.sites i b = subst (λ k. At m.sites k b) f
      (subst (λ (x : FleetModel). At x.sites j b) e t) in
      subst (HearsAll a) (at_same m.sites i a b at q) (hears_itself a)
  reached_hears A m i a n j (stays before e r h step k) ok at b t =
      let d = step_back before e r n step j b t k in
      hears_chain a d.0 b (reached_hears A m i a before j h ok at d.0 d.1) d.2
  reached_hears A m i a n j (by_sweep before after sender s h step l w) ok at b t =
      let z = swept before after sender s step w.some in
      let x = reached_hears A m i a before sender h ok at z.sender z.there in
      let c = run_all after l.events l.results n l.run
      (step_all before (Sweep sender) (Ok s) after step (reached_ok A m i before sender h ok)) in
      let same : w.replica ≡ b = at_same n.sites j w.replica b w.there t in
      let y = c.hops.heard j b z.sweep t
      (run_sweeps after l.events l.results n l.run z.sweep z.added)
      (λ k p. subst (λ (u : Replica). Has u.delivered k) same
      (w.delivered k (subst (λ ns. Has ns k) z.numbers p))) in
      record {
        heard = λ o p. y.heard o (subst (λ os. Has os o) (sym z.heard) (x.heard o p));
        horizon = let p : a.horizon ≤ z.sender.horizon = x.horizon in
            let q : z.sweep.horizon ≤ b.horizon = y.horizon in
            let e : z.sweep.horizon ≡ z.sender.horizon = z.horizon in omega arith;
      }
  reached_hears A m i a n j (by_merge before from s h step) ok at b t =
      let d = merged before n j from s step b t in
      hears_chain a d.0 b (reached_hears A m i a before from h ok at d.0 d.1) d.2

  pub hears : (A : Type 0) → ReachedHear A
  hears A configs m n i j a b l h at t =
      reached_hears A m i a n j h (ran_ok A configs m l) at b t

-- who is reached by one that was reached is reached
module _ (A : Type 0) (m between : FleetModel) (i h : ℕ) (x : HasReached A m i between h) where
  more : (n : FleetModel) (j : ℕ) → HasReached A between h n j → HasReached A m i n j
  more n j (itself e f) =
      subst (λ y. HasReached A m i y j) (sym e) (subst (HasReached A m i between) (sym f) x)
  more n j (stays before e r y step k) = stays before e r (more before j y) step k
  more n j (by_sweep before after sender s y step l w) =
      by_sweep before after sender s (more before sender y) step l w
  more n j (by_merge before from s y step) = by_merge before from s (more before from y) step

pub onward : (A : Type 0) → ReachedReach A
onward A m between n i h j x y = more A m between i h x n j y

-- after as many rounds as links lead from one site to another, it has reached that one
pub rounds : (A : Type 0) → RoundsReach A
rounds A links zero m n i j e f = itself e f
rounds A links (suc count) m n i j r l =
    onward A m r.0 n i l.0 j (r.1 i l.0 l.1) (rounds A links count r.0 n l.0 j r.2 l.2)
