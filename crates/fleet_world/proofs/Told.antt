-- What events and their results say of who was reached.
-- Serves the laws `fresh`, `servers`, `telling`, `withdrawn`.
use Rattle.std.proofs.Common.{◌≡◌, ◌≢◌, ℕ, zero, suc, ◌⊎◌, inl, inr, List, [], ◌∷◌, ◌++◌, length, slice_set, refl, sym, ap, subst, ◌∙◌, arith, Option, Some, None, Result, Ok, Err}
use Rattle.fleet_name.specs.Places.{At, Has}
use Rattle.fleet_name.proofs.Lemmas.{at_same}
use Rattle.fleet_site.specs.OutcomeData.{OutcomeData}
use Rattle.fleet_site.specs.declared.outcome.Refusal.{Refusal}
use Rattle.fleet_site.specs.declared.outcome.SiteFault.{SiteFault}
use Rattle.fleet_site.specs.declared.outcome.SiteFault.TheVariants.{OutOfMemory}
use Rattle.fleet_world.specs.FleetModel.{Replica, SentSweep, FleetModel}
use Rattle.fleet_world.specs.Becomes.{with_delivery_unless, Becomes}
use Rattle.fleet_world.specs.Event.{site_of}
use Rattle.fleet_world.specs.Step.{Step, is_done, is_missing, is_stopped, loses_frames}
use Rattle.fleet_world.specs.Run.{Results, Run}
use Rattle.fleet_world.specs.Reaching.{Restarts, HasWhole, HasReached, itself as reached_itself, stays, by_sweep as reached_by_sweep}
use Rattle.fleet_world.specs.Telling.{StaysUp, WasDelivered, HasSwept, HasTold, itself, by_sweep, onward, ToldReach}
use Rattle.fleet_world.specs.declared.event.Event.{Event}
use Rattle.fleet_world.specs.declared.event.Event.TheVariants.{Datagram, Tick, Sweep, Frame, Deliver, Learn, Flush, Merge, Restart}
use Rattle.fleet_world.specs.declared.stepped.Stepped.{Stepped}
use Rattle.fleet_world.specs.declared.fault.WorldFault.{WorldFault}
use Rattle.fleet_world.proofs.Arrived.{more_itself, credits_grow, delivery_grows}
use Rattle.fleet_world.proofs.Reached.{onward as onward_reach}

-- the site is there, and the frame was delivered to it since it last began
record Holds (m : FleetModel) (j number : ℕ) : Type 0 where
  replica : Replica
  there : At m.sites j replica
  delivered : Has replica.delivered number

-- a member stays, or is what was written
pub at_put : {X : Type 0} (xs : List X) (i j : ℕ) (y x : X) → At xs j x
    → ((j ≡ i) × At (slice_set xs i y) j y) ⊎ At (slice_set xs i y) j x
at_put [] i j y x h = inr h
at_put (z ∷ xs) zero zero y x h = inl (refl, refl)
at_put (z ∷ xs) zero (suc j) y x h = inr h
at_put (z ∷ xs) (suc i) zero y x h = inr h
at_put (z ∷ xs) (suc i) (suc j) y x h = elim (at_put xs i j y x h) [
  | inl p ↦ inl (ap (λ n. suc n) p.0, p.1)
  | inr p ↦ inr p
]

pub at_put_there : {X : Type 0} (xs : List X) (i : ℕ) (x y : X) → At xs i x → At (slice_set xs i y) i y
at_put_there [] i x y h = cc
at_put_there (z ∷ xs) zero x y h = refl
at_put_there (z ∷ xs) (suc i) x y h = at_put_there xs i x y h

-- numbers that were delivered stay so, but where the event begins the site again
module _ (m : FleetModel) where
  abbrev StayDelivered : Replica → Replica → Type 0
  StayDelivered a b = (n : ℕ) → Has a.delivered n → Has b.delivered n

  same_stay : (a b : Replica) → b.delivered ≡ a.delivered → StayDelivered a b
  same_stay a b e n h = subst (λ ns. Has ns n) (sym e) h

  becomes_stay : {A : Type 0} (e : Event A) (r : Result OutcomeData SiteFault) (a b : Replica)
      → Becomes m e r a b → ¬ Restarts e (site_of e) → StayDelivered a b
  becomes_stay (Datagram site now from word bytes) r a b h k = same_stay a b h.joins.delivered
  becomes_stay (Tick site now) r a b h k = same_stay a b h.joins.delivered
  becomes_stay (Frame site now bytes) r a b h k = same_stay a b h.joins.delivered
  becomes_stay (Learn site now bytes) r a b h k = same_stay a b h.joins.delivered
  becomes_stay (Flush site now name) r a b h k = same_stay a b h.joins.delivered
  becomes_stay (Deliver site now number) r a b h k = λ n d.
      subst (λ (x : Replica). Has x.delivered n) (sym h.delivered)
      ((delivery_grows r m.sweeps number h.read h.read (more_itself h.read)).delivered n
      (same_stay a h.read h.calls.joins.delivered n d))
  becomes_stay (Sweep site) (Ok o) a b h k =
      same_stay a b (ap (λ (x : Replica). x.delivered) h.1)
  becomes_stay (Sweep site) (Err (OutOfMemory count)) a b h k =
      same_stay a b (ap (λ (x : Replica). x.delivered) h.1)
  becomes_stay (Merge into from) (Ok o) a b (inl h) k =
      same_stay a b (ap (λ (x : Replica). x.delivered) h.1.1)
  becomes_stay (Merge into from) (Ok o) a b (inr h) k = same_stay a b h.1.0.delivered
  becomes_stay (Merge into from) (Err (OutOfMemory count)) a b h k =
      same_stay a b h.1.joins.delivered
  becomes_stay (Restart site) r a b h k = absurd (k refl)

  set_holds : {A : Type 0} (e : Event A) (r : Result OutcomeData SiteFault) (a b : Replica)
      → At m.sites (site_of e) a → Becomes m e r a b → (j number : ℕ) → ¬ Restarts e j
      → Holds m j number → (fs : List (List ℕ)) (ws : List SentSweep)
      → Holds (record { sites = slice_set m.sites (site_of e) b; frames = fs; sweeps = ws }) j number
  set_holds e r a b at h j number k x fs ws = go (at_put m.sites (site_of e) j b x.replica x.there)
    where
      go : (((j ≡ site_of e) × At (slice_set m.sites (site_of e) b) j b)
          ⊎ At (slice_set m.sites (site_of e) b) j x.replica)
          → Holds (record { sites = slice_set m.sites (site_of e) b; frames = fs; sweeps = ws }) j
          number
      go (inl q) = record {
        replica = b;
        there = q.1;
        delivered =
            let same : x.replica ≡ a = at_same m.sites (site_of e) x.replica a
            (subst (λ i. At m.sites i x.replica) q.0 x.there) at in
            becomes_stay e r a b h (subst (λ i. ¬ Restarts e i) q.0 k) number
            (subst (λ (y : Replica). Has y.delivered number) same x.delivered);
      }
      go (inr q) = record { replica = x.replica; there = q; delivered = x.delivered }

step_holds : {A : Type 0} (m : FleetModel) (e : Event A) (r : Result (Stepped A) (WorldFault A))
    (n : FleetModel) → Step m e r n → (j number : ℕ) → ¬ Restarts e j → Holds m j number
    → Holds n j number
step_holds m e r n (is_done s h told) j number k x =
    subst (λ y. Holds y j number) (sym h.next)
    (set_holds m e (Ok h.outcome) h.old h.new h.there h.becomes j number k x _ _)
step_holds m e r n (is_missing f missing told same) j number k x =
    subst (λ y. Holds y j number) (sym same) x
step_holds m e r n (is_stopped count h told) j number k x =
    subst (λ y. Holds y j number) (sym h.next)
    (set_holds m e (Err (OutOfMemory count)) h.old h.new h.there h.becomes j number k x _ _)
step_holds m e r n (loses_frames s h told) j number k x =
    subst (λ y. Holds y j number) (sym h.next)
    (set_holds m e (Ok h.outcome) h.old h.new h.there h.becomes j number k x _ _)

run_holds : {A : Type 0} (m : FleetModel) (es : List (Event A)) (rs : Results A) (n : FleetModel)
    → Run m es rs n → (j number : ℕ) → StaysUp j es → Holds m j number → Holds n j number
run_holds m [] [] n h j number k x = subst (λ y. Holds y j number) (sym h) x
run_holds m (e ∷ es) (r ∷ rs) n h j number k x =
    run_holds h.0 es rs n h.2 j number (λ f p. k f (inr p))
    (step_holds m e r h.0 h.1 j number (k e (inl refl)) x)
run_holds m [] (r ∷ rs) n h j number k x = absurd h
run_holds m (e ∷ es) [] n h j number k x = absurd h

-- a frame that was brought is held
delivered_whole : (refused : Option Refusal) (ws : List SentSweep) (number : ℕ) (a : Replica)
    → refused ≡ None → Has (with_delivery_unless refused ws number a).delivered number
delivered_whole None ws number a e =
    let c : Replica = record a { delivered = number ∷ a.delivered } in
    (credits_grow ws c c (more_itself c)).delivered number (inl refl)
delivered_whole (Some f) ws number a e = cc

brought : {A : Type 0} (m : FleetModel) (j now number : ℕ) (s : Stepped A) (n : FleetModel)
    → Step m (Deliver j now number) (Ok s) n → s.refused ≡ None → Holds n j number
brought {A} m j now number s n (is_done d h told) k =
    let e : s ≡ d = cc in
    let q : s.refused ≡ h.outcome.refused = ap (λ (x : Stepped A). x.refused) (e ∙ h.says) in
    record {
      replica = h.new;
      there = subst (λ (x : FleetModel). At x.sites j h.new) (sym h.next)
          (at_put_there m.sites j h.old h.new h.there);
      delivered = subst (λ (x : Replica). Has x.delivered number) (sym h.becomes.delivered)
          (delivered_whole h.outcome.refused m.sweeps number h.becomes.read (sym q ∙ k));
    }
brought m j now number s n (is_missing f missing told same) k = cc
brought m j now number s n (is_stopped count h told) k = cc
brought m j now number s n (loses_frames d h told) k = cc

came_holds : {A : Type 0} (m : FleetModel) (es : List (Event A)) (rs : Results A) (n : FleetModel)
    → Run m es rs n → (j number : ℕ) → WasDelivered j number es rs → Holds n j number
came_holds m [] [] n h j number c = absurd c
came_holds m (e ∷ es) (r ∷ rs) n h j number (inl c) =
    run_holds h.0 es rs n h.2 j number c.1
    (brought m j c.0.now number c.0.stepped h.0
    (subst (λ x. Step m (Deliver j c.0.now number) x h.0) c.0.whole
    (subst (λ x. Step m x r h.0) c.0.event h.1)) c.0.accepted)
came_holds m (e ∷ es) (r ∷ rs) n h j number (inr c) = came_holds h.0 es rs n h.2 j number c
came_holds m [] (r ∷ rs) n h j number c = absurd h
came_holds m (e ∷ es) [] n h j number c = absurd h

-- frames that are held are whole
all_held : (n : FleetModel) (j : ℕ) (numbers : List ℕ) → numbers ≢ []
    → ((number : ℕ) → Has numbers number → Holds n j number) → HasWhole n j numbers
all_held n j [] some h = absurd (some refl)
all_held n j (first ∷ numbers) some h =
    let x = h first (inl refl) in
    record {
      replica = x.replica;
      there = x.there;
      some = some;
      delivered = λ number p. let y = h number p in
          subst (λ (z : Replica). Has z.delivered number)
          (at_same n.sites j y.replica x.replica y.there x.there) y.delivered;
    }

-- ---- who is told is reached

module _ {A : Type 0} (k : FleetModel) (i : ℕ) where
  run_stays : (m : FleetModel) (es : List (Event A)) (rs : Results A) (n : FleetModel)
      → Run m es rs n → (j : ℕ) → StaysUp j es → HasReached A k i m j → HasReached A k i n j
  run_stays m [] [] n h j u x = subst (λ y. HasReached A k i y j) (sym h) x
  run_stays m (e ∷ es) (r ∷ rs) n h j u x =
      run_stays h.0 es rs n h.2 j (λ f p. u f (inr p)) (stays m e r x h.1 (u e (inl refl)))
  run_stays m [] (r ∷ rs) n h j u x = absurd h
  run_stays m (e ∷ es) [] n h j u x = absurd h

  swept : (m : FleetModel) (es : List (Event A)) (rs : Results A) (n : FleetModel)
      → Run m es rs n → (j : ℕ) → HasSwept i j es rs → HasReached A k i m i → HasReached A k i n j
  swept m [] [] n h j s x = absurd s
  swept m (e ∷ es) (r ∷ rs) n h j (inl s) x =
      reached_by_sweep m h.0 i s.stepped x
      (subst (λ y. Step m (Sweep i) y h.0) s.whole (subst (λ y. Step m y r h.0) s.event h.1))
      (record { events = es; results = rs; run = h.2 })
      (all_held n j s.stepped.frames s.some
      (λ number p. came_holds h.0 es rs n h.2 j number (s.came number p)))
  swept m (e ∷ es) (r ∷ rs) n h j (inr s) x = swept h.0 es rs n h.2 j s.1 (stays m e r x h.1 s.0)
  swept m [] (r ∷ rs) n h j s x = absurd h
  swept m (e ∷ es) [] n h j s x = absurd h

-- a run in two parts
run_parts : {A : Type 0} (m : FleetModel) (es fs : List (Event A)) (rs qs : Results A)
    (n : FleetModel) → length es ≡ length rs → Run m (es ++ fs) (rs ++ qs) n
    → (mid : FleetModel) × Run m es rs mid × Run mid fs qs n
run_parts m [] fs [] qs n l h = (m, refl, h)
run_parts m (e ∷ es) fs (r ∷ rs) qs n l h =
    let z = run_parts h.0 es fs rs qs n (omega (arith, l)) h.2 in
    (z.0, (h.0, h.1, z.1), z.2)
run_parts m [] fs (r ∷ rs) qs n l h = absurd (omega (arith, l))
run_parts m (e ∷ es) fs [] qs n l h = absurd (omega (arith, l))

told_reach : {A : Type 0} (i j : ℕ) (es : List (Event A)) (rs : Results A) → HasTold i j es rs
    → (m n : FleetModel) → Run m es rs n → HasReached A m i n j
told_reach i j es rs (itself e u) m n run =
    run_stays m i m es rs n run j (subst (λ x. StaysUp x es) (sym e) u) (reached_itself refl e)
told_reach i j es rs (by_sweep s) m n run = swept m i m es rs n run j s (reached_itself refl refl)
told_reach {A} i j es rs (onward h first then firsts thens l x y e q) m n run =
    let z = run_parts m first then firsts thens n l
    (subst (λ u. Run m (first ++ then) u n) q (subst (λ u. Run m u rs n) e run)) in
    onward_reach A m z.0 n i h j (told_reach i h first firsts x m z.0 z.1)
    (told_reach h j then thens y z.0 n z.2)

pub told : (A : Type 0) → ToldReach A
told A m n events results run i j h = told_reach i j events results h m n run
