-- Sites of a served fleet agree.
-- Serves law `telling`.
use Rattle.std.proofs.Common.{◌≡◌, ℕ, ◌<◌, ◌≤◌, ◌↔◌, false, append_assoc, inl, inr, List, [], ◌∷◌, ◌++◌, length, refl, sym, ap, subst, ◌∙◌, arith}
use mathlib.Core.Bool.{false≢true}
use Rattle.fleet_name.specs.Types.{Labels}
use Rattle.fleet_name.specs.Name.{IsUnder}
use Rattle.fleet_name.specs.Places.{At, Has}
use Rattle.fleet_name.proofs.Lemmas.{has_either, at_same}
use Rattle.fleet_observe.specs.Observation.{ObservationData, expires}
use Rattle.fleet_cache.proofs.Lemmas.{beats}
use Rattle.fleet_cache.specs.Answer.{answer_of}
use Rattle.fleet_cache.specs.Cached.{IsCached}
use Rattle.fleet_cache.specs.Laws.{OneCache, CachesExist, OneAnswer, TestsLive, TestsRelevant}
use Rattle.fleet_site.specs.ConfigData.{ConfigData}
use Rattle.fleet_site.specs.SiteModel.{SiteModel}
use Rattle.fleet_site.specs.StandsFor.{StandsFor as StandsForSite}
use Rattle.fleet_world.specs.FleetModel.{Replica, FleetModel, opening}
use Rattle.fleet_world.specs.Run.{Results, Run}
use Rattle.fleet_world.specs.Reaching.{RunsTo}
use Rattle.fleet_world.specs.Quiet.{IsKnown}
use Rattle.fleet_world.specs.Agreement.{Lasts, LastsFor, Agree}
use Rattle.fleet_world.specs.Deliveries.{CountsAs, CountAs, HeardMore, IsAlike}
use Rattle.fleet_world.specs.Telling.{TwoAgreeAlike, now_of, AreBy, AllHaveTold, BringNoNewsOf, ToldAgree, ToldAnswer}
use Rattle.fleet_world.specs.declared.event.Event.{Event}
use Rattle.fleet_world.specs.declared.event.Event.TheVariants.{Datagram, Tick, Sweep, Frame, Deliver, Learn, Flush, Merge, Restart}
use Rattle.fleet_world.proofs.Agreed.{run_both, two as delivered_two}
use Rattle.fleet_world.proofs.Addresses.{ran_of}
use Rattle.fleet_world.proofs.Arrived.{alike_itself}
use Rattle.fleet_world.proofs.TellingBusy.{Settled, runs_busy}
use Rattle.fleet_world.proofs.Covers.{Covers, covers_outlives, shown_from}
use Rattle.fleet_world.proofs.TellingLatest.{horizons}
use Rattle.fleet_world.proofs.Named.{beats_under, named_by}
use Rattle.fleet_world.proofs.Packs.{OneList}
use Rattle.fleet_world.proofs.Reached.{ran_ok, hears}
use Rattle.fleet_world.proofs.Silent.{known_within}
use Rattle.fleet_world.proofs.Told.{told}
use Rattle.fleet_world.proofs.Worlds.{zip_at}

-- sites agree where sites that are the same do
agree_same : (a b c d : Replica) (u : ℕ) → c.site ≡ a.site → d.site ≡ b.site → Agree c d u
    → Agree a b u
agree_same a b c d u p q h = record {
  held = λ items.
      subst (λ (s : SiteModel). IsCached s.taken u items ↔ IsCached b.site.taken u items) p
      (subst (λ (s : SiteModel). IsCached c.site.taken u items ↔ IsCached s.taken u items) q
      (h.held items));
  answers = λ name rtype.
      ap (λ (s : SiteModel). answer_of s.taken u name rtype) (sym p) ∙ h.answers name rtype
      ∙ ap (λ (s : SiteModel). answer_of s.taken u name rtype) q;
  caches = λ x y sx sy fx fy.
      h.caches x y (subst (StandsForSite x) (sym p) sx) (subst (StandsForSite y) (sym q) sy) fx fy;
}

-- the site of one fleet in the other
same_site : (n l : FleetModel) → IsAlike n l → (i : ℕ) (a c : Replica) → At n.sites i a
    → At l.sites i c → c.site ≡ a.site
same_site n l alike i a c at ct =
    let z = zip_at HeardMore n.sites l.sites i a alike.sites at in
    let e : z.0 ≡ c = at_same l.sites i z.0 c z.1 ct in
    ap (λ (x : Replica). x.site) (sym e) ∙ z.2.site

-- an event arrives at its moment
same_moment : {A : Type 0} (configs : List ConfigData) (m : FleetModel) (e f : Event A)
    → CountsAs configs m e f → now_of f ≡ now_of e
same_moment configs m (Datagram site now from word bytes) f (inl h) = ap now_of h
same_moment configs m (Datagram site now from word bytes) f (inr h) = ap now_of h.1.delivery
same_moment configs m (Frame site now bytes) f (inl h) = ap now_of h
same_moment configs m (Frame site now bytes) f (inr h) = ap now_of h.delivery
same_moment configs m (Tick site now) f h = ap now_of h
same_moment configs m (Sweep site) f h = ap now_of h
same_moment configs m (Learn site now bytes) f h = ap now_of h
same_moment configs m (Flush site now name) f h = ap now_of h
same_moment configs m (Deliver site now number) f h = ap now_of h
same_moment configs m (Merge into from) f h = ap now_of h
same_moment configs m (Restart site) f h = ap now_of h

arrived_by : {A : Type 0} (configs : List ConfigData) (t : ℕ) (m : FleetModel)
    (es : List (Event A)) (rs : Results A) (n : FleetModel) (run : Run m es rs n)
    (fs : List (Event A)) → CountAs configs m es rs n run fs → AreBy t es → AreBy t fs
arrived_by configs t m [] [] n run [] h l f p = absurd p
arrived_by configs t m (e ∷ es) (r ∷ rs) n run (g ∷ fs) h l f (inl q) =
    let x = same_moment configs m e g h.0 in
    let y : now_of e ≤ t = l e (inl refl) in
    let z : now_of g ≡ now_of f = ap now_of q in omega (arith, x, y, z)
arrived_by configs t m (e ∷ es) (r ∷ rs) n run (g ∷ fs) h l f (inr p) =
    arrived_by configs t run.0 es rs n run.2 fs h.1 (λ d q. l d (inr q)) f p
arrived_by configs t m [] [] n run (g ∷ fs) h l f p = absurd h
arrived_by configs t m (e ∷ es) (r ∷ rs) n run [] h l f p = absurd p
arrived_by configs t m [] (r ∷ rs) n run fs h l f p = absurd run
arrived_by configs t m (e ∷ es) [] n run fs h l f p = absurd run

-- ---- a run, and what is heard of in it as its events arrive

module _ (one : OneList) (A : Type 0) (configs : List ConfigData) (before : List (Event A))
    (firsts : Results A) (m : FleetModel) (first : Run (opening configs) before firsts m)
    (events : List (Event A)) (results : Results A) (n : FleetModel)
    (run : Run m events results n) (arrived : List (Event A))
    (h : CountAs configs m events results n run arrived) (t : ℕ) (lb : AreBy t before)
    (le : AreBy t events) (P : ObservationData → Type 0)
    (quiet : BringNoNewsOf P (length m.frames) m events results n run arrived) where
  ran : RunsTo A (opening configs) m
  ran = record { events = before; results = firsts; run = first }

  -- the same run as its events arrive; whatever is heard of at its end, and is such, was known
  record Heard : Type 0 where
    end : FleetModel
    read : Run m arrived results end
    alike : IsAlike n end
    known : (i : ℕ) (a : Replica) → At end.sites i a → (o : ObservationData) → Has a.heard o
        → P o → IsKnown m o

  heard : Heard
  heard =
      let ok = ran_ok one A configs m ran in
      let l = runs_busy one configs P (IsKnown m) (length m.frames) m m (alike_itself m)
      (ran_of configs A m ran) ok
      (known_within one m ok (Settled one configs P (IsKnown m) (length m.frames)) (λ o k p. k))
      events results n run arrived h quiet in
      record {
        end = l.0;
        read = l.1;
        alike = l.2;
        known = λ i a at o p. l.3.heard i a at o p;
      }

  -- the whole of it
  whole : (x : Heard) → RunsTo A (opening configs) x.end
  whole x = record {
    events = before ++ arrived;
    results = firsts ++ results;
    run = run_both (opening configs) m x.end before firsts arrived results first x.read;
  }

  low : (x : Heard) (i : ℕ) (a : Replica) → At x.end.sites i a → a.horizon ≤ t
  unfolding whole
  low x i a at =
      horizons A configs (before ++ arrived) (firsts ++ results) x.end (whole x).run t
      (λ f p. elim (has_either before arrived f p) [
        | inl q ↦ lb f q
        | inr q ↦ arrived_by configs t m events results n run arrived h le f q
      ]) i a at

  -- of what was known, and is such, a site that was told has heard
  has_come : (x : Heard) → ((o : ObservationData) → P o → t < expires o)
      → ((y o : ObservationData) → Covers y o → P o → P y) → (j : ℕ) (b : Replica)
      → At x.end.sites j b → AllHaveTold P m arrived results j → (o : ObservationData)
      → IsKnown m o → P o → Has b.heard o
  has_come x lasts over j b bt all o k such = elim (all k.site k.replica k.there) [
    | inl none ↦
        let ok = (ran_ok one A configs m ran).model.sites k.site k.replica k.there in
        let l : k.replica.horizon ≤ t =
        horizons A configs before firsts m first t lb k.site k.replica k.there in
        let late : t < expires o = lasts o such in
        let c = ok.covered o k.heard (omega (arith, l, late)) in
        absurd (none c.0 c.1 (over c.0 o c.2 such))
    | inr h ↦
        (hears one A configs m x.end k.site j k.replica b ran
        (told A m x.end arrived results x.read k.site j h) k.there bt).heard o k.heard
  ]

-- what covers lasts as long
lasts_over : (t : ℕ) (y o : ObservationData) → Covers y o → Lasts t o → Lasts t y
lasts_over t y o c late =
    let p : expires o ≤ expires y = covers_outlives y o c in omega (arith, p, late)

-- and is at the name, or above it
covers_under : TestsRelevant → (y o : ObservationData) → Covers y o → IsUnder o.name y.name
covers_under speaks y o (inl e) = ([], ap (λ (x : ObservationData). x.name) (sym e))
covers_under speaks y o (inr e) = beats_under speaks y o e

names_over : TestsRelevant → (names : List Labels) (t : ℕ) (y o : ObservationData) → Covers y o
    → LastsFor names t o → LastsFor names t y
names_over speaks names t y o c h =
    let u = covers_under speaks y o c in
    let n = h.0 in (
      (
        n.0,
        n.1,
        (
          n.2.0 ++ u.0,
          n.2.1 ∙ ap (λ ls. n.2.0 ++ ls) u.1 ∙ sym (append_assoc n.2.0 u.0 y.name),
        ),
      ),
      lasts_over t y o c h.1,
    )

module _ (one : OneList) (exist : CachesExist) (answer : OneAnswer) (cache : OneCache)
    (A : Type 0) where
  pub two : TwoAgreeAlike A
  two configs n l ran alike i j a b c d at bt ct dt t x y u tu cu du =
      agree_same a b c d u (same_site n l alike i a c at ct) (same_site n l alike j b d bt dt)
      (delivered_two one exist answer cache A configs l ran i j c d ct dt t x y u tu cu du)

  pub agree : ToldAgree A
  agree configs before firsts m first events results n run arrived h t lb le quiet i j a b at bt
      ti tj u tu =
      let x = heard one A configs before firsts m first events results n run arrived h t lb le
      (Lasts t) quiet in
      let c = zip_at HeardMore n.sites x.end.sites i a x.alike.sites at in
      let d = zip_at HeardMore n.sites x.end.sites j b x.alike.sites bt in
      let lc = low one A configs before firsts m first events results n run arrived h t lb le
      (Lasts t) quiet x i c.0 c.1 in
      let ld = low one A configs before firsts m first events results n run arrived h t lb le
      (Lasts t) quiet x j d.0 d.1 in
      agree_same a b c.0 d.0 u c.2.site d.2.site
      (delivered_two one exist answer cache A configs x.end
      (whole one A configs before firsts m first events results n run arrived h t lb le (Lasts t)
      quiet x) i j c.0 d.0 c.1 d.1 t
      (λ o p late.
      has_come one A configs before firsts m first events results n run arrived h t lb le (Lasts t)
      quiet x (λ o k. k) (lasts_over t) j d.0 d.1 tj o (x.known i c.0 c.1 o p late) late)
      (λ o p late.
      has_come one A configs before firsts m first events results n run arrived h t lb le (Lasts t)
      quiet x (λ o k. k) (lasts_over t) i c.0 c.1 ti o (x.known j d.0 d.1 o p late) late)
      u tu (omega (arith, lc, tu)) (omega (arith, ld, tu)))

module _ (one : OneList) (exist : CachesExist) (answer : OneAnswer) (tests : TestsLive)
    (speaks : TestsRelevant) (A : Type 0) where
  pub answers : ToldAnswer A
  answers configs before firsts m first events results n run arrived h t lb le names leads quiet
      i j a b at bt ti tj u tu name among rtype =
      let x = heard one A configs before firsts m first events results n run arrived h t lb le
      (LastsFor names t) quiet in
      let c = zip_at HeardMore n.sites x.end.sites i a x.alike.sites at in
      let d = zip_at HeardMore n.sites x.end.sites j b x.alike.sites bt in
      let lc = low one A configs before firsts m first events results n run arrived h t lb le
      (LastsFor names t) quiet x i c.0 c.1 in
      let ld = low one A configs before firsts m first events results n run arrived h t lb le
      (LastsFor names t) quiet x j d.0 d.1 in
      let w = whole one A configs before firsts m first events results n run arrived h t lb le
      (LastsFor names t) quiet x in
      let come = λ (o : ObservationData) (k : IsKnown m o) (such : LastsFor names t o).
      has_come one A configs before firsts m first events results n run arrived h t lb le
      (LastsFor names t) quiet x (λ o k. k.1) (names_over speaks names t) i c.0 c.1 ti o k such in
      ap (λ (s : SiteModel). answer_of s.taken u name rtype) (sym c.2.site)
      ∙ (named_by one exist answer tests speaks A configs x.end w u rtype i j c.0 d.0 c.1 d.1 names
      (λ o taken bare late here link.
      let late_t : t < expires o = omega (arith, late, tu) in
      let heard = ((ran_ok one A configs x.end w).model.sites i c.0 c.1).heard_of o taken in
      let such : LastsFor names t o = ((o.name, here, ([], refl)), late_t) in
      let k = x.known i c.0 c.1 o heard such in
      let ok = (ran_ok one A configs m
      (ran one A configs before firsts m first events results n run arrived h t lb le
      (LastsFor names t) quiet)).model.sites k.site k.replica k.there in
      let low = horizons A configs before firsts m first t lb k.site k.replica k.there in
      let y = ok.covered o k.heard (omega (arith, low, late_t)) in
      elim y.2 [
        | inl e ↦
            leads k.site k.replica k.there o (subst (Has k.replica.site.taken) e y.1) late_t here
            rtype link
        | inr over ↦
            let longer = covers_outlives y.0 o (inr over) in
            let above = come y.0 (record {
              site = k.site;
              replica = k.replica;
              there = k.there;
              heard = ok.heard_of y.0 y.1;
            }) (names_over speaks names t y.0 o (inr over) such) in
            let none : beats y.0 o ≡ false =
            bare y.0 (shown_from u c.0.heard y.0 above (omega (arith, longer, late))) in
            absurd (false≢true (sym none ∙ over))
      ])
      (λ o p bears late.
      has_come one A configs before firsts m first events results n run arrived h t lb le
      (LastsFor names t) quiet x (λ o k. k.1) (names_over speaks names t) j d.0 d.1 tj o
      (x.known i c.0 c.1 o p (bears, omega (arith, late, tu))) (bears, omega (arith, late, tu)))
      (λ o p bears late.
      let such : LastsFor names t o = (bears, omega (arith, late, tu)) in
      come o (x.known j d.0 d.1 o p such) such)
      (omega (arith, lc, tu)) (omega (arith, ld, tu)) name among
      ∙ ap (λ (s : SiteModel). answer_of s.taken u name rtype) d.2.site)
