-- Sites that have heard of the same agree.
-- Serves the laws `agreement`, `fresh`, `telling`, `withdrawn`.
use Rattle.std.proofs.Common.{◌≡◌, ℕ, ◌<◌, ◌↔◌, List, [], ◌∷◌, ◌++◌, sym, ap₂, subst, ◌∙◌, arith}
use Rattle.fleet_name.specs.Places.{At, Has}
use Rattle.fleet_observe.specs.Observation.{ObservationData, AreObservations, expires}
use Rattle.fleet_cache.specs.Cached.{IsCached, item_order, CacheData}
use Rattle.fleet_cache.specs.Front.{IsFront}
use Rattle.fleet_cache.specs.Laws.{OneCache, CachesExist, OneAnswer}
use Rattle.fleet_cache.proofs.Lemmas.{beats, cached_front, cached_from}
use Rattle.fleet_site.specs.SiteData.{SiteData}
use Rattle.fleet_world.specs.FleetModel.{Replica, FleetModel, opening}
use Rattle.fleet_world.specs.StandsFor.{StandsForReplica}
use Rattle.fleet_world.specs.Run.{Results, Run}
use Rattle.fleet_world.specs.Agreement.{HearsSuch, Lasts, TwoAgree, SpreadAgree}
use Rattle.fleet_world.specs.declared.event.Event.{Event}
use Rattle.fleet_world.proofs.Covers.{shown, shown_from, of_shown}
use Rattle.fleet_world.proofs.Packs.{OneList}
use Rattle.fleet_world.proofs.Kept.{keeps_all}
use Rattle.fleet_world.proofs.Reached.{ran_ok, hears}
use Rattle.fleet_world.proofs.Silent.{quiet}

-- sets with the same members have one front
front_same : (s v items : List ObservationData)
    → ((x : ObservationData) → Has s x → Has v x) → ((x : ObservationData) → Has v x → Has s x)
    → IsFront item_order beats s items → IsFront item_order beats v items
front_same s v items into back front = record {
  descending = front.descending;
  of_set = λ x m. into x (front.of_set x m);
  undominated = λ x m y h. front.undominated x m y (back y h);
  whole = λ x m n. front.whole x (back x m) (λ y h. n y (into y h));
}

-- sets that have the same members but for what has ended have one cache
cached_alike : (s v items : List ObservationData) (u : ℕ) → AreObservations v
    → ((x : ObservationData) → Has s x → u < expires x → Has v x)
    → ((x : ObservationData) → Has v x → u < expires x → Has s x)
    → IsCached s u items → IsCached v u items
cached_alike s v items u lawful into back c =
    cached_from v items u lawful (front_same (shown u s) (shown u v) items
    (λ x m. let r = of_shown u s x m in shown_from u v x (into x r.0 r.1) r.1)
    (λ x m. let r = of_shown u v x m in shown_from u s x (back x r.0 r.1) r.1)
    (cached_front s items u c))

pub run_both : {A : Type 0} (m k n : FleetModel) (es : List (Event A)) (rs : Results A)
    (fs : List (Event A)) (qs : Results A) → Run m es rs k → Run k fs qs n
    → Run m (es ++ fs) (rs ++ qs) n
run_both m k n [] [] fs qs h l = subst (λ x. Run x fs qs n) h l
run_both m k n (e ∷ es) (r ∷ rs) fs qs h l = (h.0, h.1, run_both h.0 k n es rs fs qs h.2 l)
run_both m k n [] (r ∷ rs) fs qs h l = absurd h
run_both m k n (e ∷ es) [] fs qs h l = absurd h

module _ (one : OneList) (exist : CachesExist) (answer : OneAnswer) (cache : OneCache)
    (A : Type 0) where
  pub two : TwoAgree A
  two configs n l i j a b at bt t x y u tu au bu = record {
    held = kept;
    answers = λ name rtype. let c = exist a.site.taken u a_lawful in
        answer a.site.taken b.site.taken c.0 u u name rtype (omega arith) c.1 ((kept c.0).0 c.1);
    caches = caches;
  }
    where
      a_lawful : AreObservations a.site.taken
      a_lawful = λ o m. let ok = (ran_ok one A configs n l).model.sites i a at in
          ok.lawful o (ok.heard_of o m)

      b_heard : (o : ObservationData) → Has a.heard o → u < expires o → Has b.heard o
      b_heard o m k = x o m (omega arith)

      a_heard : (o : ObservationData) → Has b.heard o → u < expires o → Has a.heard o
      a_heard o m k = y o m (omega arith)

      kept : (items : List ObservationData)
          → IsCached a.site.taken u items ↔ IsCached b.site.taken u items
      kept items =
          let ok = (ran_ok one A configs n l).model in
          let p = keeps_all one configs l.events l.results n l.run i a at u au items in
          let q = keeps_all one configs l.events l.results n l.run j b bt u bu items in (
            λ c. q.1 (cached_alike a.heard b.heard items u (ok.sites j b bt).lawful b_heard
                a_heard (p.0 c)),
            λ c. p.1 (cached_alike b.heard a.heard items u (ok.sites i a at).lawful a_heard
                b_heard (q.0 c)),
          )

      caches : (v w : SiteData) → StandsForReplica v a → StandsForReplica w b
          → v.cache.floor ≡ u → w.cache.floor ≡ u → v.cache ≡ w.cache
      caches v w sv sw fv fw =
          let p : a.site.floor ≡ u = sv.floor ∙ fv in
          let q : b.site.floor ≡ u = sw.floor ∙ fw in
          let c = subst (λ f. IsCached a.site.taken f v.cache.items) p sv.items in
          let d = subst (λ f. IsCached b.site.taken f w.cache.items) q sw.items in
          let items : v.cache.items ≡ w.cache.items =
          cache b.site.taken b.site.taken v.cache.items w.cache.items u ((kept v.cache.items).0 c) d
          (record { into = λ o m. m; back = λ o m. m }) in
          let floor : v.cache.floor ≡ w.cache.floor = fv ∙ sym fw in
          ap₂ (λ (f : ℕ) (xs : List ObservationData).
          let c : CacheData = record { floor = f; items = xs } in c) floor items

  pub settled : SpreadAgree A
  settled configs m n l q sites t spread i j a b ii jj at bt u tu au bu =
      two configs n (record {
        events = l.events ++ q.events;
        results = l.results ++ q.results;
        run = run_both (opening configs) m n l.events l.results q.events q.results l.run q.run;
      }) i j a b at bt t (come i a at j b bt jj) (come j b bt i a at ii) u tu au bu
    where
      come : (i : ℕ) (a : Replica) → At n.sites i a → (j : ℕ) (b : Replica) → At n.sites j b
          → Has sites j → HearsSuch (Lasts t) a b
      come i a at j b bt jj o h e =
          let k = quiet one A configs m n l q o
          (record { site = i; replica = a; there = at; heard = h }) in
          let s = spread o k e j jj in
          (hears one A configs m n s.source j s.replica b l s.reached s.there bt).heard o s.heard
