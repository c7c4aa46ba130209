-- What is answered of some names is of what bears on them alone.
-- Serves the laws `agreement`, `telling`.
use Rattle.std.proofs.Common.{◌≡◌, ℕ, zero, suc, ◌<◌, ◌≤◌, Bool, true, false, not, ◌&&◌, nat_le, if◌then◌else◌, inl, inr, List, [], ◌++◌, filter, refl, sym, ap, subst, ◌∙◌, arith, append_assoc, Option, Some, None}
use mathlib.Core.Bool.{false≢true}
use Rattle.std.proofs.lemmas.Bool.{or_cases, and_parts, and_from}
use Rattle.std.proofs.lemmas.Map.Lookups.{exact_bytes}
use Rattle.std.specs.Cmp.{Equal-is}
use Rattle.std.specs.Ordering.{is_gt}
use Rattle.fleet_name.specs.Name.{IsUnder}
use Rattle.fleet_name.specs.Places.{At, Has}
use Rattle.fleet_name.proofs.Lemmas.{Has-filter, Has-in_filter}
use Rattle.fleet_observe.specs.declared.bounds.TheConstants.{MOST_LINKS, LONGEST_LIFE}
use Rattle.fleet_observe.specs.Observation.{ObservationData, AreObservations, expires, key_of}
use Rattle.fleet_observe.specs.Preference.{preference}
use Rattle.fleet_observe.specs.declared.observation.kind.Kind.TheVariants.{NameError}
use Rattle.fleet_cache.specs.Answer.{AnswerData, Missed, add_link, by_kind, is_alias, is_link, target, decider, answer_by, answer_within, answer_of, part_at}
use Rattle.fleet_cache.specs.Laws.{CachesExist, OneAnswer, TestsLive, TestsRelevant}
use Rattle.fleet_cache.specs.Live.{IsLive, is_live}
use Rattle.fleet_cache.specs.Relevant.{IsRelevant, is_under, is_relevant}
use Rattle.fleet_cache.specs.Void.{IsVoid, is_flush, voids}
use Rattle.fleet_cache.specs.Cached.{IsCached}
use Rattle.fleet_cache.specs.Dominates.{is_same_key, dominates}
use Rattle.fleet_cache.specs.Front.{IsUndominated}
use Rattle.fleet_cache.proofs.Lemmas.{IsBest, best_filtered, best_unique, beats, key_parts, cached_front, cached_itself}
use Rattle.fleet_site.specs.ConfigData.{ConfigData}
use Rattle.fleet_world.specs.FleetModel.{Replica, FleetModel, opening}
use Rattle.fleet_world.specs.Agreement.{IsAtOrAbove, NamesAgree}
use Rattle.fleet_world.proofs.Packs.{OneList}
use Rattle.fleet_world.specs.Reaching.{RunsTo}
use Rattle.fleet_world.proofs.Covers.{shown, shown_from, of_shown}
use Rattle.fleet_world.proofs.Kept.{keeps_all}
use Rattle.fleet_world.proofs.Reached.{ran_ok}

-- what is the best of one set is the best of another one, where members and tests are the same
best_over : (P Q : ObservationData → Type 0) (s v : List ObservationData)
    → ((o : ObservationData) → Has s o → P o → Has v o × Q o)
    → ((o : ObservationData) → Has v o → Q o → Has s o × P o)
    → (d : Option ObservationData) → IsBest P s d → IsBest Q v d
best_over P Q s v into back None p = λ y h k. let r = back y h k in p y r.0 r.1
best_over P Q s v into back (Some x) p =
    let q = into x p.0 p.1 in (q.0, q.1, λ y h k. let r = back y h k in p.2 y r.0 r.1)

under_itself : (n a : List (List ℕ)) → a ≡ n → IsUnder n a
under_itself n a e = ([], sym e)

under_chain : (n a b : List (List ℕ)) → IsUnder n a → IsUnder a b → IsUnder n b
under_chain n a b f g =
    (f.0 ++ g.0, f.1 ∙ ap (λ xs. f.0 ++ xs) g.1 ∙ sym (append_assoc f.0 g.0 b))

-- what is relevant for a name is at it or above it
relevant_under : (n : List (List ℕ)) (q : ℕ) (o : ObservationData) → IsRelevant n q o
    → IsUnder n o.name
relevant_under n q o (inl h) = under_itself n o.name h.1
relevant_under n q o (inr (inl h)) = under_itself n o.name h.1
relevant_under n q o (inr (inr (inl h))) = under_itself n o.name h.1
relevant_under n q o (inr (inr (inr h))) = h.1

-- a link is at the name for which it is relevant
link_name : (n : List (List ℕ)) (q : ℕ) (o : ObservationData) → IsRelevant n q o
    → is_link q o ≡ true → o.name ≡ n
link_name n q o (inl h) e = h.1
link_name n q o (inr (inl h)) e = h.1
link_name n q o (inr (inr (inl h))) e = h.1
link_name n q o (inr (inr (inr h))) e =
    absurd (false≢true (subst (λ k. is_alias q k o.rtype ≡ true) h.0 e))

-- which observations of a set decide, of a name and a type, at a moment
abbrev asked : ℕ → ℕ → List (List ℕ) → List ObservationData → ObservationData → Bool
asked u q n s o = is_live s u o && is_relevant n q o

module _ (tests : TestsLive) (speaks : TestsRelevant) (u q : ℕ) where
  of_asked : (n : List (List ℕ)) (s : List ObservationData) (o : ObservationData)
      → Has (filter (asked u q n s) s) o → Has s o × IsLive s u o × IsRelevant n q o
  of_asked n s o h =
      let k = Has-filter (asked u q n s) s o h in
      let b = and_parts (is_live s u o) (is_relevant n q o) k.1 in
      (k.0, (tests s u o).0 b.0, (speaks n q o).0 b.1)

  module _ (names : List (List (List ℕ))) (s v : List ObservationData) (ls : AreObservations s)
      (lv : AreObservations v)
      (into : (o : ObservationData) → Has s o → IsAtOrAbove names o → u < expires o → Has v o)
      (back : (o : ObservationData) → Has v o → IsAtOrAbove names o → u < expires o → Has s o) where
    asked_into : (n : List (List ℕ)) → Has names n → (o : ObservationData)
        → Has (filter (asked u q n s) s) o → Has (filter (asked u q n v) v) o
    asked_into n among o h =
        let k = of_asked n s o h in
        let bears = relevant_under n q o k.2 in
        let here : Has v o = into o k.0 (n, among, bears) k.1.0 in
        let spared : IsVoid v o → ⊥ = λ void.
        k.1.1 (
          void.0,
          back void.0 void.1 (n, among, under_chain n o.name void.0.name bears void.2.under)
              (let day : void.0.life ≡ LONGEST_LIFE = ((lv void.0 void.1).flush void.2.flush).life
              in
              let short : o.life ≤ LONGEST_LIFE = (ls o k.0).life.1 in
              let later : o.stamp ≤ void.0.stamp = void.2.later in
              let late : u < expires o = k.1.0 in
              omega (arith, day, short, later, late)),
          void.2,
        ) in
        Has-in_filter (asked u q n v) v o here
        (and_from (is_live v u o) (is_relevant n q o) ((tests v u o).1 (k.1.0, spared))
        ((speaks n q o).1 k.2))

decided_same : (t q : ℕ) (f g : List (List ℕ) → AnswerData) (d : Option ObservationData)
    → ((o : ObservationData) → d ≡ Some o → is_link q o ≡ true → f (target o) ≡ g (target o))
    → answer_by f t q d ≡ answer_by g t q d
decided_same t q f g None h = refl
decided_same t q f g (Some o) h = go (is_link q o) refl
  where
    go : (b : Bool) → is_link q o ≡ b
        → (if b then add_link (part_at t o) (f (target o)) else by_kind (part_at t o))
        ≡ (if b then add_link (part_at t o) (g (target o)) else by_kind (part_at t o))
    go true e = ap (add_link (part_at t o)) (h o refl e)
    go false e = refl

module _ (tests : TestsLive) (speaks : TestsRelevant) (u q : ℕ)
    (names : List (List (List ℕ))) (s v : List ObservationData) (ls : AreObservations s)
    (lv : AreObservations v)
    (into : (o : ObservationData) → Has s o → IsAtOrAbove names o → u < expires o → Has v o)
    (back : (o : ObservationData) → Has v o → IsAtOrAbove names o → u < expires o → Has s o)
    (leads : (o : ObservationData) → Has s o → u < expires o → Has names o.name
    → is_link q o ≡ true → Has names (target o)) where
  deciders_same : (n : List (List ℕ)) → Has names n → decider s u n q ≡ decider v u n q
  deciders_same n among =
      best_unique (λ o. asked u q n v o ≡ true) v (decider s u n q) (decider v u n q)
      (best_over (λ o. asked u q n s o ≡ true) (λ o. asked u q n v o ≡ true) s v
      (λ o h k. Has-filter (asked u q n v) v o
      (asked_into tests speaks u q names s v ls lv into back n among o
      (Has-in_filter (asked u q n s) s o h k)))
      (λ o h k. Has-filter (asked u q n s) s o
      (asked_into tests speaks u q names v s lv ls back into n among o
      (Has-in_filter (asked u q n v) v o h k)))
      (decider s u n q) (best_filtered (asked u q n s) s))
      (best_filtered (asked u q n v) v)

  linked : (n : List (List ℕ)) → Has names n → (o : ObservationData) → decider s u n q ≡ Some o
      → is_link q o ≡ true → Has names (target o)
  linked n among o e link =
      let p = subst (IsBest (λ x. asked u q n s x ≡ true) s) e (best_filtered (asked u q n s) s) in
      let k = of_asked tests speaks u q n s o (Has-in_filter (asked u q n s) s o p.0 p.1) in
      leads o k.0 k.1.0 (subst (Has names) (sym (link_name n q o k.2 link)) among) link

  within_same : (k : ℕ) (n : List (List ℕ)) → Has names n
      → answer_within k s u q n ≡ answer_within k v u q n
  within_same zero n among = ap (answer_by (λ m. Missed) u q) (deciders_same n among)
  within_same (suc k) n among =
      decided_same u q (answer_within k s u q) (answer_within k v u q) (decider s u n q)
      (λ o e link. within_same k (target o) (linked n among o e link))
      ∙ ap (answer_by (answer_within k v u q) u q) (deciders_same n among)

  answers_same : (n : List (List ℕ)) → Has names n → answer_of s u n q ≡ answer_of v u n q
  unfolding answer_of
  answers_same n among = within_same MOST_LINKS n among

-- what beats an observation is at its name, or above it
pub beats_under : TestsRelevant → (y o : ObservationData) → beats y o ≡ true → IsUnder o.name y.name
beats_under speaks y o e = elim (or_cases (dominates y o) (voids y o && nat_le (expires o) (expires y)) e) [
  | inl d ↦
      let k = and_parts (is_same_key y o)
      (is_gt (preference y o) && (nat_le (expires o) (expires y) && nat_le o.stamp y.stamp)) d in
      let n = key_parts y o (exact_bytes (key_of y) (key_of o) ((Equal-is _).0 k.0)) in
      ([], sym n.name)
  | inr w ↦
      let f = and_parts (voids y o) (nat_le (expires o) (expires y)) w in
      let a = and_parts (is_flush y.kind) (not (is_flush o.kind)
      && (is_under o.name y.name && nat_le o.stamp y.stamp)) f.0 in
      let b = and_parts (not (is_flush o.kind))
      (is_under o.name y.name && nat_le o.stamp y.stamp) a.1 in
      let d = and_parts (is_under o.name y.name) (nat_le o.stamp y.stamp) b.1 in
      go ((speaks o.name 0 (record y { kind = NameError })).0 d.0)
]
  where
    go : IsRelevant o.name 0 (record y { kind = NameError }) → IsUnder o.name y.name
    go (inl h) = cc
    go (inr (inl h)) = cc
    go (inr (inr (inl h))) = cc
    go (inr (inr (inr h))) = h.1

-- of the items of two caches at a moment those at some names or above are the same, where each of their
-- sets has what the other one has there
items_within : TestsRelevant → (names : List (List (List ℕ))) (u : ℕ)
    (s v xs ys : List ObservationData) → IsCached s u xs → IsCached v u ys
    → ((o : ObservationData) → Has s o → IsAtOrAbove names o → u < expires o → Has v o)
    → ((o : ObservationData) → Has v o → IsAtOrAbove names o → u < expires o → Has s o)
    → (o : ObservationData) → Has xs o → IsAtOrAbove names o → Has ys o
items_within speaks names u s v xs ys c d into back o m p =
    let k = of_shown u s o ((cached_front s xs u c).of_set o m) in
    (cached_front v ys u d).whole o (shown_from u v o (into o k.0 p k.1) k.1)
    (λ y h. go y h (beats y o) refl)
  where
    go : (y : ObservationData) → Has (shown u v) y → (b : Bool) → beats y o ≡ b → beats y o ≡ false
    go y h false e = e
    go y h true e =
        let r = of_shown u v y h in
        let at : IsAtOrAbove names y =
        (p.0, p.1, under_chain p.0 o.name y.name p.2 (beats_under speaks y o e)) in
        (cached_front s xs u c).undominated o m y (shown_from u s y (back y r.0 at r.1) r.1)

module _ (one : OneList) (exist : CachesExist) (answer : OneAnswer) (tests : TestsLive)
    (speaks : TestsRelevant) (A : Type 0) (configs : List ConfigData) (n : FleetModel)
    (l : RunsTo A (opening configs) n) (u q : ℕ) where
  -- the items of a site's cache at the moment
  record Items (a : Replica) : Type 0 where
    items : List ObservationData
    of_taken : IsCached a.site.taken u items
    of_heard : IsCached a.heard u items
    lawful : AreObservations items

  taken_of : (a : Replica) (c : Items a) (o : ObservationData) → Has c.items o → Has a.site.taken o
  taken_of a c o m =
      (of_shown u a.site.taken o ((cached_front a.site.taken c.items u c.of_taken).of_set o m)).0

  items_of : (i : ℕ) (a : Replica) → At n.sites i a → a.horizon ≤ u → Items a
  items_of i a at le =
      let ok = (ran_ok one A configs n l).model.sites i a at in
      let lawful : AreObservations a.site.taken = λ o m. ok.lawful o (ok.heard_of o m) in
      let c = exist a.site.taken u lawful in record {
        items = c.0;
        of_taken = c.1;
        of_heard = (keeps_all one configs l.events l.results n l.run i a at u le c.0).0 c.1;
        lawful = λ o m. lawful o
            (of_shown u a.site.taken o ((cached_front a.site.taken c.0 u c.1).of_set o m)).0;
      }

  by_items : (a : Replica) (c : Items a) (name : List (List ℕ))
      → answer_of a.site.taken u name q ≡ answer_of c.items u name q
  by_items a c name =
      answer a.site.taken c.items c.items u u name q (omega arith) c.of_taken
      (cached_itself a.site.taken c.items u c.of_taken)

  -- aliases of undominated observations alone have to stay within the names
  pub named_by : (i j : ℕ) (a b : Replica) → At n.sites i a → At n.sites j b
      → (names : List (List (List ℕ)))
      → ((o : ObservationData) → Has a.site.taken o → IsUndominated beats (shown u a.heard) o
      → u < expires o → Has names o.name → is_link q o ≡ true → Has names (target o))
      → ((o : ObservationData) → Has a.heard o → IsAtOrAbove names o → u < expires o
      → Has b.heard o)
      → ((o : ObservationData) → Has b.heard o → IsAtOrAbove names o → u < expires o
      → Has a.heard o)
      → a.horizon ≤ u → b.horizon ≤ u → (name : List (List ℕ)) → Has names name
      → answer_of a.site.taken u name q ≡ answer_of b.site.taken u name q
  named_by i j a b at bt names leads into back au bu name among =
      by_items a c name
      ∙ (answers_same tests speaks u q names c.items d.items c.lawful d.lawful
      (λ o m p late.
      items_within speaks names u a.heard b.heard c.items d.items c.of_heard d.of_heard into back o m
      p)
      (λ o m p late.
      items_within speaks names u b.heard a.heard d.items c.items d.of_heard c.of_heard back into o m
      p)
      (λ o m late here link.
      leads o (taken_of a c o m)
      ((cached_front a.heard c.items u c.of_heard).undominated o m) late here link) name among
      ∙ sym (by_items b d name))
    where
      c : Items a
      c = items_of i a at au

      d : Items b
      d = items_of j b bt bu

module _ (one : OneList) (exist : CachesExist) (answer : OneAnswer) (tests : TestsLive)
    (speaks : TestsRelevant) (A : Type 0) where
  pub named : NamesAgree A
  named configs n l i j a b at bt names t leads x y u tu au bu name among q =
      named_by one exist answer tests speaks A configs n l u q i j a b at bt names
      (λ o m bare late here link. leads o m (omega arith) here q link)
      (λ o m p late. x o m (p, omega arith)) (λ o m p late. y o m (p, omega arith)) au bu name among
