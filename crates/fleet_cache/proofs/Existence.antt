-- Each set of observations has a cache at each floor: of what is live of it, in order, what no such
-- member dominates.
-- Serves law `caches_exist`, and what `Holdings` serves.
use Rattle.std.proofs.Common.{ℕ, ◌≡◌, Bool, false, refl, not, List, [], ◌∷◌, inl, inr, sym, ap, ◌∙◌, subst}
use mathlib.Core.Bool.{false≢true}
use Rattle.std.specs.List.{filter, list_any}
use Rattle.std.specs.Ordering.{ordering_reverse}
use Rattle.std.specs.declared.cmp.Ordering.TheVariants.{Greater}
use Rattle.fleet_observe.specs.Members.{Has}
use Rattle.fleet_observe.specs.Observation.{ObservationData, AreObservations}
use Rattle.fleet_cache.specs.Front.{IsDescending, IsUndominated}
use Rattle.fleet_cache.specs.Live.{live_of}
use Rattle.fleet_cache.specs.Dominates.{dominates}
use Rattle.fleet_cache.specs.Cached.{item_order, IsCached}
use Rattle.fleet_cache.proofs.Places.{place_total, place_exact, place_laws}
use Rattle.std.proofs.lemmas.Bool.{cases_Bool, not-true}
use Rattle.fleet_front.proofs.Lemmas.{ordering_cases, IsDescending-filter, above}
use Rattle.fleet_name.proofs.Lemmas.{Has-filter, Has-in_filter}

-- the members of a list, each once, in order
record Ranked (s : List ObservationData) : Type 0 where
  pub items : List ObservationData
  pub descending : IsDescending item_order items
  pub from : (z : ObservationData) → Has items z → Has s z
  pub to : (z : ObservationData) → Has s z → Has items z

-- after the first
ranked_behind : (x y : ObservationData) (items : List ObservationData) → item_order y x ≡ Greater
    → IsDescending item_order (y ∷ items) → Ranked (x ∷ items) → Ranked (x ∷ y ∷ items)
ranked_behind x y items over down rest = record {
  items = y ∷ rest.items;
  descending = (
    (λ z h. elim (rest.from z h) [
      | inl same ↦ subst (λ v. item_order y v ≡ Greater) same over
      | inr old ↦ down.0 z old
    ]),
    rest.descending,
  );
  from = λ z h. elim h [
    | inl same ↦ inr (inl same)
    | inr far ↦ elim (rest.from z far) [ inl same ↦ inl same | inr old ↦ inr (inr old) ]
  ];
  to = λ z h. elim h [
    | inl same ↦ inr (rest.to z (inl same))
    | inr far ↦ elim far [ inl same ↦ inl same | inr old ↦ inr (rest.to z (inr old)) ]
  ];
}

-- one more
ranked_more : (x : ObservationData) (items : List ObservationData) → IsDescending item_order items
    → Ranked (x ∷ items)
ranked_more x [] down = record {
  items = x ∷ [];
  descending = ((λ z h. absurd h), tt);
  from = λ z h. h;
  to = λ z h. h;
}
ranked_more x (y ∷ items) down = elim (ordering_cases (item_order x y)) [
  | inl less ↦ ranked_behind x y items (place_total.antisymm y x ∙ ap ordering_reverse less) down
      (ranked_more x items down.1)
  | inr more ↦ elim more [
    | inl equal ↦ record {
      items = y ∷ items;
      descending = down;
      from = λ z h. inr h;
      to = λ z h. elim h [ inl same ↦ inl (sym (place_exact x y equal) ∙ same) | inr old ↦ old ];
    }
    | inr greater ↦ record {
      items = x ∷ y ∷ items;
      descending = (
        (λ z h. elim h [
          | inl same ↦ subst (λ v. item_order x v ≡ Greater) same greater
          | inr far ↦ above place_laws x y z greater (down.0 z far)
        ]),
        down,
      );
      from = λ z h. h;
      to = λ z h. h;
    }
  ]
]

rank_all : (s : List ObservationData) → Ranked s
rank_all [] = record { items = []; descending = tt; from = λ z h. h; to = λ z h. h }
rank_all (x ∷ s) =
    let old = rank_all s in
    let new = ranked_more x old.items old.descending in
    record {
      items = new.items;
      descending = new.descending;
      from = λ z h. elim (new.from z h) [ inl same ↦ inl same | inr k ↦ inr (old.from z k) ];
      to = λ z h. new.to z (elim h [ inl same ↦ inl same | inr k ↦ inr (old.to z k) ]);
    }

-- whether a member of a list dominates x
abbrev is_dominated : List ObservationData → ObservationData → Bool
is_dominated s x = list_any (λ y. dominates y x) s

none_over : (s : List ObservationData) (x : ObservationData) → is_dominated s x ≡ false
    → IsUndominated dominates s x
none_over [] x e y h = absurd h
none_over (w ∷ s) x e y h = elim (cases_Bool (dominates w x)) [
  | inl yea ↦ absurd (false≢true (sym (rw yea at e)))
  | inr nay ↦ elim h [
    | inl same ↦ ap (λ v. dominates v x) (sym same) ∙ nay
    | inr far ↦
        none_over s x (rw nay at e) y far
  ]
]

over_none : (s : List ObservationData) (x : ObservationData) → IsUndominated dominates s x
    → is_dominated s x ≡ false
over_none [] x free = refl
over_none (w ∷ s) x free = rw (free w (inl refl)) (over_none s x (λ y h. free y (inr h)))

pub cache_of : (s : List ObservationData) (f : ℕ) → AreObservations s
    → (items : List ObservationData) × IsCached s f items
cache_of s f lawful =
    let seen = live_of s f in
    let all = rank_all seen in
    let test = λ (x : ObservationData). not (is_dominated seen x) in (
      filter test all.items,
      record {
        lawful = lawful;
        front = record {
          descending = IsDescending-filter item_order test all.items all.descending;
          of_set = λ x h. all.from x (Has-filter test all.items x h).0;
          undominated = λ x h. none_over seen x (not-true _ (Has-filter test all.items x h).1);
          whole = λ x m free. Has-in_filter test all.items x (all.to x m)
              (ap not (over_none seen x free));
        };
      },
    )
