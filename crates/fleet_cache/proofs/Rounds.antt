-- What rounds of takes leave in memory.
-- Serves `Round::go_on`, `Round::step`, `take_in`, the laws `memory_falls`, `memory_follows`.
use Rattle.std.proofs.Common.{◌≡◌, ℕ, zero, suc, ◌+◌, ◌-◌, ◌*◌, ◌<◌, ◌≤◌, min, Bool, true, false, not, List, [], ◌∷◌, ◌⊎◌, inl, inr, length, nat_le, refl, sym, ap, ◌∙◌, subst, arith}
use mathlib.Core.Bool.{false≢true}
use Rattle.std.specs.Ordering.{is_lt, ordering_reverse}
use Rattle.fleet_name.specs.Name.{wire}
use Rattle.std.specs.declared.cmp.Ordering.{Ordering}
use Rattle.std.specs.declared.cmp.Ordering.TheVariants.{Less, Equal, Greater}
use Rattle.std.proofs.lemmas.Bool.{cases_Bool}
use Rattle.std.proofs.lemmas.Bool.Decides.{nat_tests}
use Rattle.std.proofs.lemmas.Cmp.{tied_itself}
use Rattle.fleet_observe.specs.Members.{Has}
use Rattle.fleet_observe.specs.Observation.{ObservationData, expires}
use Rattle.fleet_observe.specs.Preference.{octets_cmp}
use Rattle.fleet_cache.specs.Live.{lasts}
use Rattle.fleet_cache.specs.Dominates.{dominates}
use Rattle.fleet_cache.specs.Cached.{item_order}
use Rattle.fleet_cache.specs.steps.Held.{IsHeld, IsTaken}
use Rattle.fleet_cache.specs.steps.Packed.{words_of}
use Rattle.fleet_cache.specs.steps.Reclaimed.{StaysIn, AllLive, turn, ComesBefore, IsPassed, IsPassedAt, StopsAfter, IsReclaimed}
use Rattle.fleet_cache.specs.steps.Rounds.{count, is_ahead, may_stay, IsRound, IsBounded, LeavesFew, MemoryData, new_memory, KeepsBounds, IsPurged, AreBehindCalls, AreNext, MemoryFollows, MemoryFalls, HasGone, HasSoonest}
use Rattle.fleet_cache.proofs.Places.{place_laws}
use Rattle.fleet_cache.proofs.Turns.{start_ahead, ahead_to, ahead_from, order, come_after, not_after_itself, turn_exact}
use Rattle.fleet_cache.proofs.Beats.{live_parts}
use Rattle.fleet_cache.proofs.ListedFronts.{words_least}
use Rattle.fleet_cache.proofs.Counting.{count_sub, count_less, count_all, count_most, count_within}

-- whether a moment is before another
pub later_to : (t m : ℕ) → t < m → not (nat_le m t) ≡ true
later_to t m less = grind (arith, nat_tests, less)

pub later_from : (t m : ℕ) → not (nat_le m t) ≡ true → t < m
later_from t m yea = grind (arith, nat_tests, yea)

-- what may stay
stay_unended : (floor : ℕ) (at : List ℕ) (o : ObservationData) → floor < expires o
    → may_stay floor at o ≡ true
stay_unended floor at o less = rw (later_to floor (expires o) less) refl

stay_come : (floor : ℕ) (at : List ℕ) (o : ObservationData) → is_ahead at o ≡ false
    → may_stay floor at o ≡ true
stay_come floor at o come = elim (cases_Bool (lasts floor o)) [
  | inl yea ↦ rw yea refl
  | inr nay ↦ rw (nay, come) refl
]

stay_parts : (floor : ℕ) (at : List ℕ) (o : ObservationData) → may_stay floor at o ≡ true
    → (floor < expires o) ⊎ (is_ahead at o ≡ false)
stay_parts floor at o may = elim (cases_Bool (lasts floor o)) [
  | inl yea ↦ inl (later_from floor (expires o) yea)
  | inr ended ↦ elim (cases_Bool (is_ahead at o)) [
    | inr come ↦ inr come
    | inl ahead ↦ absurd (false≢true (rw (ended, ahead) at may))
  ]
]

module _ (most begun floor : ℕ) (items : List ObservationData) (at : List ℕ) where
  -- how many there are
  pub bounded_within : (owed : ℕ) → IsBounded most begun floor items at owed
      → 3 * length items ≤ 4 * begun + 31
  bounded_within owed b = let r = b.0 in omega (arith, r.ahead, r.all, b.1)

  -- some of them at a later floor, as counts say
  pub round_less : (left later : ℕ) (new : List ObservationData) → floor ≤ later
      → ((p : ObservationData → Bool) → count p new ≤ count p items) → length new ≤ length items
      → IsRound most begun floor items at left → IsRound most begun later new at left
  round_less left later new le fewer size r = record {
    kept = r.kept;
    stays =
        let first : count (may_stay later at) new ≤ count (may_stay floor at) new =
        count_sub (may_stay later at) (may_stay floor at) new (λ o h may. elim (stay_parts later at o may) [
          | inl ends ↦ stay_unended floor at o (omega (arith, le, ends))
          | inr come ↦ stay_come floor at o come
        ]) in
        let then = fewer (may_stay floor at) in
        omega (arith, first, then, r.stays);
    ahead = let then = fewer (is_ahead at) in omega (arith, then, r.ahead);
    paid = r.paid;
    all = omega (arith, size, r.all);
  }

  -- one more came in
  pub round_more : (new : List ObservationData)
      → ((p : ObservationData → Bool) → count p new ≤ count p items + 1)
      → length new ≤ length items + 1 → (owed : ℕ) → IsBounded most begun floor items at owed
      → IsRound most begun floor new at (owed + 4)
  round_more new more size owed b = let r = b.0 in record {
    kept = r.kept + 1;
    stays = let then = more (may_stay floor at) in omega (arith, then, r.stays);
    ahead = let then = more (is_ahead at) in omega (arith, then, r.ahead);
    paid = omega (arith, r.ahead, b.1);
    all = omega (arith, size, r.all);
  }

  -- nothing has ended
  pub round_unended : ((o : ObservationData) → Has items o → floor < expires o)
      → count (lasts floor) items ≤ most → most ≤ begun → IsBounded most begun floor items at 0
  round_unended ends few enough =
      let all : count (lasts floor) items ≡ length items =
      count_all (lasts floor) items (λ o h. later_to floor (expires o) (ends o h)) in
      let stay = count_most (may_stay floor at) items in
      let ahead = count_most (is_ahead at) items in (
        record {
          kept = 0;
          stays = omega (arith, stay, all, few);
          ahead = omega (arith, ahead, all, few, enough);
          paid = omega arith;
          all = omega (arith, all, few, enough);
        },
        omega arith,
      )

  -- the round came to more of them, and what it leaves of these has not ended
  pub round_on : (left rest : ℕ) (to : List ℕ) (new : List ObservationData)
      → ((p : ObservationData → Bool) → count p new ≤ count p items) → length new ≤ length items
      → ((o : ObservationData) → Has new o → is_ahead at o ≡ true → is_ahead to o ≡ false
      → floor < expires o)
      → count (is_ahead to) items + left ≤ count (is_ahead at) items + rest
      → IsRound most begun floor items at left → IsRound most begun floor new to rest
  round_on left rest to new fewer size ends looked r = record {
    kept = r.kept;
    stays =
        let first : count (may_stay floor to) new ≤ count (may_stay floor at) new =
        count_sub (may_stay floor to) (may_stay floor at) new (λ o h may. elim (stay_parts floor to o may) [
          | inl ends ↦ stay_unended floor at o ends
          | inr come ↦ elim (cases_Bool (is_ahead at o)) [
            | inl yea ↦ stay_unended floor at o (ends o h yea come)
            | inr nay ↦ stay_come floor at o nay
          ]
        ]) in
        let then = fewer (may_stay floor at) in
        omega (arith, first, then, r.stays);
    ahead = let then = fewer (is_ahead to) in omega (arith, then, looked, r.ahead);
    paid = r.paid;
    all = omega (arith, size, r.all);
  }

  -- the round came to all of them, and leaves few
  pub round_few : (left : ℕ)
      → ((o : ObservationData) → Has items o → is_ahead at o ≡ true → floor < expires o)
      → IsRound most begun floor items at left → 3 * length items ≤ 3 * most + begun + 34
  round_few left ends r =
      let all : count (may_stay floor at) items ≡ length items =
      count_all (may_stay floor at) items (λ o h. elim (cases_Bool (is_ahead at o)) [
        | inl yea ↦ stay_unended floor at o (ends o h yea)
        | inr nay ↦ stay_come floor at o nay
      ]) in
      omega (arith, all, r.stays, r.paid)

-- at its start a round has yet to come to all
pub round_begins : (most begun floor : ℕ) (items : List ObservationData) (owed : ℕ)
    → count (lasts floor) items ≤ most → length items ≤ begun → owed < 32
    → IsBounded most begun floor items [] owed
round_begins most begun floor items owed few size less =
    let stay : count (may_stay floor []) items ≤ count (lasts floor) items =
    count_sub (may_stay floor []) (lasts floor) items (λ o h may. elim (stay_parts floor [] o may) [
      | inl ends ↦ later_to floor (expires o) ends
      | inr come ↦ absurd (start_ahead o come)
    ]) in
    let ahead = count_most (is_ahead []) items in (
      record {
        kept = 0;
        stays = omega (arith, stay, few);
        ahead = omega (arith, ahead, size);
        paid = omega arith;
        all = omega (arith, size);
      },
      less,
    )

-- at no items
pub round_none : (most begun floor : ℕ) (at : List ℕ) → IsBounded most begun floor [] at 0
round_none most begun floor at = (
  record {
    kept = 0;
    stays = omega arith;
    ahead = omega arith;
    paid = omega arith;
    all = omega arith;
  },
  omega arith,
)

-- an observation does not come after itself
apart : (x : ObservationData) → item_order x x ≡ Greater → ⊥
apart x after = let tied : item_order x x ≡ Equal = tied_itself place_laws.total x in
    absurd (cc)

-- what was dropped is not counted any more
pub reclaimed_fewer : (m : ℕ) (items rest : List ObservationData) → IsHeld rest
    → IsReclaimed m items rest → (p : ObservationData → Bool) → count p rest ≤ count p items
reclaimed_fewer m items rest held r p =
    count_within item_order apart p rest items held.front.descending r.of_items

pub bounded_reclaimed : (most begun floor m : ℕ) (items rest : List ObservationData) (at : List ℕ)
    (owed : ℕ) → floor ≤ m → IsHeld rest → IsReclaimed m items rest
    → IsBounded most begun floor items at owed → IsBounded most begun m rest at owed
bounded_reclaimed most begun floor m items rest at owed le held r b = (
  round_less most begun floor items at owed m rest le (reclaimed_fewer m items rest held r) r.size b.0,
  b.1,
)

pub unended_within : (soonest passed : ℕ) (at : List ℕ) (items rest : List ObservationData)
    → ((o : ObservationData) → Has rest o → Has items o) → HasSoonest soonest passed at items
    → HasSoonest soonest passed at rest
unended_within soonest passed at items rest in_items u = record {
  all = λ o h. u.all o (in_items o h);
  come = λ o h. u.come o (in_items o h);
}

module _ (items new : List ObservationData) (x : ObservationData) where
  -- one more at most is counted after a take
  pub taken_more : (kept : Bool) → IsTaken items new x kept → (p : ObservationData → Bool)
      → count p new ≤ count p items + 1
  taken_more kept t p =
      let first = count_within item_order apart p new (x ∷ items) t.front.descending t.front.of_set in
      elim (cases_Bool (p x)) [
        | inl yea ↦ omega (arith, rw yea at first)
        | inr nay ↦ omega (arith, rw nay at first)
      ]

  -- and nothing is new where it was not kept
  pub taken_known : IsTaken items new x false → (o : ObservationData) → Has new o → Has items o
  taken_known t o h = elim (t.front.of_set o h) [
    | inr there ↦ there
    | inl here ↦
        let c = t.needless.0 refl in
        elim c.2 [
          | inl same ↦ subst (Has items) (same ∙ here) c.1
          | inr over ↦ absurd (false≢true (sym (t.front.undominated o h c.0 (inr c.1))
              ∙ (ap (dominates c.0) (sym here) ∙ over)))
        ]
  ]

  pub taken_fewer : IsTaken items new x false → (p : ObservationData → Bool)
      → count p new ≤ count p items
  taken_fewer t p = count_within item_order apart p new items t.front.descending (taken_known t)

  pub taken_size : IsTaken items new x false → length new ≤ length items
  taken_size t =
      let all = count_all (λ o. true) new (λ o h. refl) in
      let were = count_all (λ o. true) items (λ o h. refl) in
      omega (arith, all, were, taken_fewer t (λ o. true))

  -- what was kept is noted
  pub unended_more : (soonest passed noted also : ℕ) (at : List ℕ) (kept : Bool)
      → IsTaken items new x kept → noted ≤ soonest → also ≤ passed → noted ≤ expires x
      → also ≤ expires x → HasSoonest soonest passed at items → HasSoonest noted also at new
  unended_more soonest passed noted also at kept t le less ends end u = record {
    all = λ o h. elim (t.front.of_set o h) [
      | inl here ↦ subst (λ v. noted ≤ expires v) here ends
      | inr there ↦ let was = u.all o there in omega (arith, le, was)
    ];
    come = λ o h come. elim (t.front.of_set o h) [
      | inl here ↦ subst (λ v. also ≤ expires v) here end
      | inr there ↦ let was = u.come o there come in omega (arith, less, was)
    ];
  }

module _ (floor : ℕ) (items new : List ObservationData) (at to : List ℕ) (soonest passed : ℕ)
    (in_items : (o : ObservationData) → Has new o → Has items o)
    (way : IsPassed (StaysIn items floor false soonest) items at to)
    (stop : StopsAfter items at to)
    (here : (o : ObservationData) → Has new o → words_of o ≡ to
    → (floor < expires o) × (passed ≤ expires o))
    (le : passed ≤ soonest) where
  far : (o : ObservationData) → Has new o → ComesBefore at (words_of o)
      → (to ≡ []) ⊎ ComesBefore (words_of o) to → (floor < expires o) × (passed ≤ expires o)
  far o h after until = let s = way o (in_items o h) after until in
      (s.unended, omega (arith, le, s.not_before))

  near : (o : ObservationData) → Has new o → ComesBefore at (words_of o) → (c : Ordering)
      → octets_cmp (turn (words_of o)) (turn to) ≡ c → is_ahead to o ≡ false → (to ≡ []) ⊎ (4 ≤ length to)
      → (floor < expires o) × (passed ≤ expires o)
  near o h after c e come (inl none) = far o h after (inl none)
  near o h after Less e come (inr long) = far o h after (inr e)
  near o h after Equal e come (inr long) =
      here o h (turn_exact (words_of o) to (words_least (wire o.name)) long e)
  near o h after Greater e come (inr long) =
      let less : octets_cmp (turn to) (turn (words_of o)) ≡ Less =
      order.antisymm (turn to) (turn (words_of o)) ∙ ap ordering_reverse e in
      absurd (false≢true (sym come ∙ ap is_lt less))

  pub come_to : (o : ObservationData) → Has new o → is_ahead at o ≡ true
      → (to ≡ []) ⊎ (is_ahead to o ≡ false) → (floor < expires o) × (passed ≤ expires o)
  come_to o h ahead (inl none) = far o h (ahead_from at o ahead) (inl none)
  come_to o h ahead (inr come) = near o h (ahead_from at o ahead)
      (octets_cmp (turn (words_of o)) (turn to)) refl come (elim stop [
        | inl none ↦ inl none
        | inr s ↦ let least = words_least (wire s.0.name) in let same = ap length s.2 in
            inr (omega (arith, least, same))
      ])

pub reclaimed_none : (m : ℕ) (items : List ObservationData) → IsReclaimed m items items
reclaimed_none m items = record { live_still = refl; of_items = λ o h. h; size = omega arith }

module _ (floor : ℕ) (items : List ObservationData) (at to : List ℕ) (soonest passed : ℕ)
    (way : IsPassed (StaysIn items floor false soonest) items at to)
    (stop : StopsAfter items at to) (le : passed ≤ soonest) where
  -- where it stopped at nothing to drop
  pub gone_by : IsPassedAt (StaysIn items floor false soonest) items to
      → HasGone floor items items at to passed
  gone_by here = record {
    reclaimed = reclaimed_none floor items;
    fewer = λ p. omega arith;
    come = come_to floor items items at to soonest passed (λ o h. h) way stop
        (λ o h key. let s = here o h key in (s.unended, omega (arith, le, s.not_before))) le;
  }

  -- where it dropped of the last front what does not live
  pub gone_over : (new : List ObservationData) → IsHeld new → IsReclaimed floor items new
      → AllLive to floor items new → passed ≤ floor + 1 → HasGone floor items new at to passed
  gone_over new held r lives next = record {
    reclaimed = r;
    fewer = reclaimed_fewer floor items new held r;
    come = come_to floor items new at to soonest passed r.of_items way stop
        (λ o h key. let live = live_parts items floor o (lives o h key) in
        let ends : floor < expires o = grind (arith, nat_tests, live.0) in
        (ends, omega (arith, next, ends))) le;
  }

module _ (floor : ℕ) (items new : List ObservationData) (at to : List ℕ) (was passed : ℕ)
    (gone : HasGone floor items new at to passed) (le : passed ≤ was) where
  -- what the round came to, up to where it is
  pub unended_on : (soonest : ℕ) → HasSoonest soonest was at items → HasSoonest soonest passed to new
  unended_on soonest u = record {
    all = λ o h. u.all o (gone.reclaimed.of_items o h);
    come = λ o h come. elim (cases_Bool (is_ahead at o)) [
      | inl ahead ↦ (gone.come o h ahead (inr come)).1
      | inr behind ↦ let ends = u.come o (gone.reclaimed.of_items o h) behind in omega (arith, le, ends)
    ];
  }

  -- and all of it where it is at the end
  pub unended_all : (soonest most : ℕ) → to ≡ [] → HasSoonest soonest was at items
      → HasSoonest passed most to new
  unended_all soonest most none u = record {
    all = λ o h. elim (cases_Bool (is_ahead at o)) [
      | inl ahead ↦ (gone.come o h ahead (inl none)).1
      | inr behind ↦ let ends = u.come o (gone.reclaimed.of_items o h) behind in omega (arith, le, ends)
    ];
    come = λ o h come. absurd (start_ahead o (subst (λ w. is_ahead w o ≡ false) none come));
  }

  -- the round as it goes on
  pub round_goes : (most begun left rest : ℕ)
      → count (is_ahead to) items + left ≤ count (is_ahead at) items + rest
      → IsRound most begun floor items at left → IsRound most begun floor new to rest
  round_goes most begun left rest looked r = round_on most begun floor items at left rest to new gone.fewer
      gone.reclaimed.size (λ o h ahead come. (gone.come o h ahead (inr come)).0) looked r

  -- what it leaves where it is at the end
  pub round_over : (most begun left : ℕ) → to ≡ [] → IsRound most begun floor items at left
      → 3 * length new ≤ 3 * most + begun + 34
  round_over most begun left none r =
      round_few most begun floor new at left (λ o h ahead. (gone.come o h ahead (inl none)).0)
      (round_less most begun floor items at left floor new (omega arith) gone.fewer gone.reclaimed.size r)

  -- and the next one
  pub round_next : (most begun left : ℕ) → to ≡ [] → count (lasts floor) new ≤ most
      → 3 * most + 34 ≤ 2 * begun → IsRound most begun floor items at left
      → IsBounded most begun floor new to 0
  round_next most begun left none few enough r =
      let over = round_over most begun left none r in
      subst (λ w. IsBounded most begun floor new w 0) (sym none)
      (round_begins most begun floor new 0 few (omega (arith, over, enough)) (omega arith))

-- a step after others
pub reclaimed_on : (m : ℕ) (first items new : List ObservationData) → IsReclaimed m first items
    → IsReclaimed m items new → IsReclaimed m first new
reclaimed_on m first items new a b = record {
  live_still = b.live_still ∙ a.live_still;
  of_items = λ o h. a.of_items o (b.of_items o h);
  size = omega (arith, a.size, b.size);
}

-- where it stopped, at least one front is not ahead any more
pub stops_before : (items : List ObservationData) (at to : List ℕ) → StopsAfter items at to
    → (to ≡ []) ⊎ (count (is_ahead to) items + 1 ≤ count (is_ahead at) items)
stops_before items at to (inl none) = inl none
stops_before items at to (inr s) =
    let first : ComesBefore at to = s.3 in
    inr (count_less (is_ahead to) (is_ahead at) items
    (λ o h ahead. ahead_to at o (come_after at to (words_of o) first (ahead_from to o ahead)))
    s.0 s.1 (not_after_itself to s.0 s.2)
    (ahead_to at s.0 (subst (ComesBefore at) (sym s.2) first)))

pub looked_on : (items : List ObservationData) (at to : List ℕ) (left some rest : ℕ)
    → StopsAfter items at to
    → (to ≡ []) ⊎ (count (is_ahead to) items + left ≤ count (is_ahead at) items + some)
    → rest ≡ min some (left - 1)
    → (to ≡ []) ⊎ (count (is_ahead to) items + left ≤ count (is_ahead at) items + rest)
looked_on items at to left some rest stops (inl none) is = inl none
looked_on items at to left some rest stops (inr looked) is = elim (stops_before items at to stops) [
  | inl none ↦ inl none
  | inr one ↦ inr (omega (arith, is, one, looked))
]

-- one call
bounded_step : (m n : MemoryData) (most begun : ℕ) → 3 * most + 34 ≤ 2 * begun
    → KeepsBounds m n ⊎ (IsPurged m n ⊎ (n ≡ new_memory)) → count (lasts n.floor) n.items ≤ most
    → IsBounded most begun m.floor m.items m.at m.owed
    → IsBounded most begun n.floor n.items n.at n.owed × LeavesFew most begun m.at n.items n.at
bounded_step m n most begun enough (inl keeps) few bounded = keeps most begun enough bounded few
bounded_step m n most begun enough (inr (inl purged)) few bounded = (
  rw (purged.stands, purged.owes)
      (bounded_reclaimed most begun m.floor n.floor m.items n.items m.at m.owed purged.floor
      purged.held purged.reclaimed bounded),
  λ e. inl (sym purged.stands ∙ e),
)
bounded_step m n most begun enough (inr (inr none)) few bounded = (
  subst (λ v. IsBounded most begun v.floor v.items v.at v.owed) (sym none) (round_none most begun 0 []),
  λ e. inr (subst (λ v. 3 * length v.items ≤ 3 * most + begun + 34) (sym none) (omega arith)),
)

-- after each call of a list
bounded_behind : (m : MemoryData) (ns : List MemoryData) (most begun : ℕ) → 3 * most + 34 ≤ 2 * begun
    → AreBehindCalls m ns
    → ((n : MemoryData) → Has ns n → count (lasts n.floor) n.items ≤ most)
    → IsBounded most begun m.floor m.items m.at m.owed → (n : MemoryData) → Has ns n
    → IsBounded most begun n.floor n.items n.at n.owed
bounded_behind m [] most begun enough calls few bounded n h = absurd h
bounded_behind m (first ∷ ns) most begun enough calls few bounded n h =
    let next = (bounded_step m first most begun enough calls.0 (few first (inl refl)) bounded).0 in
    elim h [
      | inl here ↦ subst (λ v. IsBounded most begun v.floor v.items v.at v.owed) here next
      | inr far ↦ bounded_behind first ns most begun enough calls.1 (λ k g. few k (inr g)) next n far
    ]

-- and from each memory to the next one
leaves_behind : (m : MemoryData) (ns : List MemoryData) (most begun : ℕ) → 3 * most + 34 ≤ 2 * begun
    → AreBehindCalls m ns
    → ((n : MemoryData) → Has ns n → count (lasts n.floor) n.items ≤ most)
    → IsBounded most begun m.floor m.items m.at m.owed → (k n : MemoryData) → AreNext (m ∷ ns) k n
    → LeavesFew most begun k.at n.items n.at
leaves_behind m [] most begun enough calls few bounded k n next = absurd next
leaves_behind m (first ∷ ns) most begun enough calls few bounded k n next =
    let step = bounded_step m first most begun enough calls.0 (few first (inl refl)) bounded in
    elim next [
      | inl here ↦ subst (λ v. LeavesFew most begun v.at n.items n.at) here.0
          (subst (λ v. LeavesFew most begun m.at v.items v.at) here.1 step.1)
      | inr far ↦ leaves_behind first ns most begun enough calls.1 (λ j g. few j (inr g)) step.0 k n far
    ]

-- a bound that is wide enough, and no wider than it has to be
half_up : (k : ℕ) → (b : ℕ) × (k ≤ 2 * b) × (2 * b ≤ k + 1)
half_up zero = (0, omega arith, omega arith)
half_up (suc zero) = (1, omega arith, omega arith)
half_up (suc (suc k)) = let h = half_up k in
    let low = h.1 in let high = h.2 in (h.0 + 1, omega (arith, low), omega (arith, high))

pub follows : MemoryFollows
follows ns most calls few n h =
    let half = half_up (3 * most + 34) in
    let low = half.1 in
    let high = half.2 in
    let within = bounded_within most half.0 n.floor n.items n.at n.owed
    (bounded_behind new_memory ns most half.0 low calls few (round_none most half.0 0 []) n h) in
    omega (arith, within, high)

pub falls : MemoryFalls
falls m ns most begun start less calls few size enough =
    let begins : IsBounded most begun m.floor m.items m.at m.owed =
    subst (λ w. IsBounded most begun m.floor m.items w m.owed) (sym start)
    (round_begins most begun m.floor m.items m.owed (few m (inl refl)) size less) in (
      λ n h. bounded_within most begun n.floor n.items n.at n.owed
          (bounded_behind m ns most begun enough calls (λ j g. few j (inr g)) begins n h),
      λ k n next left back. elim (leaves_behind m ns most begun enough calls (λ j g. few j (inr g)) begins
          k n next back) [
            | inl none ↦ absurd (left none)
            | inr there ↦ there
          ],
    )
